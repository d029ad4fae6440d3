-- The next hop comes to nothing, to an end, or to a stop; or there is none.
use Rattle.std.proofs.Common.{◌≡◌, ◌<◌, ◌≤◌, ◌⊎◌, Some, length, inl, inr, refl, sym, subst, arith}
use Rattle.std.specs.List.{slice_get}
use Rattle.std.proofs.lemmas.Option.{get_or_from_slice_get, slice_get_read}
use Rattle.std.proofs.lemmas.Result.{IfOk-at_ok}
use Rattle.header_classes.specs.Rewrite.{IsValidRewrite}
use Rattle.invariant_check.specs.Turn.{IsTurned}
use Rattle.invariant_check.specs.declared.stop.Hop.{Hop}
use Rattle.invariant_check.specs.declared.search.Turn.{Turn}
use Rattle.invariant_check.specs.declared.search.Turn.TheVariants.{Found, On, Over}
use Rattle.invariant_check.proofs.Known.{when_ok}
use Rattle.invariant_check.proofs.Reaches.{ends_here, goes_here, none_past, nothing_here, stop_here}
use Rattle.invariant_check.proofs.Turns.{first_end, turned_found, turned_leave, turned_over, turned_skip}
use Rattle.invariant_check.proofs.search.Search.turn.Goals as goal

on_or_other : (turn : Turn) → (turn ≡ On) ⊎ (turn ≡ On → ⊥)
on_or_other On = inl refl
on_or_other Over = inr (λ e. cc e)
on_or_other (Found walk) = inr (λ e. cc e)

pub go_on-requires-clause-stop : goal.go_on-requires-clause-stop
go_on-requires-clause-stop c =
    let net = c.args.net.now in
    let top = c.args.self.now.top in
    let hop = c.index.result.now in
    let within : top.next < length top.hops.items = omega (arith, c.if-self-len.true, c.len.ensures, top.hops.ok.0) in
    let here : slice_get top.hops.items top.next ≡ Some hop = slice_get_read top.hops.items (length top.hops.items) top.next hop refl within c.index.ensures in
    let sets = subst (λ (h : Hop). IsValidRewrite h.sets) (get_or_from_slice_get top.hops.items top.next hop hop here) (c.requires.held.top.sets top.next hop within) in
    stop_here net c.args.invariant.now c.args.class.now.cell top.stop top.hops.items top.next hop c.requires.held.top.hops here c.in-Onward.stop (sym c.in-Onward.ensures) c.requires.net sets

pub go_on-requires-clause-onward : goal.go_on-requires-clause-onward
go_on-requires-clause-onward c =
    let top = c.args.self.now.top in
    let hop = c.index.result.now in
    let within : top.next < length top.hops.items = omega (arith, c.if-self-len.true, c.len.ensures, top.hops.ok.0) in
    let here : slice_get top.hops.items top.next ≡ Some hop = slice_get_read top.hops.items (length top.hops.items) top.next hop refl within c.index.ensures in
    goes_here c.args.net.now c.args.invariant.now c.args.class.now.cell top.stop top.hops.items top.next hop c.requires.held.top.hops here c.in-Onward.stop (sym c.in-Onward.ensures)

pub returns-in-Nothing-clause-turn : goal.returns-in-Nothing-clause-turn
returns-in-Nothing-clause-turn c =
    let net = c.args.net.now in
    let class = c.args.class.now in
    let top = c.args.self.now.top in
    let hop = c.index.result.now in
    let within : top.next < length top.hops.items = omega (arith, c.if-self-len.true, c.len.ensures, top.hops.ok.0) in
    let here : slice_get top.hops.items top.next ≡ Some hop = slice_get_read top.hops.items (length top.hops.items) top.next hop refl within c.index.ensures in
    turned_skip net c.args.invariant.now class c.args.self.now c.skip.new.self c.skip.result c.requires.held within c.skip.ensures.turn c.skip.ensures.search (λ h inside finished all _ _.
    nothing_here net c.args.invariant.now class.cell top.stop top.hops.items top.next hop c.requires.held.top.hops here (sym c.in-Nothing.ensures) h inside _ all finished)

pub returns-in_ok-walk-in-End-clause-turn : goal.returns-in_ok-walk-in-End-clause-turn
returns-in_ok-walk-in-End-clause-turn c =
    let net = c.args.net.now in
    let class = c.args.class.now in
    let top = c.args.self.now.top in
    let hop = c.index.result.now in
    let walk = c.in_ok-walk-in-End.field-0 in
    let within : top.next < length top.hops.items = omega (arith, c.if-self-len.true, c.len.ensures, top.hops.ok.0) in
    let here : slice_get top.hops.items top.next ≡ Some hop = slice_get_read top.hops.items (length top.hops.items) top.next hop refl within c.index.ensures in
    let ends = ends_here net c.args.invariant.now class.cell top.stop top.hops.items top.next hop c.requires.held.top.hops here c.in-End.finish (sym c.in-End.ensures) class.header class.inside in
    turned_found net c.args.invariant.now class c.args.self.now c.args.self.now walk (λ from s.
    first_end net c.args.invariant.now class.header from c.args.self.now walk c.in-End.finish s ends.0 ends.1 c.in_ok-walk-in-End.ensures.nodes c.in_ok-walk-in-End.ensures.finish)

pub returns-else-self-len-clause-turn : goal.returns-else-self-len-clause-turn
returns-else-self-len-clause-turn c =
    let net = c.args.net.now in
    let class = c.args.class.now in
    let old = c.args.self.now in
    let new = c.leave.new.self in
    let top = old.top in
    let past : length top.hops.items ≤ top.next = omega (arith, c.if-self-len.false, c.len.ensures, top.hops.ok.0) in
    when_ok c.leave.result (λ turn. IsTurned net c.args.invariant.now class old new turn) (λ turn is. elim (on_or_other turn) [
      | inl on ↦
          let left = IfOk-at_ok (λ (t : Turn). t ≡ On → _) is c.leave.ensures.on on in
          subst (λ (t : Turn). IsTurned net c.args.invariant.now class old new t) (sym on)
          (turned_leave net c.args.invariant.now class old new c.requires.held past left.0 left.1
          (λ h inside q far. none_past net c.args.invariant.now class.cell top.stop top.hops.items top.next q c.requires.held.top.hops past far h inside))
      | inr other ↦
          let over = IfOk-at_ok (λ (t : Turn). (t ≡ On → ⊥) → _) is c.leave.ensures.over other in
          subst (λ (t : Turn). IsTurned net c.args.invariant.now class old new t) (sym over.0)
          (turned_over net c.args.invariant.now class old new over.1
          (λ h inside q far. none_past net c.args.invariant.now class.cell top.stop top.hops.items top.next q c.requires.held.top.hops past far h inside))
    ])
