-- The stop is on the path, or was left, or is entered.
use Rattle.std.proofs.Common.{◌≡◌, IsTrue, refl, sym}
use Rattle.std.proofs.lemmas.Bool.{false≢true}
use Rattle.std.proofs.lemmas.Result.{IfOk-at_ok}
use Rattle.of10_match.specs.declared.header.Header.{Header}
use Rattle.header_classes.specs.Cell.{in_cell}
use Rattle.invariant_check.specs.Turn.{IsFrame, IsTurned}
use Rattle.invariant_check.specs.declared.search.Turn.{Turn}
use Rattle.invariant_check.specs.declared.search.Turn.TheVariants.{On}
use Rattle.invariant_check.proofs.Known.{when_ok}
use Rattle.invariant_check.proofs.Turns.{first_back, held_in, tried_back, tried_done, turned_enter, turned_found, turned_skip}
use Rattle.invariant_check.proofs.search.Search.go_on.Goals as goal

pub returns-in_ok-walk_back-clause-turn : goal.returns-in_ok-walk_back-clause-turn
returns-in_ok-walk_back-clause-turn c =
    let net = c.args.net.now in
    let old = c.args.self.now in
    let class = c.is_on_path.new.class in
    let part : (h : Header) → IsTrue (in_cell class.cell h) → IsTrue (in_cell c.args.class.now.cell h) =
    λ h inside. c.inner_cells_are_parts.ensures.part c.args.class.now.cell class.cell h c.is_on_path.ensures.narrowed.inner inside in
    turned_found net c.args.invariant.now class old old c.in_ok-walk_back.field-0 (λ from s.
    first_back net c.args.invariant.now class.header from old c.in_ok-walk_back.field-0 c.args.stop s (c.requires.onward class.header (part class.header class.inside))
    ((c.if-is_on_path.ensures.every class.header class.inside).0 refl) (sym c.if-forbids.ensures) c.in_ok-walk_back.ensures.nodes c.in_ok-walk_back.ensures.finish)

pub returns-else-forbids-clause-turn : goal.returns-else-forbids-clause-turn
returns-else-forbids-clause-turn c =
    let net = c.args.net.now in
    let old = c.args.self.now in
    let class = c.is_on_path.new.class in
    let part : (h : Header) → IsTrue (in_cell class.cell h) → IsTrue (in_cell c.args.class.now.cell h) =
    λ h inside. c.inner_cells_are_parts.ensures.part c.args.class.now.cell class.cell h c.is_on_path.ensures.narrowed.inner inside in
    turned_skip net c.args.invariant.now class old c.skip.new.self c.skip.result (held_in net c.args.class.now.cell class.cell old part c.requires.held) c.requires.more c.skip.ensures.turn
    c.skip.ensures.search (λ h inside finished all is _.
    tried_back net c.args.invariant.now h old c.args.stop all finished (c.requires.onward h (part h inside)) ((c.if-is_on_path.ensures.every h inside).0 refl) (sym c.if-forbids.ensures) is)

pub returns-then-is_among-clause-turn : goal.returns-then-is_among-clause-turn
returns-then-is_among-clause-turn c =
    let net = c.args.net.now in
    let old = c.args.self.now in
    let class = c.is_among.new.class in
    let part : (h : Header) → IsTrue (in_cell class.cell h) → IsTrue (in_cell c.args.class.now.cell h) =
    λ h inside. c.inner_cells_are_parts.ensures.part c.args.class.now.cell c.is_on_path.new.class.cell h c.is_on_path.ensures.narrowed.inner
    (c.inner_cells_are_parts.ensures.part c.is_on_path.new.class.cell class.cell h c.is_among.ensures.narrowed.inner inside) in
    turned_skip net c.args.invariant.now class old c.skip-then-is_among.new.self c.skip-then-is_among.result (held_in net c.args.class.now.cell class.cell old part c.requires.held)
    c.requires.more c.skip-then-is_among.ensures.turn c.skip-then-is_among.ensures.search (λ h inside finished all _ is.
    tried_done net c.args.invariant.now h old c.args.stop all finished (c.requires.onward h (part h inside))
    (rw c.as_slice.ensures.value at ((c.if-is_among.ensures.every h inside).0 refl)) is)

pub returns-else-is_among-clause-turn : goal.returns-else-is_among-clause-turn
returns-else-is_among-clause-turn c =
    let net = c.args.net.now in
    let old = c.args.self.now in
    let new = c.enter.new.self in
    let class = c.enter.new.class in
    let into_third : (h : Header) → IsTrue (in_cell class.cell h) → IsTrue (in_cell c.is_among.new.class.cell h) =
    λ h inside. c.inner_cells_are_parts.ensures.part c.is_among.new.class.cell class.cell h c.enter.ensures.narrowed.inner inside in
    let into_second : (h : Header) → IsTrue (in_cell class.cell h) → IsTrue (in_cell c.is_on_path.new.class.cell h) =
    λ h inside. c.inner_cells_are_parts.ensures.part c.is_on_path.new.class.cell c.is_among.new.class.cell h c.is_among.ensures.narrowed.inner (into_third h inside) in
    let part : (h : Header) → IsTrue (in_cell class.cell h) → IsTrue (in_cell c.args.class.now.cell h) =
    λ h inside. c.inner_cells_are_parts.ensures.part c.args.class.now.cell c.is_on_path.new.class.cell h c.is_on_path.ensures.narrowed.inner (into_second h inside) in
    when_ok c.enter.result (λ turn. IsTurned net c.args.invariant.now class old new turn) (λ turn is.
    turned_enter net c.args.invariant.now class old new turn c.args.stop (held_in net c.args.class.now.cell class.cell old part c.requires.held)
    (IfOk-at_ok (λ (t : Turn). t ≡ On) is c.enter.ensures.turn) (IfOk-at_ok (λ (t : Turn). IsFrame net class.cell new.top) is c.enter.ensures.frame)
    (IfOk-at_ok (λ (t : Turn). new.top.stop ≡ c.args.stop) is c.enter.ensures.top) (IfOk-at_ok (λ (t : Turn). new.top.next ≡ 0) is c.enter.ensures.next)
    (IfOk-at_ok (λ (t : Turn). _) is c.enter.ensures.below) (IfOk-at_ok (λ (t : Turn). new.done ≡ old.done) is c.enter.ensures.done)
    (λ h inside. c.requires.onward h (part h inside))
    (λ h inside i. false≢true ((c.if-is_on_path.ensures.every h (into_second h inside)).1 i))
    (λ h inside i. false≢true ((c.if-is_among.ensures.every h (into_third h inside)).1 (rw c.as_slice.ensures.value i))))
