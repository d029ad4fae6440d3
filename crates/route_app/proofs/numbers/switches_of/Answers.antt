-- Both ends of one more link are put in.
use Rattle.std.proofs.Common.{◌≡◌, ℕ, List, All, arith, subst, sym, take}
use Rattle.std.proofs.lemmas.List.{take_all}
use Rattle.route_app.proofs.Numbered.{HasEnds, Link, ends_more}
use Rattle.route_app.proofs.numbers.switches_of.Goals as goal

pub loop-link-preserved : goal.loop-link-preserved
loop-link-preserved c = record {
  ascending = c.in_ok-add-2.ensures.ascending;
  ends = ends_more c.args.links.now c.loop-link.link-index c.loop-link.switches.items c.add.new.switches.items c.add-in-loop-link.new.switches.items c.loop-link-test.true c.loop-link.invariant.ends
      c.in_ok-add.ensures.there c.in_ok-add.ensures.kept c.in_ok-add-2.ensures.there c.in_ok-add-2.ensures.kept;
}

pub returns-clause-ends : goal.returns-clause-ends
returns-clause-ends c =
    let all : take c.loop-link.link-index c.args.links.now ≡ c.args.links.now = take_all c.loop-link.link-index c.args.links.now (omega arith) in
    subst (λ (xs : List ℕ). All (HasEnds xs) c.args.links.now) (sym c.of.ensures) (subst (λ (ls : List Link). All (HasEnds c.loop-link.switches.items) ls) all c.loop-link.invariant.ends)
