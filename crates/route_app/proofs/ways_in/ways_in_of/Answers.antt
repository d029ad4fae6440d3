-- One more link stands at its ends, and in the end all do.
use Rattle.std.proofs.Common.{◌≡◌, ◌∙◌, arith, length, subst}
use Rattle.route_app.specs.Ways.{AreWaysIn}
use Rattle.route_app.proofs.WaysIn.{more_ways}
use Rattle.route_app.proofs.ways_in.ways_in_of.Goals as goal

pub loop-link-preserved : goal.loop-link-preserved
loop-link-preserved c = record {
  size = c.in_ok-add_both.ensures.length ∙ c.loop-link.invariant.size;
  ways = more_ways c.args.wires.now c.loop-link.link c.loop-link.ways_in c.add_both.new.ways_in c.loop-link-test.true
      (let ends = c.requires c.loop-link.link (0, 0, 0, 0) c.loop-link-test.true in let first = ends.0 in let long = c.loop-link.invariant.size in omega arith)
      (let ends = c.requires c.loop-link.link (0, 0, 0, 0) c.loop-link-test.true in let second = ends.1 in let long = c.loop-link.invariant.size in omega arith)
      c.in_ok-add_both.ensures.added c.loop-link.invariant.ways;
}

pub returns-clause-ways : goal.returns-clause-ways
returns-clause-ways c =
    let all : c.loop-link.link ≡ length c.args.wires.now = omega (arith, c.loop-link-test.false) in
    subst (λ n. AreWaysIn n c.args.wires.now c.loop-link.ways_in) all c.loop-link.invariant.ways
