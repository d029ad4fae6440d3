-- At the start the list is that of all numbers; a step by the test as it is now is one by the test at the start.
use Rattle.std.proofs.Common.{rules}
use Rattle.std.specs.List.{range_with_len}
use Rattle.input_atoms.proofs.Alike.{alike_itself, alike_on, goes_alike, over, reduced_over}
use Rattle.input_atoms.proofs.Minimal.{all_needed, fails_on}
use Rattle.input_atoms.proofs.Stepping.{starts, two_parts}
use Rattle.input_atoms.proofs.reduction.ddmin.Goals as goal

pub loop-cut-init : goal.loop-cut-init
loop-cut-init g c = record { cut = starts c.in_ok-numbers.field-0 c.args.n c.in_ok-numbers.ensures c.ranges.n.fits; back = λ left reduced. rw c.in_ok-numbers.ensures at reduced; same = alike_itself (g.P.Probe.fails_at c.args.probe.now); again = c.requires }

pub loop-cut-preserved : goal.loop-cut-preserved
loop-cut-preserved g c =
    let fails_at = g.P.Probe.fails_at in
    let inv = c.loop-cut.invariant in
    let goes = goes_alike (fails_at c.loop-cut.probe) (fails_at c.args.probe.now) inv.same c.loop-cut.cut.list c.loop-cut.cut.parts c.in-Some.next.list c.in-Some.next.parts (search rules) in
    record { cut = goes.cut; back = λ left reduced. inv.back left (goes.back left reduced); same = alike_on (fails_at c.next.new.probe) (fails_at c.loop-cut.probe) (fails_at c.args.probe.now) c.in_ok-next.ensures.same inv.same; again = c.next.ensures.again }

left_of_all : goal.returns-clause-reduced
left_of_all g c =
    let fails_at = g.P.Probe.fails_at in
    let inv = c.loop-cut.invariant in
    inv.back c.loop-cut.cut.list (reduced_over (fails_at c.loop-cut.probe) (fails_at c.args.probe.now) (over (fails_at c.loop-cut.probe) (fails_at c.args.probe.now) inv.same) c.loop-cut.cut.list c.loop-cut.cut.parts c.loop-cut.cut.list (search rules))

pub returns-clause-reduced : goal.returns-clause-reduced
returns-clause-reduced g c = left_of_all g c

pub returns-clause-minimal : goal.returns-clause-minimal
returns-clause-minimal g c = λ fails none. record { fails = fails_on (left_of_all g c) fails; needed = all_needed (left_of_all g c) (two_parts (range_with_len 0 c.args.n)) none }
