-- The whole replay fails with all atoms, and there are no more atoms than lines.
use Rattle.std.proofs.Common.{◌≡◌, ◌≤◌, length, take, arith, rules, true}
use Rattle.std.proofs.lemmas.List.{length-take}
use Rattle.event_machine.specs.Legal.{world_after}
use Rattle.causal_minimizer.specs.Failing.{IsFound, atoms_of_run}
use Rattle.causal_minimizer.proofs.Everything.{all_fail}
use Rattle.causal_minimizer.proofs.Inputs.{few_atoms}
use Rattle.causal_minimizer.proofs.reduced.reduce.Goals as goal

pub reduced_to-requires-clause-few : goal.reduced_to-requires-clause-few
reduced_to-requires-clause-few g c κs within =
    let script = c.args.setup.now.script in
    let inputs = (world_after g.C.Controller.react g.C.Controller.start c.args.setup.now c.args.trace.now).shared.inputs in
    let own : c.in_ok-atoms.atoms ≡ atoms_of_run g.C.Controller.react g.C.Controller.start c.args.setup.now c.args.trace.now c.args.invariant.now = search rules in
    let few = few_atoms (take inputs script) in
    let cut = length-take inputs script in
    let most : length script ≤ 256 = c.requires.setup.lines in
    rw own (omega arith)

pub reduced_to-requires-clause-all : goal.reduced_to-requires-clause-all
reduced_to-requires-clause-all g c κs within =
    let react = g.C.Controller.react in
    let first = g.C.Controller.start in
    let setup = c.args.setup.now in
    let trace = c.args.trace.now in
    let invariant = c.args.invariant.now in
    let whole = c.in_ok-whole.whole in
    let own : c.in_ok-atoms.atoms ≡ atoms_of_run react first setup trace invariant = search rules in
    let found : IsFound react first setup invariant whole.world true = rw c.if-not-branch.false at c.in_ok-is_violated_in.ensures in
    rw own (all_fail react first c.every_line_is_in_one_atom.ensures.some setup trace invariant whole.run whole.absent whole.world c.requires.legal (c.inputs_are_lines.ensures setup trace.entries c.requires.legal.entries) c.in_ok-whole.ensures.replay found)
