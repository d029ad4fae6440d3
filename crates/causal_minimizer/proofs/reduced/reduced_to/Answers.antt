-- The last replay is the one that the atoms that are enough have, so it ends in a violation.
use Rattle.std.proofs.Common.{◌≡◌, ◌∙◌, ap, subst, true, length, List, ℕ}
use Rattle.event_world.specs.World.{Situation}
use Rattle.causal_minimizer.specs.Failing.{IsFound, IsReplayWith, atoms_with}
use Rattle.causal_minimizer.proofs.reduced.reduced_to.Goals as goal

pub returns-clause-reduced : goal.returns-clause-reduced
returns-clause-reduced g c =
    let react = g.C.Controller.react in
    let first = g.C.Controller.start in
    let setup = c.args.setup.now in
    let trace = c.args.trace.now in
    let invariant = c.args.invariant.now in
    let numbers = c.in_ok-numbers.numbers in
    let replayed = c.in_ok-replayed.replayed in
    let fails = c.in_ok-numbers.ensures.fails in
    let replay : IsReplayWith react first setup trace invariant (atoms_with c.args.atoms.now numbers) replayed.run replayed.absent replayed.world =
    rw c.as_slice.ensures at (c.in_ok-replayed.ensures.replay invariant) in
    let own = rw c.requires.own at replay in
    let one = c.there_is_one_replay.ensures setup trace.entries _ fails.run replayed.run fails.absent replayed.absent fails.world replayed.world fails.replay own in
    let chosen : c.in_ok-atoms_with.field-0 ≡ atoms_with c.args.atoms.now numbers = c.in_ok-atoms_with.ensures ∙ ap (λ (list : List ℕ). atoms_with c.args.atoms.now list) c.as_slice-2.ensures in
    record {
      numbers = numbers;
      enough = c.in_ok-numbers.ensures.enough;
      kept = chosen ∙ ap (λ (atoms : List (List ℕ)). atoms_with atoms numbers) c.requires.own;
      all = c.len.ensures ∙ ap length c.requires.own;
      replay = rw chosen replay;
      violated = subst (λ (world : Situation _). IsFound react first setup invariant world true) one.2 fails.found;
    }
