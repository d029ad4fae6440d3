-- None of the atoms that are enough can be left out.
use Rattle.std.proofs.Common.{ℕ, List, [], length, arith}
use Rattle.std.specs.List.{range_with_len, remove}
use Rattle.controller_api.specs.Reaction.{Reaction}
use Rattle.controller_api.specs.declared.item.UpItem.{UpItem}
use Rattle.machine_setup.specs.declared.setup.Setup.{Setup}
use Rattle.topology.specs.declared.invariant.Invariant.{Invariant}
use Rattle.event_machine.specs.declared.trace.Trace.{Trace}
use Rattle.input_atoms.specs.Cutting.{NoneFails}
use Rattle.input_atoms.proofs.Minimal.{all_needed}
use Rattle.input_atoms.proofs.Stepping.{two_parts}
use Rattle.causal_minimizer.specs.Failing.{AreEnough, Fails, atoms_of_run}

module _ {C : Type 0} (react : C → UpItem → Reaction C) (first : C → C) (setup : Setup C) (trace : Trace) (invariant : Invariant) where
  pub none_left_out : (numbers : List ℕ) → AreEnough react first setup trace invariant numbers
      → NoneFails (Fails react first setup trace invariant) (remove numbers) (length numbers)
  none_left_out [] (AreEnough.nothing fails) = λ k within. absurd (omega arith)
  none_left_out left (AreEnough.some same none reduced) =
      all_needed reduced (two_parts (range_with_len 0 (length (atoms_of_run react first setup trace invariant)))) none
