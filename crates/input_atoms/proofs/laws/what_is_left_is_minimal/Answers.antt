-- By induction over the steps.
use Rattle.input_atoms.proofs.Minimal.{all_needed, fails_on}
use Rattle.input_atoms.proofs.Stepping.{two_parts}
use Rattle.input_atoms.proofs.laws.what_is_left_is_minimal.Goals as goal

pub returns : goal.returns
returns g c = record {
  minimal = λ list left fails none reduced. record { fails = fails_on reduced fails; needed = all_needed reduced (two_parts list) none };
  needed = λ list left none reduced. all_needed reduced (two_parts list) none;
}
