-- What is left by a test is what is left by each that tells as much.
use Rattle.std.proofs.Common.{ℕ, List, Bool, Result, IfOk}
use Rattle.std.proofs.lemmas.Result.{IfOk-weaker}
use Rattle.input_atoms.specs.Ddmin.{IsReduced}
use Rattle.input_atoms.proofs.Alike.{reduced_over}

pub left_over : {E : Type 0} (r : Result (List ℕ) E) (one other : List ℕ → Bool → Type 0) (list : List ℕ) (parts : ℕ) → IfOk r (IsReduced one list parts) → ((list : List ℕ) (failed : Bool) → one list failed → other list failed) → IfOk r (IsReduced other list parts)
left_over r one other list parts reduced on = IfOk-weaker r _ _ (λ left known. reduced_over one other on list parts left known) reduced
