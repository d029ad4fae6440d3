-- What a form makes of a part of a document: what the part stands for, or the first rule that it breaks, and where.
use Rattle.std.specs.Prelude.{◌≡◌, ℕ, List, [], ◌∷◌, ◌++◌, Result, Ok, Err, Bool, if◌then◌else◌, ⊤}
use Rattle.doc_forms.specs.declared.fail.DocFail.{DocFail}
use Rattle.doc_forms.specs.declared.fail.DocFail.TheVariants.{Refused, OutOfMemory}

-- what a part stands for, or the rule that it breaks, with the path from the part to the place where it does
abbrev pub Reading : Type 0 → Type 0
Reading A = Result A DocFail

-- the second reading, if the first gives a value
infixl 10 ◌>>=◌
abbrev pub ◌>>=◌ : {A B : Type 0} → Reading A → (A → Reading B) → Reading B
Ok x >>= next = next x
Err why >>= next = Err why

-- the part itself breaks a rule
abbrev pub refused : {A : Type 0} → ℕ → Reading A
refused number = Err (Refused number [])

-- what is read of a part, told of the value that has the part, by the step from the value to it: the path begins with `/` and the step
abbrev pub under : {A : Type 0} → List ℕ → Reading A → Reading A
under step (Ok x) = Ok x
under step (Err (Refused number path)) = Err (Refused number (47 ∷ step ++ path))
under step (Err OutOfMemory) = Err OutOfMemory

-- a rule of the part itself
abbrev pub require : ℕ → Bool → Reading ⊤
require number is_kept = if is_kept then Ok tt else refused number

-- a call answers what a reading gives; want of memory says nothing of it
abbrev pub Gives : {A : Type 0} → Result A DocFail → Reading A → Type 0
Gives (Ok x) reading = reading ≡ Ok x
Gives (Err (Refused number path)) reading = reading ≡ Err (Refused number path)
Gives (Err OutOfMemory) reading = ⊤
