-- Reading the elements of a list one by one.
use Rattle.std.proofs.Common.{List, ◌++◌, Ok, Err}
use Rattle.doc_forms.specs.Reading.{Reading}

-- what was read already stands before what is read of the rest
abbrev pub with_front : {A : Type 0} → List A → Reading (List A) → Reading (List A)
with_front front (Ok rest) = Ok (front ++ rest)
with_front front (Err why) = Err why
