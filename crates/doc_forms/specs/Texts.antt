-- Which bytes are a document, what it stands for, and what is wrong with the others.
use Rattle.std.specs.Prelude.{◌≡◌, ℕ, ◌⊎◌, List, [], ◌∷◌, Some, Ok, Err, codes, IsUtf8, ⊤}
use Rattle.serde_json.specs.Data.{Data}
use Rattle.serde_json.specs.Read.{read}
use Rattle.doc_forms.specs.declared.fail.DocFail.{DocFail}
use Rattle.doc_forms.specs.declared.fail.DocFail.TheVariants.{Refused, OutOfMemory}
use Rattle.doc_forms.specs.Reading.{Reading}

-- the bytes are one JSON value in UTF-8
abbrev pub IsJson : List ℕ → Data → Type 0
IsJson bytes value = IsUtf8 bytes × (read bytes ≡ Some value)

-- the bytes are not one JSON value
abbrev pub IsNoJson : List ℕ → Type 0
IsNoJson bytes = (value : Data) → ¬ IsJson bytes value

-- a path from the root of a document; that of the root itself is `/`
abbrev pub rooted : List ℕ → List ℕ
rooted [] = codes "/"
rooted (step ∷ rest) = step ∷ rest

-- the bytes are a document of a form that stands for something
abbrev pub IsText : {A : Type 0} → (Data → Reading A) → List ℕ → A → Type 0
IsText form bytes x = (value : Data) × IsJson bytes value × (form value ≡ Ok x)

-- the bytes are one JSON value that has not the form
abbrev pub IsBroken : {A : Type 0} → (Data → Reading A) → List ℕ → ℕ → List ℕ → Type 0
IsBroken form bytes number path = (value : Data) × (inner : List ℕ) × IsJson bytes value × (form value ≡ Err (Refused number inner)) × (path ≡ rooted inner)

-- Why bytes are refused: rule 1 of the whole document where they are not one JSON value, else the first rule that the value breaks.
abbrev pub IsRefused : {A : Type 0} → (Data → Reading A) → List ℕ → DocFail → Type 0
IsRefused form bytes (Refused number path) = ((number ≡ 1) × (path ≡ codes "/") × IsNoJson bytes) ⊎ IsBroken form bytes number path
IsRefused form bytes OutOfMemory = ⊤

-- a refusal of the whole document by a rule, unless there was no memory to say so
abbrev pub IsRefusedAtRoot : ℕ → DocFail → Type 0
IsRefusedAtRoot rule (Refused number path) = (number ≡ rule) × (path ≡ codes "/")
IsRefusedAtRoot rule OutOfMemory = ⊤

-- a refusal is told with its path from the root, unless there was no memory to say so
abbrev pub IsRooted : DocFail → DocFail → Type 0
IsRooted (Refused rule inner) (Refused number path) = (number ≡ rule) × (path ≡ rooted inner)
IsRooted OutOfMemory (Refused number path) = ⊥
IsRooted why OutOfMemory = ⊤
