-- Lists that begin with another list.
use Rattle.std.specs.Prelude.{◌≡◌, List, length, take}

-- a list begins with another one
abbrev pub Extends : {A : Type 0} → List A → List A → Type 0
Extends before after = take (length before) after ≡ before
