-- The data that stands for plain parts of documents.
use Rattle.std.specs.Prelude.{ℕ, List, map, Option}
use Rattle.std.specs.Option.{option_map_or}
use Rattle.serde_json.specs.Data.{Data, null, number, unsigned, string, array}
use Rattle.serde_json.specs.View.{items_of}

-- an unsigned whole number
abbrev pub number_data : ℕ → Data
number_data n = number (unsigned n)

-- null, or what stands for what is there
abbrev pub nullable_data : {A : Type 0} → (A → Data) → Option A → Data
nullable_data data_of found = option_map_or data_of found null

-- a list of parts
abbrev pub parts_data : List Data → Data
parts_data parts = array (items_of parts)

-- a list, each element by what stands for it
abbrev pub list_data : {A : Type 0} → (A → Data) → List A → Data
list_data data_of xs = array (items_of (map data_of xs))
