-- The forms of JSON values of which documents are made, each with the rules that it breaks where it has not the form:
-- 2 the value is of another JSON type, 3 a key is missing, 4 a key is unknown, 5 a list has another number of elements, 6 a number is
-- out of its range, 7 a word is not known, 9 a list is too long.
use Rattle.std.specs.Prelude.{ℕ, ◌+◌, ◌==◌, ◌&&◌, List, [], ◌∷◌, find, min, not, is_some, nat_le, Option, option_and_then, Ok, Bool, if◌then◌else◌, ⊤}
use Rattle.std.specs.Fmt.{decimal}
use Rattle.std.specs.List.{list_any}
use Rattle.std.specs.Option.{option_map_or}
use Rattle.std.specs.Str.{bytes_eq}
use Rattle.serde_json.specs.Data.{Data, Items, no_items, item, Members, no_members, member}
use Rattle.serde_json.specs.Events.{items_len}
use Rattle.serde_json.specs.Find.{get, at, as_number, as_u64, as_array, as_bool, as_object, as_str}
use Rattle.doc_forms.specs.Reading.{Reading, ◌>>=◌, refused, under, require}

-- what is there, or rule 2
abbrev pub typed : {A : Type 0} → Option A → Reading A
typed found = option_map_or Ok found (refused 2)

-- an unsigned whole number below 2^64
abbrev pub whole : Data → Reading ℕ
whole value = typed (option_and_then as_u64 (as_number value))

-- one in a range
abbrev pub number : ℕ → ℕ → Data → Reading ℕ
number least most value = do
  n ← whole value
  if nat_le least n && nat_le n most then Ok n else refused 6

-- The number of a switch, port, link, host or controller. It has no range: other rules ask what it names. One that is too great for 16
-- bits stands for the greatest of 16 bits, which names nothing either.
abbrev pub name : Data → Reading ℕ
name value = do
  n ← whole value
  Ok (min n 65535)

-- true or false
abbrev pub flag : Data → Reading Bool
flag value = typed (as_bool value)

-- a text
abbrev pub text : Data → Reading (List ℕ)
text value = typed (as_str value)

-- ---- lists

-- a part of a list, by its place from 0
abbrev pub element : {A : Type 0} → (Data → Reading A) → ℕ → Data → Reading A
element form index value = under (decimal index) (option_map_or form (at index value) (refused 2))

-- the elements of a list, at most so many
abbrev pub items_in : ℕ → Data → Reading Items
items_in most value = do
  items ← typed (as_array value)
  if nat_le (items_len items) most then Ok items else refused 9

-- each element read by a form, counted from a number on
abbrev pub all_read : {A : Type 0} → (Data → Reading A) → ℕ → Items → Reading (List A)
all_read form first no_items = Ok []
all_read form first (item value rest) = do
  x ← under (decimal first) (form value)
  xs ← all_read form (first + 1) rest
  Ok (x ∷ xs)

-- a list of at most so many elements of a form
abbrev pub list : {A : Type 0} → (Data → Reading A) → ℕ → Data → Reading (List A)
list form most value = do
  items ← items_in most value
  all_read form 0 items

-- a list with exactly so many elements
abbrev pub counted : ℕ → Data → Reading ⊤
counted count value = do
  items ← typed (as_array value)
  require 5 (items_len items == count)

-- the kind that a word names
abbrev pub kind_of : {K : Type 0} → (List ℕ → Option K) → Data → Reading K
kind_of of_word value = do
  word ← text value
  option_map_or Ok (of_word word) (refused 7)

-- A list with a word at a place that says what else is in it: too short a list has another number of elements than it should, whatever
-- that is.
abbrev pub kind : {K : Type 0} → (List ℕ → Option K) → ℕ → Data → Reading K
kind of_word index value = do
  items ← typed (as_array value)
  enough ← require 5 (nat_le (index + 1) (items_len items))
  element (kind_of of_word) index value

-- ---- objects

-- the keys of an object, in its order
abbrev pub keys_of : Members → List (List ℕ)
keys_of no_members = []
keys_of (member key value rest) = key ∷ keys_of rest

-- a key breaks a rule, if there is such a key
abbrev pub no_key : ℕ → Option (List ℕ) → Reading ⊤
no_key rule found = option_map_or (λ key. under key (refused rule)) found (Ok tt)

-- An object with these keys, which are given in byte order, as those of an object that was read are: the first that is missing breaks
-- a rule, and then the first that is none of them.
abbrev pub keyed : List (List ℕ) → Data → Reading ⊤
keyed keys value = do
  members ← typed (as_object value)
  missing ← no_key 3 (find (λ key. not (is_some (get key value))) keys)
  no_key 4 (find (λ key. not (list_any (bytes_eq key) keys)) (keys_of members))

-- a part of an object, by its key
abbrev pub field : {A : Type 0} → (Data → Reading A) → List ℕ → Data → Reading A
field form key value = under key (option_map_or form (get key value) (refused 2))
