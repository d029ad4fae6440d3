-- What was written for numbers, parts of lists and lists reads as what they are.
use Rattle.std.proofs.Common.{◌≡◌, ℕ, ◌≤◌, ◌<◌, ◌^◌, ◌+◌, ◌-◌, min, List, [], ◌∷◌, map, length, All, Option, Some, None, Ok, Bool, true, false, refl, ap, ◌∙◌, suc, arith, rules}
use Rattle.std.specs.Option.{option_map_or}
use Rattle.std.specs.Prelude.{IfSome, is_some, nat_le, decimal}
use Rattle.std.proofs.lemmas.List.Elements.{All-head, All-tail}
use Rattle.std.proofs.lemmas.Bool.Decides.{nat_tests}
use Rattle.serde_json.specs.Data.{Data, null, array, Items}
use Rattle.serde_json.specs.Events.{items_len}
use Rattle.serde_json.specs.Find.{as_null, at}
use Rattle.serde_json.specs.View.{items_of}
use Rattle.doc_forms.specs.Forms.{all_read, element, items_in, list, name, number}
use Rattle.doc_forms.specs.Reading.{Reading, ◌>>=◌, refused, under}
use Rattle.doc_forms.specs.Written.{list_data, nullable_data, number_data}
use Rattle.scenario_doc.specs.Packets.{bits, nullable}

-- numbers

pub within : (m n : ℕ) → m ≤ n → nat_le m n ≡ true
within m n h = grind (arith, nat_tests)

pub number_reads : (least most n : ℕ) → least ≤ n → n ≤ most → number least most (number_data n) ≡ Ok n
number_reads least most n low high = rw (within least n low, within n most high)

pub below_power : (width n : ℕ) → n < 2 ^ width → n ≤ 2 ^ width - 1
below_power width n h = omega arith

pub bits_reads : (width n : ℕ) → n < 2 ^ width → bits width (number_data n) ≡ Ok n
bits_reads width n h = number_reads 0 (2 ^ width - 1) n (omega arith) (below_power width n h)

pub narrow : (n : ℕ) → n ≤ 65535 → min n 65535 ≡ n
narrow n h = omega arith

pub name_reads : (n : ℕ) → n ≤ 65535 → name (number_data n) ≡ Ok n
name_reads n h = ap Ok (narrow n h)

-- null, or a value that is never written as null
pub nullable_reads : {A : Type 0} (form : Data → Reading A) (data_of : A → Data) → ((x : A) → is_some (as_null (data_of x)) ≡ false)
    → (found : Option A) → IfSome found (λ x. form (data_of x) ≡ Ok x) → nullable form (nullable_data data_of found) ≡ Ok found
nullable_reads form data_of some None h = refl
nullable_reads form data_of some (Some x) h = rw (some x, h)

-- parts of lists

pub element_reads : {A : Type 0} (form : Data → Reading A) (index : ℕ) (value part : Data) (x : A) → at index value ≡ Some part → form part ≡ Ok x
    → element form index value ≡ Ok x
element_reads form index value part x there reads = rw (there, reads)

-- lists

pub items_len-items_of : (ds : List Data) → items_len (items_of ds) ≡ length ds
items_len-items_of [] = refl
items_len-items_of (d ∷ ds) = ap suc (items_len-items_of ds)

pub length-map_data : {A : Type 0} (data_of : A → Data) (xs : List A) → length (map data_of xs) ≡ length xs
length-map_data data_of [] = refl
length-map_data data_of (x ∷ xs) = ap suc (length-map_data data_of xs)

pub all_reads : {A : Type 0} (form : Data → Reading A) (data_of : A → Data) (first : ℕ) (xs : List A) → All (λ x. form (data_of x) ≡ Ok x) xs
    → all_read form first (items_of (map data_of xs)) ≡ Ok xs
all_reads form data_of first [] h = refl
all_reads form data_of first (x ∷ xs) h =
    rw (All-head (λ y. form (data_of y) ≡ Ok y) x xs h, all_reads form data_of (first + 1) xs (All-tail (λ y. form (data_of y) ≡ Ok y) x xs h))

pub list_reads : {A : Type 0} (form : Data → Reading A) (data_of : A → Data) (most : ℕ) (xs : List A) → length xs ≤ most
    → All (λ x. form (data_of x) ≡ Ok x) xs → list form most (list_data data_of xs) ≡ Ok xs
list_reads form data_of most xs few h =
    let short : nat_le (items_len (items_of (map data_of xs))) most ≡ true =
    within _ _ (omega (arith, items_len-items_of (map data_of xs), length-map_data data_of xs)) in
    rw short (all_reads form data_of 0 xs h)

-- two facts of each element give a third
pub All-both : {A : Type 0} (P Q R : A → Type 0) → ((x : A) → P x → Q x → R x) → (xs : List A) → All P xs → All Q xs → All R xs
All-both P Q R both xs p q k d h = both _ (p k d h) (q k d h)
