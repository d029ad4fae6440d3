-- Data whose text reads as it.
use Rattle.std.proofs.Common.{◌≡◌, ℕ, ◌<◌, ◌≤◌, ◌^◌, List, [], ◌++◌, fold, Bool, true, false, Some, option_map, option_and_then, refl, sym, ap, ap₂, ◌∙◌, arith, append-nil}
use Rattle.std.proofs.lemmas.List.Sums.{fold-append}
use Rattle.json.specs.Token.{Token}
use Rattle.json.specs.Lex.{tokens}
use Rattle.json.specs.Json as json
use Rattle.json.specs.Print.{ends, print, print_from}
use Rattle.json.specs.Tree as tree
use Rattle.json.specs.Tree.{json_tokens, items_tokens, members_tokens}
use Rattle.json.proofs.Printed.Decimals.{IsNumber-decimal}
use Rattle.json.proofs.Printed.Tokens.{print_from-append, tokens-print}
use Rattle.json.proofs.Printed.Trees.{ArePrintable-json_tokens, value-json_tokens}
use Rattle.json.proofs.Numbered.{ArePrintableOrBad-tokens, value-HasNumbers}
use Rattle.serde_json.specs.Data.{Data, null, boolean, number, string, array, object, Items, no_items, item, Members, no_members, member, unsigned, depth, items_depth, members_depth}
use Rattle.serde_json.specs.Read.{max_depth, of_json, read}
use Rattle.serde_json.specs.Written.{compact_text, has_float, items_outline, members_outline, outline, IsInOrder}
use Rattle.serde_json.proofs.Numbers.{number_of-decimal}
use Rattle.serde_json.proofs.Texts.{print-outline, tokens_from_order}
use Rattle.log_doc.specs.Tokens.{IsReadable}

mutual
  same_depth : (value : Data) → tree.depth (outline value) ≤ depth value
  same_depth null = omega arith
  same_depth (boolean b) = omega arith
  same_depth (number n) = omega arith
  same_depth (string s) = omega arith
  same_depth (array ds) = let inner = items_same_depth ds in omega arith
  same_depth (object ms) = let inner = members_same_depth ms in omega arith

  items_same_depth : (ds : Items) → tree.items_depth (items_outline ds) ≤ items_depth ds
  items_same_depth no_items = omega arith
  items_same_depth (item d ds) = omega (arith, same_depth d, items_same_depth ds)

  members_same_depth : (ms : Members) → tree.members_depth (members_outline ms) ≤ members_depth ms
  members_same_depth no_members = omega arith
  members_same_depth (member k d ms) = omega (arith, same_depth d, members_same_depth ms)

-- a text with the tokens of a value is its JSON
parsed : (value : Data) (text : List ℕ) → tokens text ≡ json_tokens (outline value) → depth value ≤ max_depth
    → json.value max_depth (tokens text) ≡ Some (outline value, [])
parsed value text same flat =
    ap (json.value max_depth) (same ∙ sym (append-nil (json_tokens (outline value))))
    ∙ value-json_tokens (outline value) max_depth [] (omega (arith, same_depth value))

read_is : (value : Data) (text : List ℕ) → tokens text ≡ json_tokens (outline value) → depth value ≤ max_depth → read text ≡ of_json (outline value)
read_is value text same flat = ap (λ found. option_and_then of_json (option_and_then (λ p. json.if_last p.0 p.1) found)) (parsed value text same flat)

-- the text of such data reads as it
pub text_reads : (value : Data) → IsReadable value → depth value ≤ max_depth → read (compact_text value) ≡ Some value
text_reads value is flat =
    let same : tokens (compact_text value) ≡ json_tokens (outline value) =
    ap tokens (sym (print-outline value)) ∙ tokens-print (json_tokens (outline value)) (ArePrintable-json_tokens (outline value) is.numbers) in
    read_is value (compact_text value) same flat ∙ is.reads

-- data of which a text was written that reads as it
pub readable_by : (value : Data) (text : List ℕ) → IsInOrder text value → has_float value ≡ false → depth value ≤ max_depth → read text ≡ Some value
    → IsReadable value
readable_by value text order whole flat back =
    let same = tokens_from_order text value order whole in
    record {
      numbers = value-HasNumbers max_depth (tokens text) [] (outline value) (ArePrintableOrBad-tokens text) (parsed value text same flat);
      reads = sym (read_is value text same flat) ∙ back;
    }

-- a number of 64 bits
pub number_readable : (n : ℕ) → n < 2 ^ 64 → IsReadable (number (unsigned n))
number_readable n h = record { numbers = IsNumber-decimal n h; reads = ap (option_map number) (number_of-decimal n h) }

-- ---- the text of tokens that were written in parts

mutual
  json_ends : (c : Bool) (j : json.Json) → fold (λ _ u. ends u) c (json_tokens j) ≡ true
  json_ends c json.null = refl
  json_ends c (json.boolean b) = refl
  json_ends c (json.number s) = refl
  json_ends c (json.string s) = refl
  json_ends c (json.array js) = items_ends false js
  json_ends c (json.object ms) = members_ends false ms

  items_ends : (c : Bool) (js : json.Items) → fold (λ _ u. ends u) c (items_tokens js) ≡ true
  items_ends c json.no_items = refl
  items_ends c (json.item j js) = fold-append (λ _ u. ends u) c (json_tokens j) (items_tokens js) ∙ items_ends _ js

  members_ends : (c : Bool) (ms : json.Members) → fold (λ _ u. ends u) c (members_tokens ms) ≡ true
  members_ends c json.no_members = refl
  members_ends c (json.member k j ms) = fold-append (λ _ u. ends u) false (json_tokens j) (members_tokens ms) ∙ members_ends _ ms

-- a value whose text stands between other texts, after a key
pub print_around : (before after : List Token) (value : Data) → fold (λ _ u. ends u) false before ≡ false
    → print (before ++ (json_tokens (outline value) ++ after)) ≡ print before ++ (compact_text value ++ print_from true after)
print_around before after value at =
    print_from-append false before (json_tokens (outline value) ++ after)
    ∙ ap (λ s. print before ++ s)
    (ap (λ c. print_from c (json_tokens (outline value) ++ after)) at ∙ print_from-append false (json_tokens (outline value)) after
    ∙ ap₂ (λ s c. s ++ print_from c after) (print-outline value) (json_ends false (outline value)))
