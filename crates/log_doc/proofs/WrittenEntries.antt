-- The entries of a log read back.
use Rattle.std.proofs.Common.{inl, inr, ◌++◌, ◌≡◌, ℕ, ◌≤◌, ◌<◌, ◌^◌, ◌+◌, ◌-◌, zero, suc, List, [], ◌∷◌, map, length, take, get_or, All, Option, Some, None, Result, Ok, Err, Bool, true, false, refl, sym, ap, subst, ◌∙◌, append-nil, append_assoc, arith, rules}
use Rattle.std.specs.Prelude.{OnOk, nat_le, ⊤}
use Rattle.std.proofs.Math.Seq.{take-suc}
use Rattle.std.proofs.lemmas.Grind.{flat_map-append}
use Rattle.std.proofs.lemmas.List.Elements.{All-head, All-tail}
use Rattle.std.proofs.lemmas.Bool.{cases_lt}
use Rattle.std.proofs.lemmas.Bool.Decides.{nat_tests}
use Rattle.json.specs.Token.{Token, begin_array, end_array}
use Rattle.json.specs.Tree.{items_tokens}
use Rattle.serde_json.specs.Data.{Data}
use Rattle.serde_json.specs.Events.{items_len}
use Rattle.serde_json.specs.View.{items_of}
use Rattle.serde_json.specs.Written.{items_outline}
use Rattle.event_world.specs.declared.event.Event.{Event}
use Rattle.event_world.specs.declared.event.Event.TheVariants as event
use Rattle.event_machine.specs.declared.trace.End.{End}
use Rattle.event_machine.specs.declared.trace.End.TheVariants.{Quiet, Full}
use Rattle.event_machine.specs.declared.trace.Entry.{Entry}
use Rattle.message_pools.specs.declared.item.Item.{Item}
use Rattle.doc_forms.specs.Forms.{all_read, list, number}
use Rattle.doc_forms.specs.Reading.{Reading, require, ◌>>=◌}
use Rattle.doc_forms.specs.Written.{list_data, number_data}
use Rattle.scenario_doc.specs.Packets.{bits}
use Rattle.scenario_doc.specs.Rules.{at, each, each_from}
use Rattle.log_doc.specs.Entries.{end_of, entry_of, entry_rules, has_item, item_of, item_place}
use Rattle.log_doc.specs.Tokens.{data_tokens, entries_tokens}
use Rattle.log_doc.specs.Written.{HasTaken, IsNarrowEvent, IsTaken, IsWritableEntry, end_data, entry_data, event_data, hex_data, taken_bytes}
use Rattle.log_doc.specs.declared.items.ItemKind.{ItemKind}
use Rattle.log_doc.specs.declared.items.ItemKind.TheVariants as kind

-- ---- numbers and lists

within : (m n : ℕ) → m ≤ n → nat_le m n ≡ true
within m n h = grind (arith, nat_tests)

number_reads : (least most n : ℕ) → least ≤ n → n ≤ most → number least most (number_data n) ≡ Ok n
number_reads least most n low high = rw (within least n low, within n most high)

below_power : (width n : ℕ) → n < 2 ^ width → n ≤ 2 ^ width - 1
below_power width n h = omega arith

bits_reads : (width n : ℕ) → n < 2 ^ width → bits width (number_data n) ≡ Ok n
bits_reads width n h = number_reads 0 (2 ^ width - 1) n (omega arith) (below_power width n h)

items_len-map : {A : Type 0} (data_of : A → Data) (xs : List A) → items_len (items_of (map data_of xs)) ≡ length xs
items_len-map data_of [] = refl
items_len-map data_of (x ∷ xs) = ap suc (items_len-map data_of xs)

all_reads : {A : Type 0} (form : Data → Reading A) (data_of : A → Data) (first : ℕ) (xs : List A) → All (λ x. form (data_of x) ≡ Ok x) xs
    → all_read form first (items_of (map data_of xs)) ≡ Ok xs
all_reads form data_of first [] h = refl
all_reads form data_of first (x ∷ xs) h =
    rw (All-head (λ y. form (data_of y) ≡ Ok y) x xs h, all_reads form data_of (first + 1) xs (All-tail (λ y. form (data_of y) ≡ Ok y) x xs h))

pub list_reads : {A : Type 0} (form : Data → Reading A) (data_of : A → Data) (most : ℕ) (xs : List A) → length xs ≤ most
    → All (λ x. form (data_of x) ≡ Ok x) xs → list form most (list_data data_of xs) ≡ Ok xs
list_reads form data_of most xs few h =
    let short : nat_le (items_len (items_of (map data_of xs))) most ≡ true = within _ _ (omega (arith, items_len-map data_of xs)) in
    rw short (all_reads form data_of 0 xs h)

-- ---- an entry

-- what an event took reads as that, in the pool of its kind
abbrev pub TakenReads : Option Item → Type 0
TakenReads taken = (pool : ItemKind) → IsTaken pool taken → item_of pool (hex_data (taken_bytes taken)) ≡ Ok taken

event_reads : (worker count : ℕ) (what : Event) (taken : Option Item) → worker < 2 ^ 32 → count < 2 ^ 64 → IsNarrowEvent what → HasTaken what taken
    → TakenReads taken
    → entry_of (event_data worker count what (hex_data (taken_bytes taken))) ≡ Ok (record { worker = worker; number = count; event = what; item = taken })
event_reads worker count (event.In position) taken w c n t reads = rw (bits_reads 32 worker w, bits_reads 64 count c, bits_reads 32 position n, t)
event_reads worker count (event.Ctl s item) taken w c n t reads =
    rw (bits_reads 32 worker w, bits_reads 64 count c, bits_reads 16 s n.0, bits_reads 64 item n.1, reads kind.Message t)
event_reads worker count (event.Pkt s p item) taken w c n t reads =
    rw (bits_reads 32 worker w, bits_reads 64 count c, bits_reads 16 s n.0, bits_reads 16 p n.1, bits_reads 64 item n.2, reads kind.Packet t)
event_reads worker count (event.Note s item) taken w c n t reads =
    rw (bits_reads 32 worker w, bits_reads 64 count c, bits_reads 16 s n.0, bits_reads 64 item n.1, reads kind.Notice t)
event_reads worker count (event.App k s item) taken w c n t reads =
    rw (bits_reads 32 worker w, bits_reads 64 count c, bits_reads 16 k n.0, bits_reads 16 s n.1, bits_reads 64 item n.2, reads kind.News t)
event_reads worker count (event.Admin k item) taken w c n t reads =
    rw (bits_reads 32 worker w, bits_reads 64 count c, bits_reads 16 k n.0, bits_reads 64 item n.1, reads kind.Policy t)
event_reads worker count (event.Recv h item) taken w c n t reads =
    rw (bits_reads 32 worker w, bits_reads 64 count c, bits_reads 16 h n.0, bits_reads 64 item n.1, reads kind.Packet t)

-- an entry reads as itself
abbrev pub EntryReads : Entry → Type 0
EntryReads entry = entry_of (entry_data entry) ≡ Ok entry

pub entry_reads : (entry : Entry) → TakenReads entry.item → (workers : ℕ) → IsWritableEntry workers entry → EntryReads entry
entry_reads entry reads workers w = event_reads entry.worker entry.number entry.event entry.item w.narrow w.number w.names w.taken reads

-- ---- the rules of entries

item_there : (worker count : ℕ) (what : Event) (taken : Option Item) → HasTaken what taken
    → has_item (record { worker = worker; number = count; event = what; item = taken }) ≡ true
item_there worker count (event.In position) taken t = refl
item_there worker count (event.Ctl s item) (Some one) t = refl
item_there worker count (event.Pkt s p item) (Some one) t = refl
item_there worker count (event.Note s item) (Some one) t = refl
item_there worker count (event.App k s item) (Some one) t = refl
item_there worker count (event.Admin k item) (Some one) t = refl
item_there worker count (event.Recv h item) (Some one) t = refl
item_there worker count (event.Ctl s item) None t = absurd t
item_there worker count (event.Pkt s p item) None t = absurd t
item_there worker count (event.Note s item) None t = absurd t
item_there worker count (event.App k s item) None t = absurd t
item_there worker count (event.Admin k item) None t = absurd t
item_there worker count (event.Recv h item) None t = absurd t

both_kept : (one other : Bool) (place : ℕ) → one ≡ true → other ≡ true
    → (at 0 (require 23 one) >>= (λ worker. at place (require 22 other))) ≡ Ok tt
both_kept true true place a b = refl
both_kept true false place a b = absurd (cc)
both_kept false other place a b = absurd (cc)

entry_kept : (workers index : ℕ) (entry : Entry) → IsWritableEntry workers entry → entry_rules workers index entry ≡ Ok tt
entry_kept workers index entry w =
    both_kept (nat_le entry.worker workers) (has_item entry) (item_place entry.event) (within entry.worker workers w.worker)
    (item_there entry.worker entry.number entry.event entry.item w.taken)

next_kept : {A : Type 0} (rules : ℕ → A → Reading ⊤) (first : ℕ) (x : A) (xs : List A) → rules first x ≡ Ok tt → each_from (first + 1) rules xs ≡ Ok tt
    → each_from first rules (x ∷ xs) ≡ Ok tt
next_kept rules first x xs one rest = ap (λ found. at first found >>= (λ kept. each_from (first + 1) rules xs)) one ∙ rest

entries_kept_from : (workers first : ℕ) (entries : List Entry) → All (IsWritableEntry workers) entries → each_from first (entry_rules workers) entries ≡ Ok tt
entries_kept_from workers first [] h = refl
entries_kept_from workers first (x ∷ xs) h =
    next_kept (entry_rules workers) first x xs (entry_kept workers first x (All-head (IsWritableEntry workers) x xs h))
    (entries_kept_from workers (first + 1) xs (All-tail (IsWritableEntry workers) x xs h))

pub entries_kept : (workers : ℕ) (entries : List Entry) → All (IsWritableEntry workers) entries → each (entry_rules workers) entries ≡ Ok tt
entries_kept workers entries h = entries_kept_from workers 0 entries h

-- ---- how a run ended

pub end_reads : (end : End) → end_of (end_data end) ≡ Ok end
end_reads Quiet = refl
end_reads Full = refl

-- ---- entries one after another

-- those before a place read as themselves, if all can be written
abbrev pub ReadSoFar : List Entry → ℕ → Type 0
ReadSoFar entries i = (workers : ℕ) → All (IsWritableEntry workers) entries → (k : ℕ) (d : Entry) → k < i → k < length entries → EntryReads (get_or entries k d)

pub none_read : (entries : List Entry) → ReadSoFar entries 0
none_read entries workers w k d before within = absurd (omega arith)

-- what stands at a place does not hang on what would stand past the end
there : (entries : List Entry) (k : ℕ) (d e : Entry) → k < length entries → get_or entries k d ≡ get_or entries k e
there [] k d e within = absurd (omega arith)
there (x ∷ xs) zero d e within = refl
there (x ∷ xs) (suc k) d e within = there xs k d e (omega arith)

pub one_more_read : (entries : List Entry) (i : ℕ) (entry : Entry) → entry ≡ get_or entries i entry → ReadSoFar entries i
    → ((workers : ℕ) → IsWritableEntry workers entry → EntryReads entry) → ReadSoFar entries (i + 1)
one_more_read entries i entry is so_far reads workers w k d before within = elim (cases_lt k i) [
  | inl earlier ↦ so_far workers w k d earlier within
  | inr last ↦
      let same : i ≡ k = omega arith in
      let here : entry ≡ get_or entries k d = is ∙ ap (λ n. get_or entries n entry) same ∙ there entries k entry d within in
      subst EntryReads here (reads workers (subst (IsWritableEntry workers) (sym here) (w k d within)))
]

pub one_more_written : (entries : List Entry) (i : ℕ) (entry : Entry) (old so_far new : List Token) → i < length entries → entry ≡ get_or entries i entry
    → so_far ≡ old ++ entries_tokens (take i entries) → new ≡ so_far ++ data_tokens (entry_data entry)
    → new ≡ old ++ entries_tokens (take (i + 1) entries)
one_more_written entries i entry old so_far new within is before written =
    let done : List Entry = take i entries in
    let next : i + 1 ≡ suc i = omega arith in
    let more : take (i + 1) entries ≡ done ++ entry ∷ [] =
    ap (λ n. take n entries) next ∙ take-suc entries i entry within ∙ ap (λ x. done ++ x ∷ []) (sym is) in
    let both : entries_tokens (take (i + 1) entries) ≡ entries_tokens done ++ data_tokens (entry_data entry) =
    ap entries_tokens more ∙ flat_map-append (λ x. data_tokens (entry_data x)) done (entry ∷ [])
    ∙ ap (λ ts. entries_tokens done ++ ts) (append-nil (data_tokens (entry_data entry))) in
    written ∙ ap (λ ts. ts ++ data_tokens (entry_data entry)) before ∙ append_assoc old (entries_tokens done) (data_tokens (entry_data entry))
    ∙ ap (λ ts. old ++ ts) (sym both)

-- the tokens of a list of entries end with its bracket
closed : (entries : List Entry) → items_tokens (items_outline (items_of (map entry_data entries))) ≡ entries_tokens entries ++ end_array ∷ []
closed [] = refl
closed (x ∷ xs) =
    ap (λ ts. data_tokens (entry_data x) ++ ts) (closed xs) ∙ sym (append_assoc (data_tokens (entry_data x)) (entries_tokens xs) (end_array ∷ []))

-- a list of entries between its brackets
pub list_done : {E : Type 0} (r : Result (Unit {0}) E) (entries : List Entry) (old opened so_far new : List Token) → opened ≡ old ++ begin_array ∷ []
    → so_far ≡ opened ++ entries_tokens entries → OnOk r (new ≡ so_far ++ end_array ∷ [])
    → OnOk r (new ≡ old ++ data_tokens (list_data entry_data entries))
list_done (Ok done) entries old opened so_far new first then last =
    last ∙ ap (λ ts. ts ++ end_array ∷ []) (then ∙ ap (λ ts. ts ++ entries_tokens entries) first)
    ∙ ap (λ ts. ts ++ end_array ∷ []) (append_assoc old (begin_array ∷ []) (entries_tokens entries))
    ∙ append_assoc old (begin_array ∷ entries_tokens entries) (end_array ∷ [])
    ∙ ap (λ ts. old ++ begin_array ∷ ts) (sym (closed entries))
list_done (Err why) entries old opened so_far new first then last = tt

-- what holds of itself holds where a call does its work
pub done_always : {E : Type 0} (r : Result (Unit {0}) E) (P : Type 0) → P → OnOk r P
done_always (Ok done) P h = h
done_always (Err why) P h = tt

pub all_read_back : (entries : List Entry) (i : ℕ) → length entries ≤ i → ReadSoFar entries i
    → (workers : ℕ) → All (IsWritableEntry workers) entries → All EntryReads entries
all_read_back entries i done so_far workers w = λ k d within. so_far workers w k d (omega arith) within
