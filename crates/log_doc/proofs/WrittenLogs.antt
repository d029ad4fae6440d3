-- A log's text is that of its data, and reads back where it can be written.
use Rattle.std.proofs.Common.{◌≡◌, ℕ, ◌<◌, ◌≤◌, ◌^◌, List, [], ◌∷◌, ◌++◌, fold, map, All, Result, Ok, Err, Some, Vec, Global, IfOk, IsUtf8, true, false, decimal, refl, sym, ap, ap₂, ◌∙◌, subst, codes, append_assoc, arith, rules}
use Rattle.std.proofs.lemmas.Fmt.{decimal_digit}
use Rattle.std.proofs.lemmas.List.Elements.{All-head, All-tail}
use Rattle.std.proofs.lemmas.List.Sums.{fold-append}
use Rattle.std.proofs.lemmas.Str.{IsUtf8-append, IsUtf8-from_ascii}
use Rattle.json.specs.Token.{Token, begin_object, end_object, key, number}
use Rattle.json.specs.Print.{ends, escape_byte, print, print_from}
use Rattle.json.specs.Tree.{ItemsHaveNumbers}
use Rattle.json.proofs.Printed.Decimals.{IsNumber-decimal}
use Rattle.json.proofs.Printed.Tokens.{ends_push}
use Rattle.serde_json.specs.Data.{Data, depth, items_depth}
use Rattle.serde_json.specs.Read.{max_depth, of_items, read}
use Rattle.serde_json.specs.View.{items_of}
use Rattle.serde_json.specs.Written.{IsInOrder, compact_text, has_float, items_outline}
use Rattle.serde_json.proofs.Numbers.{number_of-decimal}
use Rattle.serde_json.proofs.Texts.{print-outline}
use Rattle.event_world.specs.declared.event.Event.{Event}
use Rattle.event_world.specs.declared.event.Event.TheVariants as event
use Rattle.event_machine.specs.declared.trace.End.{End}
use Rattle.event_machine.specs.declared.trace.End.TheVariants.{Quiet, Full}
use Rattle.event_machine.specs.declared.trace.Entry.{Entry}
use Rattle.doc_forms.specs.Forms.{list}
use Rattle.doc_forms.specs.Texts.{IsText}
use Rattle.doc_forms.specs.Written.{list_data}
use Rattle.scenario_doc.specs.Draft.{draft_of}
use Rattle.scenario_doc.specs.Rules.{draft_rules, each}
use Rattle.scenario_doc.specs.Scenario.{made}
use Rattle.scenario_doc.specs.Written.{draft_data}
use Rattle.scenario_doc.specs.WrittenScenario.{IsWritable, drafted}
use Rattle.log_doc.specs.Entries.{entry_of, entry_rules}
use Rattle.log_doc.specs.Log.{log_of}
use Rattle.log_doc.specs.Tokens.{IsReadable, data_tokens, tokens_before_scenario}
use Rattle.log_doc.specs.Written.{IsNarrowEvent, IsWritableEntry, IsWritableLog, end_data, entry_data, event_data, hex_data, log_data, one_name_data, taken_bytes, two_names_data}
use Rattle.log_doc.specs.declared.log.Log.{Log}
use Rattle.log_doc.proofs.Readable.{print_around, readable_by, text_reads}
use Rattle.log_doc.proofs.WrittenEntries.{EntryReads, end_reads, entries_kept, list_reads}

-- ---- nested at most so deep

event_flat : (worker count : ℕ) (what : Event) (bytes : List ℕ) → depth (event_data worker count what (hex_data bytes)) ≤ 1
event_flat worker count (event.In position) bytes = omega arith
event_flat worker count (event.Ctl s item) bytes = omega arith
event_flat worker count (event.Pkt s p item) bytes = omega arith
event_flat worker count (event.Note s item) bytes = omega arith
event_flat worker count (event.App c s item) bytes = omega arith
event_flat worker count (event.Admin c item) bytes = omega arith
event_flat worker count (event.Recv h item) bytes = omega arith

entries_flat : (entries : List Entry) → items_depth (items_of (map entry_data entries)) ≤ 1
entries_flat [] = omega arith
entries_flat (x ∷ xs) = omega (arith, event_flat x.worker x.number x.event (taken_bytes x.item), entries_flat xs)

end_flat : (end : End) → depth (end_data end) ≤ 0
end_flat Quiet = omega arith
end_flat Full = omega arith

log_flat : (log : Log) → depth (draft_data (drafted log.scenario)) ≤ 7 → depth (log_data log) ≤ max_depth
log_flat log flat = omega (arith, end_flat log.trace.end, entries_flat log.trace.entries, flat)

-- ---- readable

one_name_readable : (worker count : ℕ) (word : List ℕ) (name item : ℕ) (bytes : List ℕ) → worker < 2 ^ 32 → count < 2 ^ 64 → name < 2 ^ 16 → item < 2 ^ 64
    → IsReadable (one_name_data worker count word name item (hex_data bytes))
one_name_readable worker count word name item bytes w c n i =
    let w64 : worker < 2 ^ 64 = omega arith in
    let n64 : name < 2 ^ 64 = omega arith in
    record {
      numbers = (IsNumber-decimal worker w64, (IsNumber-decimal count c, (tt, (IsNumber-decimal name n64, (IsNumber-decimal item i, (tt, tt))))));
      reads = rw (number_of-decimal worker w64, number_of-decimal count c, number_of-decimal name n64, number_of-decimal item i);
    }

two_names_readable : (worker count : ℕ) (word : List ℕ) (name other item : ℕ) (bytes : List ℕ) → worker < 2 ^ 32 → count < 2 ^ 64 → name < 2 ^ 16 → other < 2 ^ 16
    → item < 2 ^ 64 → IsReadable (two_names_data worker count word name other item (hex_data bytes))
two_names_readable worker count word name other item bytes w c n o i =
    let w64 : worker < 2 ^ 64 = omega arith in
    let n64 : name < 2 ^ 64 = omega arith in
    let o64 : other < 2 ^ 64 = omega arith in
    record {
      numbers = (IsNumber-decimal worker w64, (IsNumber-decimal count c, (tt, (IsNumber-decimal name n64, (IsNumber-decimal other o64, (IsNumber-decimal item i, (tt, tt)))))));
      reads = rw (number_of-decimal worker w64, number_of-decimal count c, number_of-decimal name n64, number_of-decimal other o64, number_of-decimal item i);
    }

event_readable : (worker count : ℕ) (what : Event) (bytes : List ℕ) → worker < 2 ^ 32 → count < 2 ^ 64 → IsNarrowEvent what
    → IsReadable (event_data worker count what (hex_data bytes))
event_readable worker count (event.In position) bytes w c n =
    let w64 : worker < 2 ^ 64 = omega arith in
    let n64 : position < 2 ^ 64 = omega arith in
    record {
      numbers = (IsNumber-decimal worker w64, (IsNumber-decimal count c, (tt, (IsNumber-decimal position n64, tt))));
      reads = rw (number_of-decimal worker w64, number_of-decimal count c, number_of-decimal position n64);
    }
event_readable worker count (event.Ctl s item) bytes w c n = one_name_readable worker count (codes "ctl") s item bytes w c n.0 n.1
event_readable worker count (event.Pkt s p item) bytes w c n = two_names_readable worker count (codes "pkt") s p item bytes w c n.0 n.1 n.2
event_readable worker count (event.Note s item) bytes w c n = one_name_readable worker count (codes "note") s item bytes w c n.0 n.1
event_readable worker count (event.App k s item) bytes w c n = two_names_readable worker count (codes "app") k s item bytes w c n.0 n.1 n.2
event_readable worker count (event.Admin k item) bytes w c n = one_name_readable worker count (codes "admin") k item bytes w c n.0 n.1
event_readable worker count (event.Recv h item) bytes w c n = one_name_readable worker count (codes "recv") h item bytes w c n.0 n.1

entry_readable : (workers : ℕ) (entry : Entry) → IsWritableEntry workers entry → IsReadable (entry_data entry)
entry_readable workers entry w = event_readable entry.worker entry.number entry.event (taken_bytes entry.item) w.narrow w.number w.names

-- values that stand in a list
record AreReadable (values : List Data) : Type 0 where
  numbers : ItemsHaveNumbers (items_outline (items_of values))
  reads : of_items (items_outline (items_of values)) ≡ Some (items_of values)

entries_readable : (workers : ℕ) (entries : List Entry) → All (IsWritableEntry workers) entries → AreReadable (map entry_data entries)
entries_readable workers [] h = record { numbers = tt; reads = refl }
entries_readable workers (x ∷ xs) h =
    let one = entry_readable workers x (All-head (IsWritableEntry workers) x xs h) in
    let rest = entries_readable workers xs (All-tail (IsWritableEntry workers) x xs h) in
    record { numbers = (one.numbers, rest.numbers); reads = rw (one.reads, rest.reads) }

end_readable : (end : End) → IsReadable (end_data end)
end_readable Quiet = record { numbers = tt; reads = refl }
end_readable Full = record { numbers = tt; reads = refl }

log_readable : (log : Log) → IsReadable (draft_data (drafted log.scenario)) → IsWritableLog log → IsReadable (log_data log)
log_readable log scenario w =
    let end = end_readable log.trace.end in
    let entries = entries_readable log.scenario.setup.limits.workers log.trace.entries w.entries in
    let one : 1 < 2 ^ 64 = omega arith in
    record {
      numbers = (end.numbers, (entries.numbers, (scenario.numbers, (IsNumber-decimal 1 one, tt))));
      reads = rw (end.reads, entries.reads, scenario.reads, number_of-decimal 1 one);
    }

-- the text of a scenario that reads as it
pub scenario_readable : {E : Type 0} (r : Result (Vec ℕ Global) E) (seen value : Data) → seen ≡ value → has_float value ≡ false → depth value ≤ 7
    → IfOk r (λ text. IsInOrder text.items seen) → IfOk r (λ text. depth seen ≤ max_depth → read text.items ≡ Some seen)
    → IfOk r (λ text. IsReadable value)
scenario_readable (Ok text) seen value is whole flat order back =
    let shallow : depth value ≤ max_depth = omega arith in
    let backed : read text.items ≡ Some value = subst (λ d. depth d ≤ max_depth → read text.items ≡ Some d) is back shallow in
    readable_by value text.items (subst (IsInOrder text.items) is order) whole shallow backed
scenario_readable (Err why) seen value is whole flat order back = tt

-- ---- the text

-- what stands after the scenario
tokens_after : List Token
tokens_after = key (codes "sts") ∷ number (decimal 1) ∷ end_object ∷ []

after_is : print_from true tokens_after ≡ codes ",\"sts\":1}"
unfolding print_from escape_byte tokens_after
after_is = rw (decimal_digit 1 (omega arith))

before_ends : (log : Log) → fold (λ _ u. ends u) false (tokens_before_scenario log) ≡ false
before_ends log =
    let entries = data_tokens (list_data entry_data log.trace.entries) in
    fold-append (λ _ u. ends u) false (data_tokens (end_data log.trace.end)) (key (codes "entries") ∷ (entries ++ key (codes "scenario") ∷ []))
    ∙ ends_push false entries (key (codes "scenario"))

log_tokens : (log : Log) → data_tokens (log_data log) ≡ tokens_before_scenario log ++ (data_tokens (draft_data (drafted log.scenario)) ++ tokens_after)
unfolding tokens_after
log_tokens log =
    let end = data_tokens (end_data log.trace.end) in
    let entries = data_tokens (list_data entry_data log.trace.entries) in
    let rest = data_tokens (draft_data (drafted log.scenario)) ++ tokens_after in
    ap (λ ts. begin_object ∷ key (codes "end") ∷ ts)
    (sym (append_assoc end (key (codes "entries") ∷ (entries ++ key (codes "scenario") ∷ [])) rest
    ∙ ap (λ ts. end ++ key (codes "entries") ∷ ts) (append_assoc entries (key (codes "scenario") ∷ []) rest)))

-- the text of a log is that of its beginning, its scenario and its end
log_text_is : (log : Log) → compact_text (log_data log)
    ≡ print (tokens_before_scenario log) ++ (compact_text (draft_data (drafted log.scenario)) ++ codes ",\"sts\":1}")
log_text_is log =
    let scenario = draft_data (drafted log.scenario) in
    sym (print-outline (log_data log)) ∙ ap print (log_tokens log)
    ∙ print_around (tokens_before_scenario log) tokens_after scenario (before_ends log)
    ∙ ap (λ s. print (tokens_before_scenario log) ++ (compact_text scenario ++ s)) after_is

pub written_text : (log : Log) (before scenario both whole : List ℕ) → before ≡ print (tokens_before_scenario log)
    → scenario ≡ compact_text (draft_data (drafted log.scenario)) → both ≡ before ++ scenario → whole ≡ both ++ codes ",\"sts\":1}"
    → whole ≡ compact_text (log_data log)
written_text log before scenario both whole b s two last =
    last ∙ ap (λ t. t ++ codes ",\"sts\":1}") (two ∙ ap₂ (λ x y. x ++ y) b s)
    ∙ append_assoc (print (tokens_before_scenario log)) (compact_text (draft_data (drafted log.scenario))) (codes ",\"sts\":1}")
    ∙ sym (log_text_is log)

-- all of it is UTF-8
pub written_utf8 : (before scenario both whole : List ℕ) → IsUtf8 before → IsUtf8 scenario → both ≡ before ++ scenario
    → whole ≡ both ++ codes ",\"sts\":1}" → IsUtf8 whole
written_utf8 before scenario both whole b s two last =
    let end : IsUtf8 (codes ",\"sts\":1}") = IsUtf8-from_ascii (codes ",\"sts\":1}") (search rules) in
    subst IsUtf8 (sym (last ∙ ap (λ t. t ++ codes ",\"sts\":1}") two)) (IsUtf8-append (before ++ scenario) (codes ",\"sts\":1}") (IsUtf8-append before scenario b s) end)

-- ---- reading back

whole_reads : (log : Log) → draft_of (draft_data (drafted log.scenario)) ≡ Ok (drafted log.scenario)
    → list entry_of 16384 (list_data entry_data log.trace.entries) ≡ Ok log.trace.entries
    → each (entry_rules log.scenario.setup.limits.workers) log.trace.entries ≡ Ok tt → draft_rules (drafted log.scenario) ≡ Ok tt
    → made (drafted log.scenario) ≡ log.scenario → log_of (log_data log) ≡ Ok log
whole_reads log reads entries kept fit start =
    rw (end_reads log.trace.end, entries, reads, kept, fit) (ap (λ s. Ok (record { scenario = s; trace = log.trace })) start)

log_reads : (log : Log) → (IsWritable log.scenario → draft_of (draft_data (drafted log.scenario)) ≡ Ok (drafted log.scenario))
    → ((workers : ℕ) → All (IsWritableEntry workers) log.trace.entries → All EntryReads log.trace.entries) → IsWritableLog log
    → log_of (log_data log) ≡ Ok log
log_reads log reads entries w =
    let workers = log.scenario.setup.limits.workers in
    whole_reads log (reads w.scenario)
    (list_reads entry_of entry_data 16384 log.trace.entries w.few (entries workers w.entries))
    (entries_kept workers log.trace.entries w.entries) w.scenario.rules w.scenario.start

pub written_reads : (log : Log) (text : List ℕ) → text ≡ compact_text (log_data log) → IsUtf8 text → IsReadable (draft_data (drafted log.scenario))
    → depth (draft_data (drafted log.scenario)) ≤ 7 → (IsWritable log.scenario → draft_of (draft_data (drafted log.scenario)) ≡ Ok (drafted log.scenario))
    → ((workers : ℕ) → All (IsWritableEntry workers) log.trace.entries → All EntryReads log.trace.entries) → IsWritableLog log → IsText log_of text log
written_reads log text is utf8 readable flat reads entries w =
    let back : read text ≡ Some (log_data log) = ap read is ∙ text_reads (log_data log) (log_readable log readable w) (log_flat log flat) in
    (log_data log, (utf8, back), log_reads log reads entries w)
