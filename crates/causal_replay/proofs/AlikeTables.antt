-- A table whose entries are masked has the same best entries, and comes to the masked table at commands, packets and ticks.
use Rattle.std.proofs.Common.{◌≡◌, ◌∙◌, ◌+◌, ◌==◌, ◌&&◌, ◌||◌, ℕ, Bool, true, false, not, cond, List, [], ◌∷◌, ◌++◌, map, filter, fold, length, slice_get, Option, Some, None, Result, Ok, Err, bit_and, nat_le, if◌then◌else◌, refl, sym, ap}
use Rattle.std.specs.List.{count_by, list_any, position}
use Rattle.std.specs.Option.{option_and_then, option_map, option_map_or}
use Rattle.std.proofs.lemmas.List.{length-map, map-append}
use Rattle.listed.specs.Lists.{changed_at}
use Rattle.of10_match.specs.declared.header.Header.{Header}
use Rattle.of10_messages.specs.declared.message.FlowMod.{FlowMod}
use Rattle.flow_table.specs.Best.{best_entry, best_place, has_greatest_rank}
use Rattle.flow_table.specs.Command.{After, added, command, deleted, entry_of, is_full_for, is_named, is_overlapped, modified, overlap_of, with_actions, without}
use Rattle.flow_table.specs.Entry.{counted, rank, takes_packet}
use Rattle.flow_table.specs.Expiry.{gone, reason_of, runs_out, staying}
use Rattle.flow_table.specs.declared.command.Command.{Command}
use Rattle.flow_table.specs.declared.command.Command.TheVariants.{Add, Modify, ModifyStrict, Delete, DeleteStrict}
use Rattle.flow_table.specs.declared.effect.TableNo.{TableNo}
use Rattle.flow_table.specs.declared.effect.TableNo.TheVariants.{Overlap, Full}
use Rattle.flow_table.specs.declared.entry.Entry.{Entry}
use Rattle.masked_equivalence.specs.Mask.{masked_mods}
use Rattle.switch_core.specs.Step.{counted_at, is_delete, removals, wants_removal}
use Rattle.switch_core.specs.declared.leaving.Leaving.{Leaving}
use Rattle.switch_core.specs.declared.leaving.Leaving.TheVariants.{Told}
use Rattle.switch_core.specs.declared.leaving.News.TheVariants.{Removal}
use Rattle.causal_replay.specs.Congruence.{masked_entry}
use Rattle.causal_replay.proofs.Leavings.{masked_leaving}
use Rattle.causal_replay.proofs.Through.{all_after, any_after, changed_after, filter_after, fold_after, get_after, map_twice, position_after}

abbrev pub masked_table : List Entry → List Entry
masked_table entries = map masked_entry entries

-- ---- the best entry

pub best_masked : (entries : List Entry) (port : ℕ) (header : Header) → best_place (masked_table entries) port header ≡ best_place entries port header
best_masked entries port header =
    let same : (e : Entry) → has_greatest_rank (masked_table entries) port header (masked_entry e) ≡ has_greatest_rank entries port header e = λ e.
    ap (λ (b : Bool). takes_packet port header e && b)
    (all_after masked_entry (λ other. not (takes_packet port header other) || nat_le (rank other) (rank e)) entries) in
    position_after masked_entry (has_greatest_rank (masked_table entries) port header) entries ∙ (λ i. position (λ e. same e i) entries)

pub best_entry_masked : (entries : List Entry) (port : ℕ) (header : Header)
    → option_map masked_entry (best_entry entries port header) ≡ best_entry (masked_table entries) port header
best_entry_masked entries port header =
    at (best_place entries port header) ∙ ap (λ (o : Option ℕ). option_and_then (slice_get (masked_table entries)) o) (sym (best_masked entries port header)) where
      at : (o : Option ℕ) → option_map masked_entry (option_and_then (slice_get entries) o) ≡ option_and_then (slice_get (masked_table entries)) o
      at None = refl
      at (Some n) = sym (get_after masked_entry entries n)

-- ---- packets

-- an entry that is hit at a time
abbrev pub hit_at : ℕ → Entry → Entry
hit_at now entry = record entry { hit = now }

pub counted_once : (now place : ℕ) (entries : List Entry) → masked_table (changed_at place (counted now) entries) ≡ changed_at place (hit_at now) (masked_table entries)
counted_once now place entries = changed_after masked_entry (counted now) (hit_at now) (λ e. refl) place entries

pub counted_best : (now : ℕ) (entries : List Entry) (best : Option ℕ)
    → masked_table (option_map_or (λ place. changed_at place (counted now) entries) best entries)
    ≡ option_map_or (λ place. changed_at place (hit_at now) (masked_table entries)) best (masked_table entries)
counted_best now entries None = refl
counted_best now entries (Some place) = counted_once now place entries

pub counted_all : (now : ℕ) (places : List ℕ) (entries : List Entry) → masked_table (counted_at now entries places)
    ≡ fold (λ table place. changed_at place (hit_at now) table) (masked_table entries) places
counted_all now [] entries = refl
counted_all now (place ∷ places) entries =
    counted_all now places (changed_at place (counted now) entries)
    ∙ ap (λ (w : List Entry). fold (λ table place. changed_at place (hit_at now) table) w places) (counted_once now place entries)

-- ---- commands

named_masked : (how : Command) (mods : FlowMod) (e : Entry) → is_named how (masked_mods mods) (masked_entry e) ≡ is_named how mods e
named_masked Add mods e = refl
named_masked Modify mods e = refl
named_masked ModifyStrict mods e = refl
named_masked Delete mods e = refl
named_masked DeleteStrict mods e = refl

left_masked : (how : Command) (mods : FlowMod) (entries : List Entry) → without how (masked_mods mods) (masked_table entries) ≡ masked_table (without how mods entries)
left_masked how mods entries =
    filter_after masked_entry (λ e. not (is_named how (masked_mods mods) e)) entries ∙ (λ i. masked_table (filter (λ e. not (named_masked how mods e i)) entries))

removed_masked : (how : Command) (mods : FlowMod) (entries : List Entry)
    → filter (is_named how (masked_mods mods)) (masked_table entries) ≡ masked_table (filter (is_named how mods) entries)
removed_masked how mods entries =
    filter_after masked_entry (is_named how (masked_mods mods)) entries ∙ (λ i. masked_table (filter (λ e. named_masked how mods e i) entries))

any_masked : (how : Command) (mods : FlowMod) (entries : List Entry)
    → list_any (is_named how (masked_mods mods)) (masked_table entries) ≡ list_any (is_named how mods) entries
any_masked how mods entries =
    any_after masked_entry (is_named how (masked_mods mods)) entries ∙ (λ i. list_any (λ e. named_masked how mods e i) entries)

count_masked : (how : Command) (mods : FlowMod) (entries : List Entry)
    → count_by (is_named how (masked_mods mods)) (masked_table entries) ≡ count_by (is_named how mods) entries
count_masked how mods entries =
    fold_after masked_entry (λ sum e. sum + cond (is_named how (masked_mods mods) e) 1 0) 0 entries ∙ (λ i. count_by (λ e. named_masked how mods e i) entries)

acted_masked : (how : Command) (mods : FlowMod) (entries : List Entry)
    → map (with_actions how (masked_mods mods)) (masked_table entries) ≡ masked_table (map (with_actions how mods) entries)
acted_masked how mods entries =
    map_twice (with_actions how (masked_mods mods)) masked_entry entries ∙ ((λ i. map (λ e. each e i) entries) ∙ sym (map_twice masked_entry (with_actions how mods) entries)) where
      by : (b : Bool) (e : Entry) → (if b then record (masked_entry e) { actions = mods.actions } else masked_entry e) ≡ masked_entry (if b then record e { actions = mods.actions } else e)
      by true e = refl
      by false e = refl

      each : (e : Entry) → with_actions how (masked_mods mods) (masked_entry e) ≡ masked_entry (with_actions how mods e)
      each e = ap (λ (b : Bool). if b then record (masked_entry e) { actions = mods.actions } else masked_entry e) (named_masked how mods e) ∙ by (is_named how mods e) e

abbrev pub masked_after : After → After
masked_after after = record { entries = masked_table after.entries; removed = masked_table after.removed; changed = after.changed }

abbrev pub masked_result : Result After TableNo → Result After TableNo
masked_result (Ok after) = Ok (masked_after after)
masked_result (Err why) = Err why

added_masked : (entries : List Entry) (mods : FlowMod) (now : ℕ) → masked_result (added entries mods now) ≡ added (masked_table entries) (masked_mods mods) now
added_masked entries mods now =
    let overlap : overlap_of (masked_table entries) (masked_mods mods) ≡ overlap_of entries mods =
    ap (λ (o : Option ℕ). if bit_and mods.flags 2 == 0 then None else o) (position_after masked_entry (is_overlapped (masked_mods mods)) entries) in
    let any = any_masked Add mods entries in
    let size : length (masked_table entries) ≡ length entries = length-map entries masked_entry in
    let left : without Add (masked_mods mods) (masked_table entries) ++ entry_of (masked_mods mods) now ∷ [] ≡ masked_table (without Add mods entries ++ entry_of mods now ∷ []) =
    ap (λ (w : List Entry). w ++ entry_of (masked_mods mods) now ∷ []) (left_masked Add mods entries) ∙ sym (map-append masked_entry (without Add mods entries) (entry_of mods now ∷ [])) in
    let removed = removed_masked Add mods entries in
    by (overlap_of entries mods) (is_full_for entries mods) _
    ∙ sym (λ i. option_map_or (λ with. Err (Overlap with)) (overlap i)
    (if not (any i) && nat_le 1024 (size i) then Err Full else Ok (record { entries = left i; removed = removed i; changed = 0 }))) where
      by : (o : Option ℕ) (b : Bool) (after : After)
          → masked_result (option_map_or (λ with. Err (Overlap with)) o (if b then Err Full else Ok after))
          ≡ option_map_or (λ with. Err (Overlap with)) o (if b then Err Full else masked_result (Ok after))
      by None true after = refl
      by None false after = refl
      by (Some with) b after = refl

modified_masked : (how : Command) (entries : List Entry) (mods : FlowMod) (now : ℕ)
    → masked_result (modified how entries mods now) ≡ modified how (masked_table entries) (masked_mods mods) now
modified_masked how entries mods now =
    let any = any_masked how mods entries in
    let acted = acted_masked how mods entries in
    let count = count_masked how mods entries in
    let new = added_masked entries mods now in
    by (list_any (is_named how mods) entries) _ _
    ∙ sym (λ i. if any i then Ok (record { entries = acted i; removed = []; changed = count i }) else sym new i) where
      by : (b : Bool) (x y : Result After TableNo) → masked_result (if b then x else y) ≡ (if b then masked_result x else masked_result y)
      by true x y = refl
      by false x y = refl

deleted_masked : (how : Command) (entries : List Entry) (mods : FlowMod) → masked_result (deleted how entries mods) ≡ deleted how (masked_table entries) (masked_mods mods)
deleted_masked how entries mods =
    let left = left_masked how mods entries in
    let removed = removed_masked how mods entries in
    sym (λ i. Ok (record { entries = left i; removed = removed i; changed = 0 }))

pub command_masked : (how : Command) (entries : List Entry) (mods : FlowMod) (now : ℕ)
    → masked_result (command how entries mods now) ≡ command how (masked_table entries) (masked_mods mods) now
command_masked Add entries mods now = added_masked entries mods now
command_masked Modify entries mods now = modified_masked Modify entries mods now
command_masked ModifyStrict entries mods now = modified_masked ModifyStrict entries mods now
command_masked Delete entries mods now = deleted_masked Delete entries mods
command_masked DeleteStrict entries mods now = deleted_masked DeleteStrict entries mods

-- ---- removals

abbrev tell : ℕ → Entry → Leaving
tell now entry = Told (Removal entry 2 now)

pub removals_masked : (how : Command) (now : ℕ) (removed : List Entry) → map masked_leaving (removals how now removed) ≡ removals how now (masked_table removed)
removals_masked how now removed = by (is_delete how) where
  wanted : map masked_leaving (map (tell now) (filter wants_removal removed)) ≡ map (tell now) (filter wants_removal (masked_table removed))
  wanted =
      map_twice masked_leaving (tell now) (filter wants_removal removed)
      ∙ (sym (map_twice (tell now) masked_entry (filter wants_removal removed)) ∙ ap (map (tell now)) (sym (filter_after masked_entry wants_removal removed)))

  by : (b : Bool) → map masked_leaving (if b then map (tell now) (filter wants_removal removed) else [])
      ≡ (if b then map (tell now) (filter wants_removal (masked_table removed)) else [])
  by true = wanted
  by false = refl

-- ---- time

pub staying_masked : (now : ℕ) (entries : List Entry) → masked_table (staying now entries) ≡ staying now (masked_table entries)
staying_masked now entries = sym (filter_after masked_entry (λ e. not (runs_out now e)) entries)

abbrev masked_late : Entry × ℕ → Entry × ℕ
masked_late late = (masked_entry late.0, late.1)

abbrev wants_late : Entry × ℕ → Bool
wants_late late = wants_removal late.0

abbrev tell_late : ℕ → Entry × ℕ → Leaving
tell_late now late = Told (Removal late.0 late.1 now)

gone_masked : (now : ℕ) (entries : List Entry) → map masked_late (gone now entries) ≡ gone now (masked_table entries)
gone_masked now entries =
    map_twice masked_late (λ e. (e, reason_of now e)) (filter (runs_out now) entries)
    ∙ (sym (map_twice (λ e. (e, reason_of now e)) masked_entry (filter (runs_out now) entries))
    ∙ ap (map (λ e. (e, reason_of now e))) (sym (filter_after masked_entry (runs_out now) entries)))

-- what is told of the entries that run out
abbrev pub late : ℕ → List Entry → List Leaving
late now entries = map (tell_late now) (filter wants_late (gone now entries))

pub late_masked : (now : ℕ) (entries : List Entry) → map masked_leaving (late now entries) ≡ late now (masked_table entries)
late_masked now entries =
    let wanted = filter wants_late (gone now entries) in
    map_twice masked_leaving (tell_late now) wanted
    ∙ (sym (map_twice (tell_late now) masked_late wanted)
    ∙ (ap (map (tell_late now)) (sym (filter_after masked_late wants_late (gone now entries)))
    ∙ ap (λ (w : List (Entry × ℕ)). map (tell_late now) (filter wants_late w)) (gone_masked now entries)))
