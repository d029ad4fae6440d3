-- What a switch can be stays so: entries that are counted, commanded or run out are of no later time than the clock, and their
-- actions have come in one message.
use Rattle.std.proofs.Common.{◌≡◌, ◌∙◌, ◌+◌, ◌<◌, ◌≤◌, ◌^◌, ◌⊎◌, ◌==◌, ℕ, Bool, true, false, not, All, List, [], ◌∷◌, length, drop, take, get_or, filter, filter_map, Option, Some, None, Result, Ok, Err, if◌then◌else◌, inl, inr, refl, sym, subst, ap, arith}
use Rattle.std.specs.List.{cons_option, list_any}
use Rattle.std.specs.Option.{option_map_or}
use Rattle.std.proofs.lemmas.Bool.{eq-eqb}
use Rattle.std.proofs.lemmas.List.{at_drop_more, length-map, take_all}
use Rattle.std.proofs.lemmas.List.Elements.{All-cons, All-filter, All-map, All-nil, All-push, All-weaker}
use Rattle.std.proofs.lemmas.List.Quantifiers.{position-Some}
use Rattle.std.proofs.lemmas.List.Sums.{count_by-le-length, length-filter}
use Rattle.listed.specs.Lists.{all_changed, changed_at}
use Rattle.of10_match.specs.Packet.{packet_of}
use Rattle.of10_match.specs.declared.header.Header.{Header}
use Rattle.of10_messages.specs.Lengths.{actions_len, message_len}
use Rattle.of10_messages.specs.Valid.{HasValidBody, IsValidAction, IsValidMessage}
use Rattle.of10_messages.specs.Wire.{canon_bytes}
use Rattle.of10_messages.specs.declared.action.Action.{Action}
use Rattle.of10_messages.specs.declared.message.FlowMod.{FlowMod}
use Rattle.of10_messages.specs.declared.message.Message.{Message}
use Rattle.flow_table.specs.Best.{best_place, has_greatest_rank}
use Rattle.flow_table.specs.Command.{After, added, command, entry_of, is_full_for, is_named, modified, overlap_of, with_actions, without}
use Rattle.flow_table.specs.Entry.{IsTable, counted}
use Rattle.flow_table.specs.Expiry.{IsPast, gone, reason_of, runs_out}
use Rattle.flow_table.specs.declared.command.Command.{Command}
use Rattle.flow_table.specs.declared.command.Command.TheVariants.{Add, Modify, ModifyStrict, Delete, DeleteStrict}
use Rattle.flow_table.specs.declared.effect.TableNo.{TableNo}
use Rattle.flow_table.specs.declared.effect.TableNo.TheVariants.{Overlap, Full}
use Rattle.flow_table.specs.declared.entry.Entry.{Entry}
use Rattle.flow_table.specs.declared.outputs.Output.{Output}
use Rattle.switch_core.specs.State.{IsState}
use Rattle.switch_core.specs.Refusal.{actions_refusal}
use Rattle.switch_core.specs.Step.{applied, counted_at, hit_by, is_delete, is_to_table, packet_out}
use Rattle.switch_core.specs.declared.state.State.{State}
use Rattle.switch_core.proofs.Actions.{least_actions}

-- what IsState says of each entry beside that it is valid
pub record IsKept (now : ℕ) (entry : Entry) : Type 0 where
  pub past : IsPast now entry
  pub small : length entry.actions ≤ 8183

-- so each entry of a switch is
pub all_kept : (s : State) → IsState s → All (IsKept s.clock) s.table
all_kept s is = λ k d within. record { past = is.past k d within; small = is.small k d within }

-- a switch whose table, clock and xid have changed
pub state_after : (before after : State) (table : List Entry) (clock xid : ℕ) → IsState before → after ≡ record before { table = table; clock = clock; next_xid = xid }
    → IsTable after.table → All (IsKept clock) table → clock < 2 ^ 32 → xid < 2 ^ 32 → IsState after
state_after before after table clock xid is same valid kept clock_fits xid_fits = subst IsState (sym same) (record {
  number = is.number;
  some = is.some;
  most = is.most;
  table = subst IsTable (ap (λ (s : State). s.table) same) valid;
  past = λ k d within. (kept k d within).past;
  small = λ k d within. (kept k d within).small;
  clock = clock_fits;
  next_xid = xid_fits;
  flags = is.flags;
  miss_send_len = is.miss_send_len;
  down = is.down;
})

-- ---- counting

-- the best entry stands in the table
pub best_within : (entries : List Entry) (port : ℕ) (header : Header) (place : ℕ) → best_place entries port header ≡ Some place → place < length entries
best_within [] port header place is = absurd cc
best_within (e ∷ entries) port header place is = (position-Some (has_greatest_rank (e ∷ entries) port header) (e ∷ entries) place e is).0

-- what holds of all that a function gives holds of what it gives of a list
all_given : {A B : Type 0} (P : B → Type 0) (h : A → Option B) (xs : List A) → ((x : A) (y : B) → h x ≡ Some y → P y) → All P (filter_map h xs)
all_given P h [] each = All-nil P
all_given {A = A} {B = B} P h (x ∷ xs) each = first (h x) refl (all_given P h xs each) where
  first : (o : Option B) → h x ≡ o → All P (filter_map h xs) → All P (cons_option (h x) (filter_map h xs))
  first None is rest = rw is rest
  first (Some y) is rest = rw is (All-cons P y (filter_map h xs) (each x y is) rest)

-- so does one that an output to the table hits
pub hits_within : (s : State) (in_port : ℕ) (outputs : List Output) → All (λ place. place < length s.table) (filter_map (hit_by s in_port) outputs)
hits_within s in_port outputs = all_given (λ (place : ℕ). place < length s.table) (hit_by s in_port) outputs
    (λ output place is. cases output place (is_to_table output.target) is) where
      cases : (output : Output) (place : ℕ) (b : Bool) → (if b then best_place s.table in_port output.header else None) ≡ Some place → place < length s.table
      cases output place true is = best_within s.table in_port output.header place is
      cases output place false is = absurd cc

kept_counted : (now : ℕ) (entry : Entry) → IsKept now entry → IsKept now (counted now entry)
kept_counted now entry kept = record { past = record { added = kept.past.added; hit = omega arith }; small = kept.small }

-- an entry that is counted now is of no later time
pub kept_one : (now place : ℕ) (entries : List Entry) → All (IsKept now) entries → All (IsKept now) (changed_at place (counted now) entries)
kept_one now place entries kept =
    all_changed (IsKept now) (IsKept now) place (counted now) entries kept (λ x h. h) (λ x here h. kept_counted now x h)

-- nor is a best entry, if there is one
pub kept_best : (now : ℕ) (entries : List Entry) (best : Option ℕ) → All (IsKept now) entries
    → All (IsKept now) (option_map_or (λ place. changed_at place (counted now) entries) best entries)
kept_best now entries None kept = kept
kept_best now entries (Some place) kept = kept_one now place entries kept

-- nor are several
pub kept_several : (now : ℕ) (entries : List Entry) (places : List ℕ) → All (IsKept now) entries → All (IsKept now) (counted_at now entries places)
kept_several now entries [] kept = kept
kept_several now entries (place ∷ places) kept = kept_several now (changed_at place (counted now) entries) places (kept_one now place entries kept)

-- the next entry was counted
pub next_counted : (now : ℕ) (places : List ℕ) (n d : ℕ) (table after all : List Entry) → n < length places
    → after ≡ changed_at (get_or places n d) (counted now) table → counted_at now table (drop n places) ≡ all → counted_at now after (drop (n + 1) places) ≡ all
next_counted now places n d table after all within put before =
    let first = at_drop_more (counted_at now table) places n d within in
    ap (λ (entries : List Entry). counted_at now entries (drop (n + 1) places)) put ∙ sym first ∙ before

-- ---- commands

added_cases : (o : Option ℕ) (full : Bool) (r after : After)
    → option_map_or {T = ℕ} {U = Result After TableNo} (λ with. Err (Overlap with)) o (if full then Err Full else Ok r) ≡ Ok after → after ≡ r
added_cases (Some with) full r after e = absurd cc
added_cases None true r after e = absurd cc
added_cases None false r after e = cc

-- what holds of each entry and of the one that is added holds after an ADD
all_added : (P : Entry → Type 0) (entries : List Entry) (mods : FlowMod) (now : ℕ) (after : After) → added entries mods now ≡ Ok after → All P entries
    → P (entry_of mods now) → All P after.entries
all_added P entries mods now after is all one =
    let others = without Add mods entries in
    let what = added_cases (overlap_of entries mods) (is_full_for entries mods) _ after is in
    rw what (All-push P others (entry_of mods now) (All-filter (λ (e : Entry). not (is_named Add mods e)) P entries all) one)

-- an entry that a MODIFY names gets the actions, and another one stays
with_cases : (P : Entry → Type 0) (how : Command) (mods : FlowMod) (e : Entry) → P e → P (record e { actions = mods.actions }) → P (with_actions how mods e)
with_cases P how mods e stays given = cases (is_named how mods e) where
  cases : (b : Bool) → P (if b then record e { actions = mods.actions } else e)
  cases true = given
  cases false = stays

modified_cases : (some : Bool) (r after : After) (other : Result After TableNo) → (if some then Ok r else other) ≡ Ok after → (after ≡ r) ⊎ (other ≡ Ok after)
modified_cases true r after other e = let same : after ≡ r = cc in inl same
modified_cases false r after other e = inr e

-- what holds of each entry, with the actions of the FLOW_MOD too, and of the one that is added holds after a MODIFY
all_modified : (P : Entry → Type 0) (how : Command) (entries : List Entry) (mods : FlowMod) (now : ℕ) (after : After) → modified how entries mods now ≡ Ok after
    → All P entries → P (entry_of mods now) → ((e : Entry) → P e → P (record e { actions = mods.actions })) → All P after.entries
all_modified P how entries mods now after is all one given = elim (modified_cases (list_any (is_named how mods) entries) _ after (added entries mods now) is) [
  | inl what ↦ rw what (All-map P (with_actions how mods) entries
      (All-weaker P (λ (e : Entry). P (with_actions how mods e)) (λ e holds. with_cases P how mods e holds (given e holds)) entries all))
  | inr adds ↦ all_added P entries mods now after adds all one
]

-- what was taken out, and what stays, after a DELETE
pub deletes : (how : Command) (entries : List Entry) (mods : FlowMod) (now : ℕ) (after : After) → is_delete how ≡ true → command how entries mods now ≡ Ok after
    → (after.entries ≡ without how mods entries) × (after.removed ≡ filter (is_named how mods) entries)
deletes Add entries mods now after is e = absurd cc
deletes Modify entries mods now after is e = absurd cc
deletes ModifyStrict entries mods now after is e = absurd cc
deletes Delete entries mods now after is e = (cc, cc)
deletes DeleteStrict entries mods now after is e = (cc, cc)

-- what holds of each entry, with the actions of the FLOW_MOD too, and of the one that is added holds after each command
all_commanded : (P : Entry → Type 0) (how : Command) (entries : List Entry) (mods : FlowMod) (now : ℕ) (after : After) → command how entries mods now ≡ Ok after
    → All P entries → P (entry_of mods now) → ((e : Entry) → P e → P (record e { actions = mods.actions })) → All P after.entries
all_commanded P Add entries mods now after is all one given = all_added P entries mods now after is all one
all_commanded P Modify entries mods now after is all one given = all_modified P Modify entries mods now after is all one given
all_commanded P ModifyStrict entries mods now after is all one given = all_modified P ModifyStrict entries mods now after is all one given
all_commanded P Delete entries mods now after is all one given =
    rw (deletes Delete entries mods now after refl is).0 (All-filter (λ (e : Entry). not (is_named Delete mods e)) P entries all)
all_commanded P DeleteStrict entries mods now after is all one given =
    rw (deletes DeleteStrict entries mods now after refl is).0 (All-filter (λ (e : Entry). not (is_named DeleteStrict mods e)) P entries all)

-- after a command the entries are kept
pub kept_commanded : (how : Command) (entries : List Entry) (mods : FlowMod) (now : ℕ) (after : After) → command how entries mods now ≡ Ok after
    → length mods.actions ≤ 8183 → All (IsKept now) entries → All (IsKept now) after.entries
kept_commanded how entries mods now after is small kept =
    let one : IsKept now (entry_of mods now) = record { past = record { added = omega arith; hit = omega arith }; small = small } in
    all_commanded (IsKept now) how entries mods now after is kept one
    (λ e holds. record { past = record { added = holds.past.added; hit = holds.past.hit }; small = small })

-- ---- time

-- later the entries that stay are kept
pub kept_later : (p : Entry → Bool) (now later : ℕ) (entries : List Entry) → now ≤ later → All (IsKept now) entries → All (IsKept later) (filter p entries)
kept_later p now later entries order kept = All-filter p (IsKept later) entries (All-weaker (IsKept now) (IsKept later)
    (λ e holds. let added = holds.past.added in let hit = holds.past.hit in record { past = record { added = omega arith; hit = omega arith }; small = holds.small })
    entries kept)

-- what holds of each entry holds of those that run out
pub all_gone : (P : Entry → Type 0) (now : ℕ) (entries : List Entry) → All P entries → All (λ late. P late.0) (gone now entries)
all_gone P now entries all =
    All-map (λ (late : Entry × ℕ). P late.0) (λ entry. (entry, reason_of now entry)) (filter (runs_out now) entries) (All-filter (runs_out now) P entries all)

-- those that pass a test are no more than all
pub few_pass : {X : Type 0} (p : X → Bool) (xs : List X) → length (filter p xs) ≤ length xs
few_pass p xs = omega (arith, length-filter p xs, count_by-le-length p xs)

-- nor are those that run out
pub few_gone : (now : ℕ) (entries : List Entry) → length (gone now entries) ≤ length entries
few_gone now entries =
    let mapped : length (gone now entries) ≡ length (filter (runs_out now) entries) =
    length-map (filter (runs_out now) entries) (λ (entry : Entry). (entry, reason_of now entry)) in
    let few = few_pass (runs_out now) entries in
    omega arith

-- ---- what a message has room for

-- the parts of a valid message fit its header's length
pub parts_fit : (m : Message) → ((n : Message) → HasValidBody n → length (canon_bytes n) ≡ message_len n) → IsValidMessage m → message_len m < 2 ^ 16
parts_fit m lengths valid = let long = lengths m valid.body in let fits = valid.length in omega arith

-- the actions of a FLOW_MOD that fits a message are so many
pub actions_fit : (actions : List Action) → All IsValidAction actions → 72 + actions_len actions < 2 ^ 16 → length actions ≤ 8183
actions_fit actions valid fits = let each = least_actions actions valid in omega arith

-- ---- a PACKET_OUT

-- one whose actions are not refused, and whose data are a packet, is applied
pub is_applied : (s : State) (request : Message) (in_port : ℕ) (actions : List Action) (content record_bytes : List ℕ) → actions_refusal true s.ports actions ≡ None
    → length content ≡ 36 → record_bytes ≡ take 36 content → packet_out s request in_port actions content ≡ applied s in_port actions (packet_of record_bytes)
is_applied s request in_port actions content record_bytes accepted long is =
    let test : (length content == 36) ≡ true = eq-eqb (length content) 36 long in
    let whole : take 36 content ≡ content = take_all 36 content (omega arith) in
    rw (accepted, test) (ap (λ (bytes : List ℕ). applied s in_port actions (packet_of bytes)) (sym (is ∙ whole)))
