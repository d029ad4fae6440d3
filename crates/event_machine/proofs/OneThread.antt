-- The rule of one thread.
use Rattle.std.proofs.Common.{◌≡◌, ◌∙◌, ℕ, ◌+◌, ◌≤◌, ◌==◌, zero, suc, true, List, [], ◌∷◌, ◌++◌, length, map, take, slice_get, Option, Some, None, option_map, ap, ap₂, arith, inl, inr, refl, subst, sym}
use Rattle.std.specs.List.{count_by}
use Rattle.std.specs.Option.{option_or}
use Rattle.std.proofs.lemmas.Bool.{cases_Bool, cases_lt}
use Rattle.std.proofs.lemmas.List.{take_all}
use Rattle.std.proofs.lemmas.Option.{none-some, same_Some, slice_get_cases, slice_get_past, slice_get_within, some_pair_parts}
use Rattle.listed.specs.Lists.{all_at}
use Rattle.controller_api.specs.Reaction.{Reaction}
use Rattle.controller_api.specs.declared.item.UpItem.{UpItem}
use Rattle.machine_setup.specs.declared.script.Line.{Line}
use Rattle.machine_setup.specs.declared.setup.Setup.{Setup}
use Rattle.message_pools.specs.declared.item.Item.{Item}
use Rattle.pool_book.specs.Pools.{IsQuiet, first_waiting}
use Rattle.pool_book.specs.declared.name.PoolName.{PoolName}
use Rattle.event_world.specs.Answers.{next_line}
use Rattle.event_world.specs.Events.{event_of, number_of}
use Rattle.event_world.specs.Mail.{Shared}
use Rattle.event_world.specs.World.{Situation, after_all, first_event}
use Rattle.event_world.specs.declared.event.Event.{Event}
use Rattle.event_world.specs.declared.event.Event.TheVariants.{In, Ctl, Pkt, Note, App, Admin, Recv}
use Rattle.event_world.proofs.Reading.{line_quiet, line_unmarked, none_waits, quiet_none}
use Rattle.event_machine.specs.Legal.{EndsAs, IsDone, IsHead, IsLegalEvent, world_before}
use Rattle.event_machine.specs.Rule.{IsOneThreadRun, rule_event}
use Rattle.event_machine.specs.declared.trace.End.{End}
use Rattle.event_machine.specs.declared.trace.End.TheVariants.{Quiet, Full}
use Rattle.event_machine.specs.declared.trace.Entry.{Entry}
use Rattle.event_machine.specs.declared.trace.Trace.{Trace}
use Rattle.event_machine.proofs.FirstEvents.{HasPools, legal_line, legal_waiting}
use Rattle.event_machine.proofs.Histories.{front_more}

-- ---- the rule goes on

-- where nothing waits the script's line is the next one, marked or not
quiet_line : (script : List Line) (shared : Shared) (line : Line) → slice_get script shared.inputs ≡ Some line → IsQuiet shared.pools → next_line script shared ≡ Some (In shared.inputs)
quiet_line script shared line there quiet = elim (cases_Bool line.after_quiet) [
  | inl marked ↦ line_quiet script shared line true there marked (λ yes'. quiet, λ all. refl) refl
  | inr free ↦ line_unmarked script shared line there free
]

-- an event that takes the first item of its pool takes one item
one_head : (shared : Shared) (event : Event) (a b : Option Item) → IsHead shared event a → IsHead shared event b → a ≡ b
one_head shared event a b (x, is_x, at_x) (y, is_y, at_y) = is_x ∙ ap Some (some_pair_parts (number_of event) (number_of event) x y (sym at_x ∙ at_y)).1 ∙ sym is_y

module _ {C : Type 0} where
  -- what the rule gives may stand next
  abbrev Goes : Setup C → Situation C → Type 0
  Goes setup world = (event : Event) × (item : Option Item) × (rule_event setup world.shared ≡ Some event) × IsLegalEvent setup world event item

  goes_by : (setup : Setup C) (world : Situation C) (found : Option (PoolName × ℕ)) → first_waiting world.shared.pools ≡ found → HasPools setup world → ¬ IsDone setup world → world.shared.inputs ≤ length setup.script → Goes setup world
  goes_by setup world (Some one) e all undone few =
      let taking = legal_waiting setup world 0 one all e in
      (event_of one.0 one.1, taking.0, rw e refl, taking.1)
  goes_by setup world None e all undone few =
      let quiet = none_waits world.shared.pools e in
      elim (slice_get_cases setup.script world.shared.inputs).1 [
        | inl (line, below, there, read) ↦
            let due = quiet_line setup.script world.shared line there quiet in
            let may = legal_line setup world (In world.shared.inputs) due in
            let nothing : first_event world.shared ≡ None = ap (option_map (λ (one : PoolName × ℕ). event_of one.0 one.1)) e in
            (In world.shared.inputs, may.0, ap (λ (event : Option Event). option_or event (next_line setup.script world.shared)) nothing ∙ due, may.1)
        | inr (past, none) ↦ let all_given : world.shared.inputs ≡ length setup.script = omega arith in absurd (undone (all_given, quiet))
      ]

  -- In a world that is not done the rule gives an event, which may stand next.
  pub rule_goes : (setup : Setup C) (world : Situation C) → HasPools setup world → ¬ IsDone setup world → world.shared.inputs ≤ length setup.script → Goes setup world
  rule_goes setup world all undone few = goes_by setup world (first_waiting world.shared.pools) refl all undone few

  -- ---- one run

  -- where all is done the rule gives nothing
  rule_ends : (setup : Setup C) (world : Situation C) → IsDone setup world → rule_event setup world.shared ≡ None
  rule_ends setup world done =
      let none = quiet_none world.shared.pools done.1 in
      let past : slice_get setup.script world.shared.inputs ≡ None = slice_get_past setup.script world.shared.inputs (omega (arith, done.0)) in
      rw (none, past) refl

  -- so does each legal event
  one_item : (setup : Setup C) (world : Situation C) (event : Event) (a b : Option Item) → IsLegalEvent setup world event a → IsLegalEvent setup world event b → a ≡ b
  one_item setup world (In position) a b left right = left.1 ∙ sym right.1
  one_item setup world (Ctl s n) a b left right = one_head world.shared (Ctl s n) a b left right
  one_item setup world (Pkt s p n) a b left right = one_head world.shared (Pkt s p n) a b left right
  one_item setup world (Note s n) a b left right = one_head world.shared (Note s n) a b left right
  one_item setup world (App c s n) a b left right = one_head world.shared (App c s n) a b left right
  one_item setup world (Admin c n) a b left right = one_head world.shared (Admin c n) a b left right
  one_item setup world (Recv h n) a b left right = one_head world.shared (Recv h n) a b left right

  -- a run has one end
  one_end : (setup : Setup C) (world : Situation C) (events : ℕ) (a b : End) → EndsAs setup world events a → EndsAs setup world events b → a ≡ b
  one_end setup world events Quiet Quiet left right = refl
  one_end setup world events Quiet Full left right = absurd (right.1 left)
  one_end setup world events Full Quiet left right = absurd (left.1 right)
  one_end setup world events Full Full left right = refl

-- an entry is its four parts
one_entry : (x y : Entry) → x.worker ≡ y.worker → x.number ≡ y.number → x.event ≡ y.event → x.item ≡ y.item → x ≡ y
one_entry x y worker number event item =
    let two : ◌≡◌ {A = Entry} x (record { worker = y.worker; number = y.number; event = x.event; item = x.item }) = ap₂ (λ (w n : ℕ). record { worker = w; number = n; event = x.event; item = x.item }) worker number in
    two ∙ ap₂ (λ (e : Event) (i : Option Item). record { worker = y.worker; number = y.number; event = e; item = i }) event item

module _ {C : Type 0} (react : C → UpItem → Reaction C) (first : C → C) where
  -- what two runs have at a place is the same where all before it is
  same_next : (setup : Setup C) (one other : Trace) (at : ℕ) (x y : Entry) → IsOneThreadRun react first setup one → IsOneThreadRun react first setup other → take at one.entries ≡ take at other.entries
      → slice_get one.entries at ≡ Some x → slice_get other.entries at ≡ Some y → x ≡ y
  same_next setup one other at x y left right fronts here there =
      let world : Situation C = world_before react first setup one.entries at in
      let worlds : world_before react first setup other.entries at ≡ world = ap (λ (front : List Entry). after_all react first setup (map (λ (entry : Entry). entry.event) front)) (sym fronts) in
      let known = left.legal.entries at x (slice_get_within one.entries at x here) here in
      let too = right.legal.entries at y (slice_get_within other.entries at y there) there in
      let worker : x.worker ≡ y.worker = all_at (λ (entry : Entry). entry.worker ≡ 0) one.entries at x left.alone here ∙ sym (all_at (λ (entry : Entry). entry.worker ≡ 0) other.entries at y right.alone there) in
      let number : x.number ≡ y.number = known.1 ∙ ap₂ (λ (front : List Entry) (w : ℕ). count_by (λ entry. entry.worker == w) front) fronts worker ∙ sym too.1 in
      let ruled : rule_event setup world.shared ≡ Some y.event = ap (λ (w : Situation C). rule_event setup w.shared) (sym worlds) ∙ right.ruled at y there in
      let event : x.event ≡ y.event = same_Some x.event y.event (sym (left.ruled at x here) ∙ ruled) in
      let legal : IsLegalEvent setup world y.event x.item = subst (λ (e : Event). IsLegalEvent setup world e x.item) event known.0.1 in
      let legal' : IsLegalEvent setup world y.event y.item = subst (λ (w : Situation C). IsLegalEvent setup w y.event y.item) worlds too.0.1 in
      one_entry x y worker number event (one_item setup world y.event x.item y.item legal legal')

  -- two runs are the same up to each place to which both come
  same_fronts : (setup : Setup C) (one other : Trace) (at : ℕ) → IsOneThreadRun react first setup one → IsOneThreadRun react first setup other → at ≤ length one.entries → at ≤ length other.entries → take at one.entries ≡ take at other.entries
  same_fronts setup one other zero left right within within' = refl
  same_fronts setup one other (suc at) left right within within' = elim (slice_get_cases one.entries at).1 [
    | inl (x, below, here, read) ↦ elim (slice_get_cases other.entries at).1 [
      | inl (y, below', there, read') ↦
          let fronts = same_fronts setup one other at left right (omega arith) (omega arith) in
          let same = same_next setup one other at x y left right fronts here there in
          let more : suc at ≡ at + 1 = omega arith in
          ap (λ n. take n one.entries) more ∙ front_more one.entries at x here ∙ ap₂ (λ (front : List Entry) (entry : Entry). front ++ entry ∷ []) fronts same
          ∙ sym (front_more other.entries at y there) ∙ ap (λ n. take n other.entries) (sym more)
      | inr (past, none) ↦ absurd (omega arith)
    ]
    | inr (past, none) ↦ absurd (omega arith)
  ]

  -- where two runs have the same entries so far and one has ended there, the other has no more
  no_more : (setup : Setup C) (one other : Trace) (y : Entry) → IsOneThreadRun react first setup other → take (length one.entries) other.entries ≡ one.entries → slice_get other.entries (length one.entries) ≡ Some y
      → (end : End) → EndsAs setup (world_before react first setup other.entries (length one.entries)) (length one.entries) end → ⊥
  no_more setup one other y right fronts there Quiet ends = none-some y.event (sym (rule_ends setup (world_before react first setup other.entries (length one.entries)) ends) ∙ right.ruled (length one.entries) y there)
  no_more setup one other y right fronts there Full ends =
      let below = (right.legal.entries (length one.entries) y (slice_get_within other.entries (length one.entries) y there) there).0.0 in
      let full = ends.0 in
      omega arith

  not_longer : (setup : Setup C) (one other : Trace) → IsOneThreadRun react first setup one → IsOneThreadRun react first setup other → length other.entries ≤ length one.entries
  not_longer setup one other left right = elim (cases_lt (length one.entries) (length other.entries)) [
    | inl longer ↦ elim (slice_get_cases other.entries (length one.entries)).1 [
      | inl (y, below, there, read) ↦
          let fronts = same_fronts setup one other (length one.entries) left right (omega arith) (omega arith) in
          absurd (no_more setup one other y right (sym fronts ∙ take_all (length one.entries) one.entries (omega arith)) there one.end
          (subst (λ (front : List Entry). EndsAs setup (after_all react first setup (map (λ (entry : Entry). entry.event) front)) (length one.entries) one.end) fronts left.legal.end))
      | inr (past, none) ↦ absurd (omega arith)
    ]
    | inr within ↦ within
  ]

  -- Two runs of one thread of one setup are the same.
  pub one_run : (setup : Setup C) (one other : Trace) → IsOneThreadRun react first setup one → IsOneThreadRun react first setup other → one ≡ other
  one_run setup one other left right =
      let most = not_longer setup one other left right in
      let least = not_longer setup other one right left in
      let entries : one.entries ≡ other.entries =
      sym (take_all (length one.entries) one.entries (omega arith)) ∙ same_fronts setup one other (length one.entries) left right (omega arith) (omega arith) ∙ take_all (length one.entries) other.entries (omega arith) in
      let ends = subst (λ (all : List Entry). EndsAs setup (world_before react first setup all (length all)) (length all) one.end) entries left.legal.end in
      let end = one_end setup (world_before react first setup other.entries (length other.entries)) (length other.entries) one.end other.end ends right.legal.end in
      let whole : ◌≡◌ {A = Trace} one other = ap₂ (λ (all : List Entry) (end : End). record { entries = all; end = end }) entries end in
      whole
