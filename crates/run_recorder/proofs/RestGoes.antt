-- How one thread goes on with a run by its rule, and comes to the end.
use Rattle.std.proofs.Common.{◌≡◌, ◌∙◌, ℕ, ◌+◌, ◌≤◌, ◌==◌, Bool, true, false, if◌then◌else◌, List, [], ◌∷◌, ◌++◌, length, map, Option, Some, All, ap, arith, inl, inr, refl, subst, sym}
use Rattle.std.specs.List.{count_by}
use Rattle.std.proofs.lemmas.Bool.Decides.{nat_tests}
use Rattle.std.proofs.lemmas.List.{take_all, take-append-le}
use Rattle.std.proofs.lemmas.List.Elements.{All-head, All-tail}
use Rattle.std.proofs.lemmas.List.Sums.{sum_by_push, sum_by-cons}
use Rattle.std.proofs.lemmas.Option.{same_Some}
use Rattle.controller_api.specs.Reaction.{Reaction}
use Rattle.controller_api.specs.declared.item.UpItem.{UpItem}
use Rattle.machine_setup.specs.declared.setup.Setup.{Setup}
use Rattle.message_pools.specs.declared.item.Item.{Item}
use Rattle.turn_book.proofs.Begins.{get_below, get_snoc, prefix_more, prefix_self}
use Rattle.event_world.specs.Fits.{Fits}
use Rattle.event_world.specs.World.{Situation, after_all}
use Rattle.event_world.specs.declared.event.Event.{Event}
use Rattle.event_machine.specs.Legal.{EndsAs, IsDone, IsLegalEvent, IsLegalRun, IsSoundTo, earlier_of, world_before}
use Rattle.event_machine.specs.Rule.{rule_event}
use Rattle.event_machine.specs.declared.trace.Entry.{Entry}
use Rattle.event_machine.specs.declared.trace.Trace.{Trace}
use Rattle.run_recorder.specs.Recording.{Begun, IsBegun, IsComplete, MayStand, entry_in, world_at}
use Rattle.run_recorder.specs.Rest.{GoesOnAlone, IsRuled}
use Rattle.run_recorder.proofs.Goes.{may_stand}

-- ---- the numbers of worker 0

-- what fails a test adds nothing to a count
adds_none : (test : Bool) (count : ℕ) → test ≡ false → (if test then 1 else 0) + count ≡ count
adds_none true count e = absurd cc
adds_none false count e = omega arith

-- entries of workers from 1 on are none of worker 0
none_of_rest : (entries : List Entry) → All (λ entry. 1 ≤ entry.worker) entries → count_by (λ entry. entry.worker == 0) entries ≡ 0
none_of_rest [] all = refl
none_of_rest (entry ∷ entries) all =
    let here : 1 ≤ entry.worker = All-head (λ (entry : Entry). 1 ≤ entry.worker) entry entries all in
    let apart : (entry.worker == 0) ≡ false = grind (arith, nat_tests) in
    sum_by-cons (λ (entry : Entry). if entry.worker == 0 then 1 else 0) entry entries
    ∙ adds_none (entry.worker == 0) (count_by (λ (entry : Entry). entry.worker == 0) entries) apart
    ∙ none_of_rest entries (All-tail (λ (entry : Entry). 1 ≤ entry.worker) entry entries all)

earlier_whole : (entries : List Entry) (worker : ℕ) → earlier_of entries (length entries) worker ≡ count_by (λ entry. entry.worker == worker) entries
earlier_whole entries worker = ap (λ (front : List Entry). count_by (λ (entry : Entry). entry.worker == worker) front) (take_all (length entries) entries (omega arith))

-- worker 0 has entered nothing where all entries are of workers from 1 on
pub rest_begins : (entries : List Entry) → All (λ entry. 1 ≤ entry.worker) entries → 0 ≡ earlier_of entries (length entries) 0
rest_begins entries all = sym (earlier_whole entries 0 ∙ none_of_rest entries all)

-- and one entry more of it counts for one
one_more : (entries : List Entry) (entry : Entry) → entry.worker ≡ 0 → earlier_of (entries ++ entry ∷ []) (length (entries ++ entry ∷ [])) 0 ≡ earlier_of entries (length entries) 0 + 1
one_more entries entry is =
    let mine : (if entry.worker == 0 then 1 else 0) ≡ 1 = rw is refl in
    earlier_whole (entries ++ entry ∷ []) 0 ∙ sum_by_push (λ (entry : Entry). if entry.worker == 0 then 1 else 0) entries entry
    ∙ ap (λ n. count_by (λ (entry : Entry). entry.worker == 0) entries + n) mine ∙ ap (λ n. n + 1) (sym (earlier_whole entries 0))

module _ {C : Type 0} (react : C → UpItem → Reaction C) (first : C → C) where
  -- ---- by the rule

  -- the rule gives an event in each world that is not done, which may stand next
  abbrev pub RuleOn : (C → ℕ) → Type 0
  RuleOn policies = (setup : Setup C) (world : Situation C) → Fits policies setup world → ¬ IsDone setup world → world.shared.inputs ≤ length setup.script
      → (event : Event) × (item : Option Item) × (rule_event setup world.shared ≡ Some event) × IsLegalEvent setup world event item

  -- a sound history has no more inputs than the script has lines
  abbrev pub InputsOn : Type 0
  InputsOn = (setup : Setup C) (entries : List Entry) → IsSoundTo react first setup entries (length entries)
      → (world_before react first setup entries (length entries)).shared.inputs ≤ length setup.script

  -- Until a run is complete the rule gives an event, which may stand next.
  pub rule_gives : (policies : C → ℕ) (begun : Begun C) (event : Event) → RuleOn policies → InputsOn → IsBegun react first policies begun
      → ¬ IsComplete react first begun.setup begun.entries → rule_event begun.setup begun.world.shared ≡ Some event → MayStand begun.setup begun.world event
  rule_gives policies begun event rule_on inputs_on known undone ruled =
      let goes_on : ¬ IsDone begun.setup begun.world = λ done. undone (inl (subst (λ (w : Situation C). IsDone begun.setup w) known.comes_to done)) in
      let inputs : begun.world.shared.inputs ≤ length begun.setup.script =
      subst (λ (w : Situation C). w.shared.inputs ≤ length begun.setup.script) (sym known.comes_to) (inputs_on begun.setup begun.entries known.sound) in
      let given = rule_on begun.setup begun.world known.fits goes_on inputs in
      let same : given.0 ≡ event = same_Some given.0 event (sym given.2 ∙ ruled) in
      subst (λ (e : Event). MayStand begun.setup begun.world e) same (may_stand begun.setup begun.world given.0 given.1 given.3)

  -- nothing has been added yet
  pub alone_at_first : (setup : Setup C) (entries : List Entry) → GoesOnAlone react first setup entries entries
  alone_at_first setup entries = record {
    begins = prefix_self entries;
    alone = λ at entry past there. let below = get_below entries at entry there in absurd (omega arith);
  }

  -- before an entry nothing counts that comes after it
  world_front : (setup : Setup C) (entries more : List Entry) (at : ℕ) → at ≤ length entries → world_before react first setup (entries ++ more) at ≡ world_before react first setup entries at
  world_front setup entries more at within = ap (λ (front : List Entry). after_all react first setup (map (λ (entry : Entry). entry.event) front)) (take-append-le at entries more within)

  -- with an entry more that the rule wants the entries still go on by worker 0 alone
  pub alone_more : (setup : Setup C) (beginning entries after : List Entry) (world : Situation C) (number : ℕ)
      → GoesOnAlone react first setup beginning entries → world ≡ world_at react first setup entries → IsRuled setup world number entries after
      → GoesOnAlone react first setup beginning after
  alone_more setup beginning entries after world number alone comes_to (event, ruled, is) =
      let entry : Entry = entry_in world 0 number event in
      let wanted : rule_event setup (world_at react first setup entries).shared ≡ Some event = ap (λ (w : Situation C). rule_event setup w.shared) (sym comes_to) ∙ ruled in
      subst (λ (all : List Entry). GoesOnAlone react first setup beginning all) (sym is) (record {
        begins = prefix_more beginning entries (entry ∷ []) alone.begins;
        alone = λ at other past there. elim (get_snoc entries entry at other there) [
          | inl before ↦
              let below = get_below entries at other before in
              let known = alone.alone at other past before in
              (known.0, ap (λ (w : Situation C). rule_event setup w.shared) (world_front setup entries (entry ∷ []) at (omega arith)) ∙ known.1)
          | inr last ↦
              let place : at ≡ length entries = last.0 in
              let worlds : world_before react first setup (entries ++ entry ∷ []) at ≡ world_at react first setup entries = world_front setup entries (entry ∷ []) at (omega arith) ∙ ap (λ n. world_before react first setup entries n) place in
              (ap (λ (x : Entry). x.worker) (sym last.1), ap (λ (w : Situation C). rule_event setup w.shared) worlds ∙ wanted ∙ ap (λ (x : Entry). Some x.event) last.1)
        ];
      })

  -- What one thread has come to, from a beginning on: it went on alone, and this is its next number.
  pub record GoesOn (began now : Begun C) (number : ℕ) : Type 0 where
    pub setup : now.setup ≡ began.setup
    pub alone : GoesOnAlone react first began.setup began.entries now.entries
    pub next : number ≡ earlier_of now.entries (length now.entries) 0

  -- it goes on by an entry that the rule wants
  pub goes_more : (policies : C → ℕ) (began now new : Begun C) (number : ℕ) → GoesOn began now number → IsBegun react first policies now
      → new.setup ≡ now.setup → IsRuled now.setup now.world number now.entries new.entries → GoesOn began new (number + 1)
  goes_more policies began now new number goes begun setup ruled =
      let event : Event = ruled.0 in
      let same : now.setup ≡ began.setup = goes.setup in
      let comes_to : now.world ≡ world_at react first began.setup now.entries = begun.comes_to ∙ ap (λ (s : Setup C). world_at react first s now.entries) same in
      let there : IsRuled began.setup now.world number now.entries new.entries = subst (λ (s : Setup C). IsRuled s now.world number now.entries new.entries) same ruled in
      record {
        setup = setup ∙ same;
        alone = alone_more began.setup began.entries now.entries new.entries now.world number goes.alone comes_to there;
        next = ap (λ n. n + 1) goes.next ∙ sym (one_more now.entries (entry_in now.world 0 number event) refl) ∙ ap (λ (all : List Entry). earlier_of all (length all) 0) (sym ruled.2);
      }

  -- ---- the end

  -- A beginning that is complete is a legal run, with the end that it has.
  pub ends_legal : (policies : C → ℕ) (begun : Begun C) (trace : Trace) → IsBegun react first policies begun
      → trace.entries ≡ begun.entries → EndsAs begun.setup begun.world (length begun.entries) trace.end → IsLegalRun react first begun.setup trace
  ends_legal policies begun trace known same ends =
      let there : EndsAs begun.setup (world_at react first begun.setup begun.entries) (length begun.entries) trace.end =
      subst (λ (w : Situation C). EndsAs begun.setup w (length begun.entries) trace.end) known.comes_to ends in
      record {
        entries = subst (λ (all : List Entry). IsSoundTo react first begun.setup all (length all)) (sym same) known.sound;
        end = subst (λ (all : List Entry). EndsAs begun.setup (world_at react first begun.setup all) (length all) trace.end) (sym same) there;
      }
