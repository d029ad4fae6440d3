-- Whose entries stand in a history, by what the workers know of it.
use Rattle.std.proofs.Common.{◌≡◌, ◌≢◌, ℕ, zero, suc, ◌+◌, ◌%◌, ◌<◌, ◌≤◌, ◌==◌, List, [], ◌∷◌, length, slice_get, All, Some, sum_by, inl, inr, refl, ap, sym, ◌∙◌, subst, arith, get_or, mod-lt}
use Rattle.std.proofs.lemmas.Bool.{cases_lt}
use Rattle.std.proofs.lemmas.Bool.Decides.{nat_tests}
use Rattle.std.proofs.lemmas.Option.{same_Some, slice_get-get_or, slice_get_within, get_or_from_slice_get}
use mathlib.Core.List.{IsPrefix}
use Rattle.controller_api.specs.Reaction.{Reaction}
use Rattle.controller_api.specs.declared.item.UpItem.{UpItem}
use Rattle.turn_book.proofs.Begins.{prefix_back, prefix_get, prefix_length, prefix_trans, get_below}
use Rattle.turn_book.proofs.Sums.{between_in}
use Rattle.turn_book.specs.Places.{one_if, times}
use Rattle.turn_book.specs.Steps.{Whole}
use Rattle.turn_book.specs.declared.view.View.{View}
use Rattle.event_world.specs.Events.{actor_of}
use Rattle.event_machine.specs.Legal.{world_before}
use Rattle.event_machine.specs.Rule.{rule_event}
use Rattle.event_machine.specs.declared.trace.Entry.{Entry}
use Rattle.run_recorder.proofs.Gathering.{all_marks, sum_found}
use Rattle.run_recorder.specs.Answers.{AreDealt, AreParts, HasSeenOf, IsOwnerOf, Recorded, RestComesLast, own_places}
use Rattle.run_recorder.specs.Parts.{IsGathered}
use Rattle.run_recorder.specs.Recording.{IsRecording, IsWorking, Recording, Working}
use Rattle.run_recorder.specs.Rest.{GoesOnAlone, RestIsRuled}
use Rattle.run_recorder.specs.Workers.{actor_number, entry_mark, mark_of, marks_for, worker_of}
use Rattle.run_recorder.specs.declared.book.Subject.{Subject}

-- ---- lists by index

module _ {X : Type 0} (P : X → Type 0) where
  pub all_from_each : (xs : List X) → ((i : ℕ) (x : X) → slice_get xs i ≡ Some x → P x) → All P xs
  all_from_each xs each k d below = each k (get_or xs k d) (slice_get-get_or xs k d below)

  pub each_from_all : (xs : List X) → All P xs → (i : ℕ) (x : X) → slice_get xs i ≡ Some x → P x
  each_from_all xs all i x there = subst P (get_or_from_slice_get xs i x x there) (all i x (slice_get_within xs i x there))

-- ---- marks

-- the numbers of two workers are the same where their marks are
one_mark : (i j : ℕ) → i ≤ 8 → j ≤ 8 → times (mark_of i) (mark_of j ∷ []) ≡ one_if (i == j)
one_mark i j few less = grind (arith, nat_tests)

-- a worker from 1 on has one mark
pub lone_mark : (workers worker : ℕ) → 1 ≤ worker → marks_for workers worker ≡ mark_of worker ∷ []
lone_mark workers zero some = absurd (omega arith)
lone_mark workers (suc before) some = refl

same_number : (i j : ℕ) → 0 < one_if (i == j) → i ≡ j
same_number i j same = grind (arith, nat_tests)

other_number : (i j : ℕ) → i ≢ j → one_if (i == j) ≡ 0
other_number i j apart = grind (arith, nat_tests)

module _ {C : Type 0} (workers : ℕ) (few : workers ≤ 8) (history : List Entry)
    (named : (at : ℕ) (entry : Entry) → slice_get history at ≡ Some entry → (1 ≤ entry.worker) × (entry.worker ≤ workers)) where
  -- within what a worker has seen, its own places are those of the entries that name it
  names : (part : Working C) → IsWorking part → part.workers ≡ workers → IsPrefix part.view.seen history → 1 ≤ part.worker
      → (at : ℕ) (entry : Entry) → at < length part.view.seen → slice_get history at ≡ Some entry
      → times at (own_places part) ≡ one_if (entry.worker == part.worker)
  names part known same begins some at entry below there =
      let start = known.start in
      let owned = known.marked.owned at entry (omega arith) (prefix_back part.view.seen history at entry begins below there) in
      let marks : times (entry_mark entry) part.view.marks ≡ times (entry_mark entry) (mark_of part.worker ∷ []) = ap (times (entry_mark entry)) (known.marks ∙ lone_mark part.workers part.worker some) in
      let number = known.number in
      let less = (named at entry there).1 in
      owned ∙ marks ∙ one_mark entry.worker part.worker (omega arith) (omega arith)

  -- the worker of an own place
  holder : (part : Working C) → IsWorking part → part.workers ≡ workers → IsPrefix part.view.seen history
      → (at : ℕ) (entry : Entry) → slice_get history at ≡ Some entry → 0 < times at (own_places part)
      → (entry.worker ≡ part.worker) × (at < length part.view.seen)
  holder part known same begins at entry there own = elim (cases_lt at (length part.view.seen)) [
    | inr past ↦ let none = known.marked.within at past in absurd (omega arith)
    | inl below ↦ elim (cases_lt 0 part.worker) [
      | inr none_is ↦ let none : times at (own_places part) ≡ 0 = ap (times at) (known.idle (omega arith)) in absurd (omega arith)
      | inl some ↦ let name = names part known same begins (omega arith) at entry below there in (same_number entry.worker part.worker (omega arith), below)
    ]
  ]

  module _ (parts : List (Working C))
      (each : (i : ℕ) (part : Working C) → slice_get parts i ≡ Some part → IsWorking part × (part.workers ≡ workers) × (part.worker ≡ i) × IsPrefix part.view.seen history)
      (once : (at : ℕ) → at < length history → sum_by (λ (part : Working C). times at (own_places part)) parts ≡ 1) where
    -- an entry past what a worker has seen names another one
    other : (i : ℕ) (part : Working C) → slice_get parts i ≡ Some part → (at : ℕ) (entry : Entry) → slice_get history at ≡ Some entry
        → length part.view.seen ≤ at → entry.worker ≢ part.worker
    other i part here at entry there past same =
        let sum = once at (get_below history at entry there) in
        let found = sum_found (λ (part : Working C). times at (own_places part)) parts (omega arith) in
        let its = each found.0 found.1 found.2 in
        let mine = each i part here in
        let held = holder found.1 its.0 its.1 its.3 at entry there found.3 in
        let place : found.0 ≡ i = sym its.2 ∙ (sym held.0 ∙ (same ∙ mine.2)) in
        let one : found.1 ≡ part = same_Some found.1 part (sym found.2 ∙ (ap (slice_get parts) place ∙ here)) in
        let below : at < length part.view.seen = subst (λ (p : Working C). at < length p.view.seen) one held.1 in
        absurd (omega arith)

    module _ (final : List Entry) (goes_on : IsPrefix history final)
        (alone : (at : ℕ) (entry : Entry) → length history ≤ at → slice_get final at ≡ Some entry → entry.worker ≡ 0) where
      -- so in a history that goes on by worker 0 alone, each worker's own places are those of the entries that name it
      pub is_owner : (i : ℕ) (part : Working C) → slice_get parts i ≡ Some part → IsOwnerOf part final
      is_owner i part here =
          let mine = each i part here in record {
            places = λ some at entry there. elim (cases_lt at (length part.view.seen)) [
              | inl below ↦
                  let front = prefix_length part.view.seen history mine.3 in
                  names part mine.0 mine.1 mine.3 some at entry below (prefix_back history final at entry goes_on (omega arith) there)
              | inr past ↦ mine.0.marked.within at past ∙ sym (other_number entry.worker part.worker (elim (cases_lt at (length history)) [
                | inl below ↦ other i part here at entry (prefix_back history final at entry goes_on below there) past
                | inr after ↦ let rest = alone at entry after there in (λ same. omega arith)
              ]))
            ];
            within = λ at past.
                let front = prefix_length part.view.seen history mine.3 in
                let whole = prefix_length history final goes_on in
                mine.0.marked.within at (omega arith);
          }

      -- and it has seen a beginning in which no entry is worker 0's
      pub has_seen : (i : ℕ) (part : Working C) → slice_get parts i ≡ Some part → HasSeenOf part final
      has_seen i part here =
          let mine = each i part here in record {
            begins = prefix_trans part.view.seen history final mine.3 goes_on;
            others = all_from_each (λ (entry : Entry). 1 ≤ entry.worker) part.view.seen (λ at entry there. (named at entry (prefix_get part.view.seen history at entry mine.3 there)).0);
          }

-- ---- what the seat of all parts tells of the book

-- what a whole run tells of the workers that recorded it
pub record IsToldOf {C : Type 0} (react : C → UpItem → Reaction C) (first : C → C) (recorder : Recorded C) (parts : List (Working C)) (entries : List Entry) : Type 0 where
  pub seen : All (λ part. HasSeenOf part entries) parts
  pub own : All (λ part. IsOwnerOf part entries) parts
  pub dealt : AreDealt recorder.setup recorder.workers entries
  pub last : RestComesLast entries
  pub ruled : RestIsRuled react first recorder.setup entries

-- the number of the worker that has an actor
dealt_number : (number workers worker : ℕ) → 1 ≤ workers → worker ≡ 1 + number % workers → (1 ≤ worker) × (worker ≤ workers)
dealt_number number workers worker some is = let below : number % workers < workers = mod-lt number some in (omega arith, omega arith)

module _ {C : Type 0} (recorder : Recorded C) (parts : List (Working C))
    (are : AreParts recorder parts) (working : All IsWorking parts) where
  known_at : (i : ℕ) (part : Working C) → slice_get parts i ≡ Some part → IsWorking part
  known_at i part there = each_from_all IsWorking parts working i part there

  -- there is a part of worker 0, so there are from 1 to 8 workers
  few_workers : (1 ≤ recorder.workers) × (recorder.workers ≤ 8)
  few_workers = front parts are.count (λ part there. let known = known_at 0 part there in let same = (are.each 0 part there).0.workers in (omega (arith, known.some), omega (arith, known.few)))
    where
      front : (xs : List (Working C)) → length xs ≡ recorder.workers + 1 → ((part : Working C) → slice_get xs 0 ≡ Some part → (1 ≤ recorder.workers) × (recorder.workers ≤ 8)) → (1 ≤ recorder.workers) × (recorder.workers ≤ 8)
      front [] count here = absurd (omega arith)
      front (x ∷ xs) count here = here x refl

  pub whole_marks : (view : View Entry (Subject C)) → IsGathered parts view → length view.marks ≡ 64
  whole_marks view gathered = gathered.marks ∙ all_marks recorder.workers parts few_workers.1 are.count
      (λ i part there. let its = are.each i part there in (known_at i part there).marks ∙ (ap (λ n. marks_for n part.worker) its.0.workers ∙ ap (marks_for recorder.workers) its.1))

  module _ (view : View Entry (Subject C)) (gathered : IsGathered parts view) (subject : view.subject ≡ Some (record { setup = recorder.setup; workers = recorder.workers }))
      (react : C → UpItem → Reaction C) (first : C → C) (policies : C → ℕ) (recording : Recording C)
      (whole : Whole (λ b. b.begun.entries) (λ b. record { setup = b.begun.setup; workers = b.workers }) view recording)
      (legal : IsRecording react first policies recording) where
    about : ◌≡◌ {A = Subject C} (record { setup = recorder.setup; workers = recorder.workers }) (record { setup = recording.begun.setup; workers = recording.workers })
    about = same_Some _ _ (sym subject ∙ whole.about)

    pub same_setup : recording.begun.setup ≡ recorder.setup
    same_setup = sym (ap (λ s. s.setup) about)

    same_workers : recording.workers ≡ recorder.workers
    same_workers = sym (ap (λ s. s.workers) about)

    dealt_at : (at : ℕ) (entry : Entry) → slice_get recording.begun.entries at ≡ Some entry → entry.worker ≡ worker_of recorder.setup recorder.workers (actor_of entry.event)
    dealt_at at entry there =
        each_from_all (λ (entry : Entry). entry.worker ≡ worker_of recording.begun.setup recording.workers (actor_of entry.event)) recording.begun.entries legal.dealt at entry there
        ∙ (ap (λ setup. worker_of setup recording.workers (actor_of entry.event)) same_setup ∙ ap (λ n. worker_of recorder.setup n (actor_of entry.event)) same_workers)

    named_at : (at : ℕ) (entry : Entry) → slice_get recording.begun.entries at ≡ Some entry → (1 ≤ entry.worker) × (entry.worker ≤ recorder.workers)
    named_at at entry there = dealt_number (actor_number recorder.setup (actor_of entry.event)) recorder.workers entry.worker few_workers.0 (dealt_at at entry there)

    -- no entry of the book is worker 0's
    pub none_of_rest : All (λ entry. 1 ≤ entry.worker) recording.begun.entries
    none_of_rest = all_from_each (λ (entry : Entry). 1 ≤ entry.worker) recording.begun.entries (λ at entry there. (named_at at entry there).0)

    part_at : (i : ℕ) (part : Working C) → slice_get parts i ≡ Some part → IsWorking part × (part.workers ≡ recorder.workers) × (part.worker ≡ i) × IsPrefix part.view.seen recording.begun.entries
    part_at i part there =
        let its = are.each i part there in
        (known_at i part there, its.0.workers, its.1, subst (λ l. IsPrefix part.view.seen l) whole.whole (each_from_all (λ (part : Working C). IsPrefix part.view.seen view.seen) parts gathered.begins i part there))

    once_at : (at : ℕ) → at < length recording.begun.entries → sum_by (λ (part : Working C). times at (own_places part)) parts ≡ 1
    once_at at below =
        let start = gathered.start in
        sym (gathered.own at) ∙ (whole.once at ∙ between_in view.start (length recording.begun.entries) at (omega arith) below)

    module _ (entries : List Entry) (goes : GoesOnAlone react first recording.begun.setup recording.begun.entries entries) where
      alone_at : (at : ℕ) (entry : Entry) → length recording.begun.entries ≤ at → slice_get entries at ≡ Some entry → entry.worker ≡ 0
      alone_at at entry past there = (goes.alone at entry past there).0

      all_seen : All (λ part. HasSeenOf part entries) parts
      all_seen = all_from_each (λ (part : Working C). HasSeenOf part entries) parts (λ i part there.
          has_seen recorder.workers few_workers.1 recording.begun.entries named_at parts part_at once_at entries goes.begins alone_at i part there)

      all_own : All (λ part. IsOwnerOf part entries) parts
      all_own = all_from_each (λ (part : Working C). IsOwnerOf part entries) parts (λ i part there.
          is_owner recorder.workers few_workers.1 recording.begun.entries named_at parts part_at once_at entries goes.begins alone_at i part there)

      all_dealt : AreDealt recorder.setup recorder.workers entries
      all_dealt at entry there = elim (cases_lt at (length recording.begun.entries)) [
        | inl below ↦ inr (dealt_at at entry (prefix_back recording.begun.entries entries at entry goes.begins below there))
        | inr past ↦ inl (alone_at at entry past there)
      ]

      -- an entry of worker 0 stands past the book's history
      past_history : (at : ℕ) (entry : Entry) → slice_get entries at ≡ Some entry → entry.worker ≡ 0 → length recording.begun.entries ≤ at
      past_history at entry there none = elim (cases_lt at (length recording.begun.entries)) [
        | inl below ↦ let named = (named_at at entry (prefix_back recording.begun.entries entries at entry goes.begins below there)).0 in absurd (omega arith)
        | inr past ↦ past
      ]

      rest_last : RestComesLast entries
      rest_last at later entry other le there then none =
          let past = past_history at entry there none in alone_at later other (omega arith) then

      rest_ruled : RestIsRuled react first recorder.setup entries
      rest_ruled at entry there none =
          subst (λ setup. rule_event setup (world_before react first setup entries at).shared ≡ Some entry.event) same_setup
          (goes.alone at entry (past_history at entry there none) there).1

      -- so the whole run tells of each part what it saw and entered, and of each entry whose it is
      pub tells : IsToldOf react first recorder parts entries
      tells = record { seen = all_seen; own = all_own; dealt = all_dealt; last = rest_last; ruled = rest_ruled }
