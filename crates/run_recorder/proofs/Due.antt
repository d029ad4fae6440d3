-- Whose the entries of a recording are, and what is still due when a deed is entered.
use Rattle.std.proofs.Common.{◌≡◌, ◌≢◌, ℕ, zero, suc, ◌<◌, ◌≤◌, ◌==◌, List, [], ◌∷◌, length, map, take, Some, slice_get, inl, inr, refl, ap, sym, ◌∙◌, subst, arith}
use Rattle.std.specs.List.{All, concat, count_by}
use Rattle.std.proofs.Math.Seq.{take-length}
use Rattle.std.proofs.lemmas.Bool.{cases_lt}
use Rattle.std.proofs.lemmas.Bool.Decides.{nat_tests}
use Rattle.std.proofs.lemmas.List.{take-append-le}
use Rattle.std.proofs.lemmas.Nat.{mod_below}
use Rattle.std.proofs.lemmas.Option.{get_or_from_slice_get, slice_get_within}
use mathlib.Core.List.{IsPrefix}
use Rattle.controller_api.specs.Reaction.{Reaction}
use Rattle.controller_api.specs.declared.item.UpItem.{UpItem}
use Rattle.machine_setup.specs.declared.setup.Setup.{Setup}
use Rattle.pool_book.specs.declared.actor.Actor.{Actor}
use Rattle.pool_book.specs.declared.actor.Actor.TheVariants.{Script}
use Rattle.turn_book.specs.History.{IsMarked, OwnsMarked}
use Rattle.turn_book.specs.Places.{one_if, times}
use Rattle.turn_book.specs.declared.view.View.{View}
use Rattle.turn_book.proofs.Begins.{prefix_back, prefix_length}
use Rattle.turn_book.proofs.Sums.{times_here}
use Rattle.event_world.specs.Answers.{IsInputEvent, first_event_of, next_line}
use Rattle.event_world.specs.Events.{actor_of}
use Rattle.event_world.specs.World.{after_all}
use Rattle.event_world.specs.declared.event.Event.{Event}
use Rattle.event_world.specs.declared.event.Event.TheVariants.{In}
use Rattle.event_machine.specs.Legal.{IsSoundTo, earlier_of, world_before}
use Rattle.event_machine.specs.declared.trace.Entry.{Entry}
use Rattle.run_recorder.specs.Answers.{HasActor, IsDue, own_places, winning}
use Rattle.run_recorder.specs.Recording.{IsDealt, IsRecording, IsWorking, MayStand, Recording, Working, world_at}
use Rattle.run_recorder.specs.Workers.{actor_number, entry_mark, mark_of, marks_for, worker_of}
use Rattle.run_recorder.specs.declared.book.Subject.{Subject}
use Rattle.run_recorder.specs.declared.task.Deed.{Deed}
use Rattle.run_recorder.proofs.OwnCount.{own_count}

-- what holds of all holds of each
each_of : {A : Type 0} (P : A → Type 0) (xs : List A) (at : ℕ) (x : A) → All P xs → slice_get xs at ≡ Some x → P x
each_of P xs at x all there = subst P (get_or_from_slice_get xs at x x there) (all at x (slice_get_within xs at x there))

-- the mark of an entry stands once among those of its own worker, and not among another's
mark_once : (worker other : ℕ) → worker ≤ 8 → other ≤ 8 → times (mark_of other) (mark_of worker ∷ []) ≡ one_if (other == worker)
mark_once worker other few less = grind (arith, nat_tests)

-- an entry that names the worker is its own
itself : (worker other : ℕ) → worker ≡ other → one_if (worker == other) ≡ 1
itself worker other same = grind (arith, nat_tests)

-- the marks of a worker from 1 on
marks_are : (workers worker : ℕ) → 1 ≤ worker → marks_for workers worker ≡ mark_of worker ∷ []
marks_are workers zero some = absurd (omega arith)
marks_are workers (suc before) some = refl

module _ {C : Type 0} (setup : Setup C) (workers : ℕ) where
  -- a worker that has an actor is one from 1 to the number of workers
  worker_from : (who : Actor) → 1 ≤ worker_of setup workers who
  worker_from who = omega arith

  worker_to : (who : Actor) → 1 ≤ workers → worker_of setup workers who ≤ workers
  worker_to who some = let below = mod_below (actor_number setup who) workers (omega arith) in omega arith

  -- the places of a worker's own entries are those at which an entry names it
  own_named : (worker start : ℕ) (entries : List Entry) (marks : List ℕ) (own : List (List ℕ)) → 1 ≤ workers → workers ≤ 8 → worker ≤ 8
      → IsDealt setup workers entries → start ≡ 0 → marks ≡ mark_of worker ∷ [] → OwnsMarked entry_mark start entries marks own
      → (at : ℕ) (entry : Entry) → slice_get entries at ≡ Some entry → times at (concat own) ≡ one_if (entry.worker == worker)
  own_named worker start entries marks own some few to dealt first are owned at entry there =
      let dealt_to = each_of (λ entry. entry.worker ≡ worker_of setup workers (actor_of entry.event)) entries at entry dealt there in
      let most = worker_to (actor_of entry.event) some in
      let past : start ≤ at = omega arith in
      owned at entry past there
      ∙ (ap (λ marks. times (entry_mark entry) marks) are ∙ mark_once worker entry.worker to (omega arith))

-- and there are as many as its next number says
pub own_number : (worker : ℕ) (entries : List Entry) (places : List ℕ)
    → ((at : ℕ) (entry : Entry) → slice_get entries at ≡ Some entry → times at places ≡ one_if (entry.worker == worker))
    → ((at : ℕ) → length entries ≤ at → times at places ≡ 0)
    → length places ≡ earlier_of entries (length entries) worker
own_number worker entries places named within =
    own_count (λ entry. entry.worker == worker) entries places named within
    ∙ ap (λ list. count_by (λ entry. entry.worker == worker) list) (sym (take-length entries))

module _ {C : Type 0} (react : C → UpItem → Reaction C) (first : C → C) where
  -- a script's line that is due stays so
  abbrev pub StaysDue : Type 0
  StaysDue = (setup : Setup C) (entries : List Entry) (from : ℕ) (event : Event)
      → IsSoundTo react first setup entries (length entries) → from ≤ length entries
      → next_line setup.script (world_before react first setup entries from).shared ≡ Some event
      → ((at : ℕ) (entry : Entry) → from ≤ at → slice_get entries at ≡ Some entry → actor_of entry.event ≢ Script)
      → next_line setup.script (world_before react first setup entries (length entries)).shared ≡ Some event

  -- A deed that is an input may stand next in the history of a turn: since it was offered the script has given no input, since
  -- each entry of the script is of the same worker, so is one of its own places, and these the worker has seen.
  line_may_stand : (setup : Setup C) (workers worker : ℕ) (seen entries : List Entry) (places : List ℕ) (place : ℕ) (event : Event)
      → StaysDue → IsSoundTo react first setup entries (length entries) → IsDealt setup workers entries
      → IsPrefix seen entries → place ≤ length seen
      → worker_of setup workers (actor_of event) ≡ worker
      → first_event_of setup (world_before react first setup seen place).shared (actor_of event) ≡ Some event
      → ((at : ℕ) (entry : Entry) → place ≤ at → slice_get seen at ≡ Some entry → 0 < times at places → actor_of entry.event ≢ actor_of event)
      → ((at : ℕ) (entry : Entry) → slice_get entries at ≡ Some entry → times at places ≡ one_if (entry.worker == worker))
      → ((at : ℕ) → length seen ≤ at → times at places ≡ 0)
      → IsInputEvent event → MayStand setup (world_at react first setup entries) event
  line_may_stand setup workers worker seen entries places place (In position) stays sound dealt begins before has offered since named within input =
      let longer : length seen ≤ length entries = prefix_length seen entries begins in
      let earlier : take place entries ≡ take place seen = sym (ap (λ list. take place list) begins.1) ∙ take-append-le place seen begins.0 before in
      let offered_there : next_line setup.script (world_before react first setup entries place).shared ≡ Some (In position) =
      ap (λ list. next_line setup.script (after_all react first setup (map (λ entry. entry.event) list)).shared) earlier ∙ offered in
      let none_since = λ (at : ℕ) (entry : Entry) (from : place ≤ at) (there : slice_get entries at ≡ Some entry) (script : actor_of entry.event ≡ Script).
      let dealt_to : entry.worker ≡ worker_of setup workers (actor_of entry.event) = each_of (λ entry. entry.worker ≡ worker_of setup workers (actor_of entry.event)) entries at entry dealt there in
      let mine : entry.worker ≡ worker = dealt_to ∙ (ap (λ who. worker_of setup workers who) script ∙ has) in
      let own : times at places ≡ 1 = named at entry there ∙ itself entry.worker worker mine in
      let seen_there : slice_get seen at ≡ Some entry = elim (cases_lt at (length seen)) [
        | inl lt ↦ prefix_back seen entries at entry begins lt there
        | inr past ↦ let none = within at past in absurd (omega arith)
      ] in
      since at entry from seen_there (omega arith) script in
      (stays setup entries place (In position) sound (omega arith) offered_there none_since, refl)
  line_may_stand setup workers worker seen entries places place event stays sound dealt begins before has offered since named within input = absurd input

  module _ (policies : C → ℕ) (mine : Working C) (book : Recording C) (held : View Entry (Subject C)) where
    -- the worker has won a turn, and the book is a recording by it and the others
    pub record IsTurn : Type 0 where
      pub mine_is : IsWorking mine
      pub book_is : IsRecording react first policies book
      pub setup : book.begun.setup ≡ mine.setup
      pub workers : book.workers ≡ mine.workers
      pub won : held ≡ winning book.begun.entries mine.view
      pub begins : IsPrefix mine.view.seen book.begun.entries
      pub marked : IsMarked entry_mark held

    -- its places are those at which an entry names it
    named_in : IsTurn → 1 ≤ mine.worker → (at : ℕ) (entry : Entry) → slice_get book.begun.entries at ≡ Some entry
        → times at (own_places mine) ≡ one_if (entry.worker == mine.worker)
    named_in turn from =
        let marked : IsMarked entry_mark (winning book.begun.entries mine.view) = subst (λ view. IsMarked entry_mark view) turn.won turn.marked in
        let number = turn.mine_is.number in
        let few = turn.mine_is.few in
        own_named book.begun.setup book.workers mine.worker mine.view.start book.begun.entries mine.view.marks mine.view.own
        turn.book_is.some turn.book_is.most (omega arith) turn.book_is.dealt turn.mine_is.start (turn.mine_is.marks ∙ marks_are mine.workers mine.worker from) marked.owned

    has_from : (who : Actor) → HasActor mine who → 1 ≤ mine.worker
    has_from who has = let from = worker_from mine.setup mine.workers who in let same = has.1 in omega arith

    -- it has a mark for its entry
    pub mark_in_turn : (who : Actor) → IsTurn → HasActor mine who → 0 < times (mark_of mine.worker) held.marks
    mark_in_turn who turn has =
        let are = ap (λ view. view.marks) turn.won ∙ (turn.mine_is.marks ∙ marks_are mine.workers mine.worker (has_from who has)) in
        let here = times_here (mark_of mine.worker) in
        let same : times (mark_of mine.worker) held.marks ≡ times (mark_of mine.worker) (mark_of mine.worker ∷ []) = ap (λ marks. times (mark_of mine.worker) marks) are in
        omega arith

    -- it has entered as many entries as its next number says
    pub number_in_turn : (who : Actor) → IsTurn → HasActor mine who → length (own_places mine) ≡ earlier_of held.seen (length held.seen) mine.worker
    number_in_turn who turn has =
        let marked : IsMarked entry_mark (winning book.begun.entries mine.view) = subst (λ view. IsMarked entry_mark view) turn.won turn.marked in
        own_number mine.worker book.begun.entries (own_places mine) (named_in turn (has_from who has)) marked.within
        ∙ ap (λ view. earlier_of view.seen (length view.seen) mine.worker) (sym turn.won)

    -- a line of the script that was offered may still be entered
    pub line_in_turn : (deed : Deed) → StaysDue → IsTurn → IsDue react first mine deed
        → IsInputEvent deed.task.event → MayStand book.begun.setup book.begun.world deed.task.event
    line_in_turn deed stays turn due input =
        let begun = turn.book_is.begun in
        let offered : first_event_of book.begun.setup (world_before react first book.begun.setup mine.view.seen deed.task.place).shared (actor_of deed.task.event) ≡ Some deed.task.event =
        subst (λ setup. first_event_of setup (world_before react first setup mine.view.seen deed.task.place).shared (actor_of deed.task.event) ≡ Some deed.task.event) (sym turn.setup) due.offered in
        let has : worker_of book.begun.setup book.workers (actor_of deed.task.event) ≡ mine.worker =
        ap (λ workers. worker_of book.begun.setup workers (actor_of deed.task.event)) turn.workers
        ∙ (ap (λ setup. worker_of setup mine.workers (actor_of deed.task.event)) turn.setup ∙ due.has.1) in
        subst (λ world. MayStand book.begun.setup world deed.task.event) (sym begun.comes_to)
        (line_may_stand book.begun.setup book.workers mine.worker mine.view.seen book.begun.entries (own_places mine) deed.task.place deed.task.event
        stays begun.sound turn.book_is.dealt turn.begins due.place has offered due.since
        (named_in turn (has_from (actor_of deed.task.event) due.has)) turn.mine_is.marked.within input)
