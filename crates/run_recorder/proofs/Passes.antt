-- What a whole run tells of its workers, and of the passes of their gates.
use Rattle.std.proofs.Common.{◌≡◌, ◌≢◌, ◌∙◌, ℕ, zero, suc, ◌+◌, ◌-◌, ◌<◌, ◌≤◌, ◌==◌, List, ◌++◌, length, slice_get, All, Some, ap, arith, inl, inr, length-append, refl, subst, sym}
use Rattle.std.specs.List.{concat}
use Rattle.std.proofs.lemmas.Bool.{cases_lt}
use Rattle.std.proofs.lemmas.Bool.Decides.{nat_tests}
use Rattle.std.proofs.lemmas.Nat.{mod_below}
use Rattle.std.proofs.lemmas.Option.{slice_get_cases}
use Rattle.controller_api.specs.Reaction.{Reaction}
use Rattle.controller_api.specs.declared.item.UpItem.{UpItem}
use Rattle.machine_setup.specs.declared.setup.Setup.{Setup}
use Rattle.pool_book.specs.declared.actor.Actor.{Actor}
use Rattle.pool_book.specs.declared.actor.Actor.TheVariants as actor
use Rattle.turn_book.proofs.Begins.{get_below, prefix_back}
use Rattle.turn_book.specs.Places.{one_if, times}
use Rattle.event_world.specs.Answers.{IsActor}
use Rattle.event_world.specs.Events.{actor_of}
use Rattle.event_machine.specs.Legal.{IsLegalRun, IsSoundTo}
use Rattle.event_machine.specs.Rule.{IsOneThreadRun}
use Rattle.event_machine.specs.declared.trace.Entry.{Entry}
use Rattle.event_machine.specs.declared.trace.Trace.{Trace}
use Rattle.run_recorder.specs.Answers.{AreDealt, AreParts, HasNoActor, HasSeenAll, HasSeenOf, IsIdle, IsOwnerOf, Recorded, own_places}
use Rattle.run_recorder.specs.AtOnce.{AreAway, IsAway, TellsByPasses, entries_of}
use Rattle.run_recorder.specs.Driving.{IsCause, entered}
use Rattle.run_recorder.specs.Gates.{Rise}
use Rattle.run_recorder.specs.Recording.{Working}
use Rattle.run_recorder.specs.Rest.{RestIsRuled}
use Rattle.run_recorder.specs.Workers.{actor_count, actor_number}
use Rattle.run_recorder.specs.declared.drive.Left.{Left}
use Rattle.run_recorder.specs.declared.drive.Left.TheVariants as leave
use Rattle.run_recorder.proofs.Actors.{first_of}
use Rattle.run_recorder.proofs.Due.{own_number}
use Rattle.run_recorder.proofs.Ended.{goes_on}
use Rattle.run_recorder.proofs.Owners.{all_from_each, each_from_all}

-- a number is itself
itself : (worker other : ℕ) → worker ≡ other → one_if (worker == other) ≡ 1
itself worker other same = grind (arith, nat_tests)

module _ {C : Type 0} where
  -- the actor of a number
  actor_at : (setup : Setup C) (number : ℕ) → number < actor_count setup → (who : Actor) × IsActor setup who × (actor_number setup who ≡ number)
  actor_at setup zero below = (actor.Script, tt, refl)
  actor_at setup (suc before) below = elim (cases_lt before (length setup.topology.ports)) [
    | inl switch ↦ (actor.Switch before, switch, omega arith)
    | inr past ↦ elim (cases_lt (before - length setup.topology.ports) (length setup.controllers)) [
      | inl controller ↦ (actor.Controller (before - length setup.topology.ports), controller, omega arith)
      | inr after ↦ (actor.Host (before - length setup.topology.ports - length setup.controllers), omega arith, omega arith)
    ]
  ]

  -- so each worker up to the number of actors has one
  has_actor : (part : Working C) (at : ℕ) → part.worker ≡ at + 1 → at < part.workers → at < actor_count part.setup → ¬ HasNoActor part
  has_actor part at number within few none =
      let one = actor_at part.setup at few in
      let named = one.2 in
      none one.0 (one.1, first_of part.workers part.worker (actor_number part.setup one.0) (omega arith) (omega arith) (omega arith))

  module _ (react : C → UpItem → Reaction C) (first : C → C) where
    -- why a worker left that has an actor, where there was memory, and the run was not complete
    was_tired : (before now : ℕ) (old new : Working C) (why : Left) → IsCause react first before now old new why → why ≢ leave.OutOfMemory → ¬ HasNoActor old → ¬ HasSeenAll react first new
        → Rise before now (old.setup.limits.patience + (entered new - entered old))
    was_tired before now old new leave.NoActor cause memory has undone = absurd (has cause.0)
    was_tired before now old new (leave.Ended place) cause memory has undone = absurd (undone cause.1.complete)
    was_tired before now old new leave.Tired cause memory has undone = cause.1
    was_tired before now old new leave.OutOfMemory cause memory has undone = absurd (memory refl)

    -- a worker has not seen all of a run in which worker 0 has an entry
    not_all : (part : Working C) (entries : List Entry) (place : ℕ) (entry : Entry) → HasSeenOf part entries → IsSoundTo react first part.setup entries (length entries)
        → slice_get entries place ≡ Some entry → entry.worker ≡ 0 → ¬ HasSeenAll react first part
    not_all part entries place entry seen sound there rest complete = elim (cases_lt place (length part.view.seen)) [
      | inl below ↦
          let some = each_from_all (λ (entry : Entry). 1 ≤ entry.worker) part.view.seen seen.others place entry (prefix_back part.view.seen entries place entry seen.begins below there) in
          omega arith
      | inr past ↦
          let within = get_below entries place entry there in
          elim (slice_get_cases entries (length part.view.seen)).1 [
            | inl (next, below, here, read) ↦ goes_on react first part.setup part.view.seen entries next sound seen.begins here complete
            | inr (end, none) ↦ omega arith
          ]
    ]

    -- What is known of the worker after so many others, once the run is recorded: it began with nothing, it is away, and what names it
    -- is its own.
    record IsRecorded (setup : Setup C) (workers at before now : ℕ) (old new : Working C) (entries : List Entry) : Type 0 where
      pub setup_is : old.setup ≡ setup
      pub workers_is : old.workers ≡ workers
      pub number : old.worker ≡ at + 1
      pub idle : IsIdle old
      pub away : IsAway react first before now old new
      pub owner : IsOwnerOf new entries
      pub seen : HasSeenOf new entries

    module _ (setup : Setup C) (workers at before now : ℕ) (old new : Working C) (entries : List Entry)
        (known : IsRecorded setup workers at before now old new entries) where
      number_is : new.worker ≡ at + 1
      number_is = known.away.same.worker ∙ known.number

      -- it entered what names it
      entered_is : entered new - entered old ≡ entries_of entries (at + 1)
      entered_is =
          let number = number_is in
          let all : entered new ≡ entries_of entries new.worker = own_number new.worker entries (own_places new) (known.owner.places (omega arith)) known.owner.within in
          let none : entered old ≡ 0 = ap (λ (own : List (List ℕ)). length (concat own)) known.idle.own in
          let named : entries_of entries new.worker ≡ entries_of entries (at + 1) = ap (λ n. entries_of entries n) number in
          let kept : entered new - entered old ≡ entered new = omega arith in
          kept ∙ all ∙ named

      rose : Rise before now (entries_of entries (at + 1))
      rose = subst (λ n. Rise before now n) entered_is known.away.cause.passes

      -- where worker 0 has an entry, and this one has an actor, it made as many rounds in vain as the patience says
      rose_tired : (place : ℕ) (entry : Entry) → IsSoundTo react first setup entries (length entries) → slice_get entries place ≡ Some entry → entry.worker ≡ 0
          → at < workers → at < actor_count setup → Rise before now (setup.limits.patience + entries_of entries (at + 1))
      rose_tired place entry sound there rest within few =
          let new_setup : new.setup ≡ setup = known.away.same.setup ∙ known.setup_is in
          let has = has_actor old at known.number (subst (λ n. at < n) (sym known.workers_is) within) (subst (λ (s : Setup C). at < actor_count s) (sym known.setup_is) few) in
          let undone = not_all new entries place entry known.seen (subst (λ (s : Setup C). IsSoundTo react first s entries (length entries)) (sym new_setup) sound) there rest in
          let tired = was_tired before now old new known.away.why known.away.cause.cause known.away.memory has undone in
          subst (λ (s : Setup C). Rise before now (s.limits.patience + entries_of entries (at + 1))) known.setup_is
          (subst (λ n. Rise before now (old.setup.limits.patience + n)) entered_is tired)

      -- where there is no patience no entry names it
      unnamed : setup.limits.patience ≡ 0 → (place : ℕ) (entry : Entry) → slice_get entries place ≡ Some entry → entry.worker ≢ at + 1
      unnamed none place entry there same =
          let number = number_is in
          let kept : new ≡ old = known.away.cause.impatient (ap (λ (s : Setup C). s.limits.patience) known.setup_is ∙ none) in
          let nowhere : times place (own_places new) ≡ 0 = ap (λ (part : Working C). times place (own_places part)) kept ∙ ap (λ (own : List (List ℕ)). times place (concat own)) known.idle.own in
          let named = known.owner.places (omega arith) place entry there in
          let one = itself entry.worker new.worker (omega arith) in
          omega arith

    -- ---- all workers

    module _ {G : Type 0} (passes : G → ℕ) (recorder : Recorded C) (setup : Setup C) (gates later : List G) (parts after : List (Working C)) (trace : Trace) where
      -- All that is known once the run is recorded: the parts were idle, the workers are away, and the run tells of each part.
      pub record AreRecorded : Type 0 where
        pub setup_is : recorder.setup ≡ setup
        pub workers_is : recorder.workers ≡ setup.limits.workers
        pub parts_are : AreParts recorder parts
        pub after_are : AreParts recorder after
        pub idle : All IsIdle parts
        pub away : AreAway react first passes gates later parts after
        pub as_many : length gates ≡ recorder.workers
        pub legal : IsLegalRun react first setup trace
        pub own : All (λ part. IsOwnerOf part trace.entries) after
        pub seen : All (λ part. HasSeenOf part trace.entries) after

      -- a worker with its part, before and after
      record HasPart (at before now : ℕ) : Type 0 where
        pub old : Working C
        pub new : Working C
        pub known : IsRecorded setup setup.limits.workers at before now old new trace.entries

      part_at : AreRecorded → (at : ℕ) (before now : G) → at < setup.limits.workers → slice_get gates at ≡ Some before → slice_get later at ≡ Some now → HasPart at (passes before) (passes now)
      part_at all at before now within here there =
          let many = all.parts_are.count in
          let count = all.after_are.count in
          let same = all.workers_is in
          elim (slice_get_cases parts (at + 1)).1 [
            | inr (past, none) ↦ absurd (omega arith)
            | inl (old, below, was, read) ↦ elim (slice_get_cases after (at + 1)).1 [
              | inr (past, none) ↦ absurd (omega arith)
              | inl (new, below', is, read') ↦
                  let its = all.parts_are.each (at + 1) old was in
                  record {
                    old = old;
                    new = new;
                    known = record {
                      setup_is = its.0.setup ∙ all.setup_is;
                      workers_is = its.0.workers ∙ all.workers_is;
                      number = its.1;
                      idle = each_from_all IsIdle parts all.idle (at + 1) old was;
                      away = all.away.each at before now old new here there was is;
                      owner = each_from_all (λ (part : Working C). IsOwnerOf part trace.entries) after all.own (at + 1) new is;
                      seen = each_from_all (λ (part : Working C). HasSeenOf part trace.entries) after all.seen (at + 1) new is;
                    };
                  }
            ]
          ]

      -- the passes rose by as much as the entries tell
      tells : AreRecorded → TellsByPasses passes setup gates later trace.entries
      tells all = record {
        gates = all.away.count;
        each = λ at before now within here there.
            let part = part_at all at before now within here there in
            rose setup setup.limits.workers at (passes before) (passes now) part.old part.new trace.entries part.known;
        tired = λ at place before now entry stands rest within few here there.
            let part = part_at all at before now within here there in
            rose_tired setup setup.limits.workers at (passes before) (passes now) part.old part.new trace.entries part.known place entry all.legal.entries stands rest within few;
      }

      -- where there is no patience no entry names a worker from 1 on
      none_named : AreRecorded → setup.limits.patience ≡ 0 → (at place : ℕ) (entry : Entry) → at < setup.limits.workers → slice_get trace.entries place ≡ Some entry → entry.worker ≢ at + 1
      none_named all none at place entry within stands same =
          let many = all.as_many in
          let count = all.away.count in
          let workers = all.workers_is in
          elim (slice_get_cases gates at).1 [
            | inr (past, missing) ↦ omega arith
            | inl (before, below, here, read) ↦ elim (slice_get_cases later at).1 [
              | inr (past, missing) ↦ omega arith
              | inl (now, below', there, read') ↦
                  let part = part_at all at before now within here there in
                  unnamed setup setup.limits.workers at (passes before) (passes now) part.old part.new trace.entries part.known none place entry stands same
            ]
          ]

      -- so the run is one thread's
      pub one_thread : AreRecorded → 1 ≤ setup.limits.workers → AreDealt setup setup.limits.workers trace.entries → RestIsRuled react first setup trace.entries → setup.limits.patience ≡ 0
          → IsOneThreadRun react first setup trace
      one_thread all some dealt ruled none = record {
        legal = all.legal;
        alone = all_from_each (λ (entry : Entry). entry.worker ≡ 0) trace.entries rest;
        ruled = λ at entry there. ruled at entry there (rest at entry there);
      }
        where
          rest : (at : ℕ) (entry : Entry) → slice_get trace.entries at ≡ Some entry → entry.worker ≡ 0
          rest at entry there = elim (dealt at entry there) [
            | inl none_is ↦ none_is
            | inr named ↦
                let number = actor_number setup (actor_of entry.event) in
                let below = mod_below number setup.limits.workers some in
                absurd (none_named all none (entry.worker - 1) at entry (omega arith) there (omega arith))
          ]

      -- and the gates may be the first of more
      pub tells_of : (old new rest more : List G) → AreRecorded → old ≡ gates ++ rest → new ≡ later ++ more → length rest ≡ length more → TellsByPasses passes setup old new trace.entries
      tells_of old new rest more all before now as_long =
          let few = tells all in
          let many = all.as_many in
          let count = all.away.count in
          let workers = all.workers_is in
          let begins = λ (at : ℕ) (gate : G) (within : at < setup.limits.workers) (there : slice_get old at ≡ Some gate).
          prefix_back gates old at gate (rest, sym before) (omega arith) there in
          let ends = λ (at : ℕ) (gate : G) (within : at < setup.limits.workers) (there : slice_get new at ≡ Some gate).
          prefix_back later new at gate (more, sym now) (omega arith) there in
          record {
            gates = let olds = ap length before in let news = ap length now in let one = length-append gates rest in let two = length-append later more in omega arith;
            each = λ at b n within here there. few.each at b n within (begins at b within here) (ends at n within there);
            tired = λ at place b n entry stands is within some here there. few.tired at place b n entry stands is within some (begins at b within here) (ends at n within there);
          }
