-- What a worker comes to by one round.
use Rattle.std.proofs.Common.{◌≡◌, ℕ, ◌+◌, ◌*◌, ◌≤◌, List, [], ◌∷◌, ◌++◌, length, inl, inr, refl, ap, sym, ◌∙◌, subst, arith, append-nil, length-append}
use Rattle.std.specs.List.{concat}
use mathlib.Core.List.{IsPrefix}
use Rattle.controller_api.specs.Reaction.{Reaction}
use Rattle.controller_api.specs.declared.item.UpItem.{UpItem}
use Rattle.machine_setup.specs.declared.setup.Setup.{Setup}
use Rattle.pool_book.specs.declared.actor.Actor.{Actor}
use Rattle.turn_book.proofs.Begins.{prefix_length, prefix_more, prefix_self, prefix_trans}
use Rattle.turn_book.specs.Places.{with_place}
use Rattle.turn_book.specs.Steps.{having_met}
use Rattle.turn_book.specs.Words.{IsBusy}
use Rattle.turn_book.specs.declared.view.View.{View}
use Rattle.event_world.specs.Answers.{IsActor}
use Rattle.event_world.specs.Events.{actor_of}
use Rattle.event_machine.specs.declared.trace.Entry.{Entry}
use Rattle.run_recorder.specs.Answers.{HasActor, IsCommit, IsDue, IsEntered, IsLook, IsOffer, IsRefused, own_places}
use Rattle.run_recorder.specs.Driving.{AfterRound, IsSameWorker, entered, looks}
use Rattle.run_recorder.specs.Recording.{IsComplete, Working}
use Rattle.run_recorder.specs.Workers.{worker_of}
use Rattle.run_recorder.specs.declared.answers.Offered.{Offered}
use Rattle.run_recorder.specs.declared.answers.Offered.TheVariants as offer
use Rattle.run_recorder.specs.declared.answers.Committed.{Committed}
use Rattle.run_recorder.specs.declared.answers.Committed.TheVariants as commit
use Rattle.run_recorder.specs.declared.book.Subject.{Subject}
use Rattle.run_recorder.specs.declared.drive.Errand.TheVariants as errand
use Rattle.run_recorder.specs.declared.drive.Round.{Round}
use Rattle.run_recorder.specs.declared.drive.Round.TheVariants as round
use Rattle.run_recorder.specs.declared.task.Deed.{Deed}
use Rattle.run_recorder.specs.declared.task.Task.{Task}

-- ---- lists

-- a list that is the same begins it
same_begins : {A : Type 0} (xs ys : List A) → ys ≡ xs → IsPrefix xs ys
same_begins xs ys same = subst (λ list. IsPrefix xs list) (sym same) (prefix_self xs)

-- a place more stands behind all others, where these are one list
own_more : (place : ℕ) (own : List (List ℕ)) → length own ≡ 1 → concat (with_place place own) ≡ concat own ++ place ∷ []
own_more place [] alone = absurd (omega arith)
own_more place (xs ∷ []) alone = append-nil (xs ++ place ∷ []) ∙ ap (λ list. list ++ place ∷ []) (sym (append-nil xs))
own_more place (xs ∷ ys ∷ more) alone = absurd (omega arith)

-- two looks are two
two_more : (met : List ℕ) (one other : ℕ) → length ((met ++ one ∷ []) ++ other ∷ []) ≡ length met + 2
two_more met one other =
    let outer = length-append (met ++ one ∷ []) (other ∷ []) in
    let inner = length-append met (one ∷ []) in
    omega arith

module _ {E S : Type 0} where
  -- looks that win nothing change nothing but the numbers met
  busy_keeps : {X : Type 0} (f : View E S → X) → ((n : ℕ) (v : View E S) → f (having_met n v) ≡ f v)
      → (v w : View E S) (looked found : ℕ) → IsBusy v w looked found → f w ≡ f v
  busy_keeps f kept v w looked found busy = elim busy [
    | inl one ↦ ap f one.2 ∙ kept looked v
    | inr two ↦ ap f two.2 ∙ (kept found (having_met looked v) ∙ kept looked v)
  ]

  busy_looks : (v w : View E S) (looked found : ℕ) → IsBusy v w looked found → length v.met + 1 ≤ length w.met
  busy_looks v w looked found busy = elim busy [
    | inl one ↦
        let met : length w.met ≡ length (v.met ++ looked ∷ []) = ap (λ (u : View E S). length u.met) one.2 in
        let more = length-append v.met (looked ∷ []) in
        omega arith
    | inr two ↦
        let met : length w.met ≡ length ((v.met ++ looked ∷ []) ++ found ∷ []) = ap (λ (u : View E S). length u.met) two.2 in
        let more = two_more v.met looked found in
        omega arith
  ]

module _ {C : Type 0} where
  -- ---- the same worker

  -- one after the other
  pub same_on : (old mid new : Working C) → IsSameWorker old mid → IsSameWorker mid new → IsSameWorker old new
  same_on old mid new one other =
      let turns = one.turns in
      let turns' = other.turns in
      let looked = one.looked in
      let looked' = other.looked in
      record {
        setup = other.setup ∙ one.setup;
        workers = other.workers ∙ one.workers;
        worker = other.worker ∙ one.worker;
        book = other.book ∙ one.book;
        seen = prefix_trans old.view.seen mid.view.seen new.view.seen one.seen other.seen;
        own = prefix_trans (own_places old) (own_places mid) (own_places new) one.own other.own;
        turns = omega arith;
        looked = omega arith;
      }

  pub same_self : (working : Working C) → IsSameWorker working working
  same_self working = record {
    setup = refl;
    workers = refl;
    worker = refl;
    book = refl;
    seen = prefix_self working.view.seen;
    own = prefix_self (own_places working);
    turns = omega arith;
    looked = omega arith;
  }

  -- its actors are the same
  pub has_kept : (old new : Working C) (who : Actor) → IsSameWorker old new → HasActor old who → HasActor new who
  has_kept old new who same has = (
    subst (λ (setup : Setup C). IsActor setup who) (sym same.setup) has.0,
    ap (λ (setup : Setup C). worker_of setup new.workers who) same.setup ∙ (ap (λ workers. worker_of old.setup workers who) same.workers ∙ (has.1 ∙ sym same.worker)),
  )

  -- ---- a look

  looks_twice : (old new : Working C) → IsLook old new → looks new ≡ looks old + 2
  looks_twice old new look = ap (λ (w : Working C). length w.view.met) look.view ∙ two_more old.view.met (2 * length new.view.seen) (2 * length new.view.seen)

  turn_by_look : (old new : Working C) → IsLook old new → new.view.turns ≡ old.view.turns + 1
  turn_by_look old new look = ap (λ (w : Working C). w.view.turns) look.view

  own_by_look : (old new : Working C) → IsLook old new → own_places new ≡ own_places old
  own_by_look old new look = ap (λ (w : Working C). own_places w) look.view

  entered_by_look : (old new : Working C) → IsLook old new → entered new ≡ entered old
  entered_by_look old new look = ap length (own_by_look old new look)

  same_by_look : (old new : Working C) → IsLook old new → IsSameWorker old new
  same_by_look old new look =
      let turns = turn_by_look old new look in
      let looked = looks_twice old new look in
      record {
        setup = ap (λ (w : Working C). w.setup) look.view;
        workers = ap (λ (w : Working C). w.workers) look.view;
        worker = ap (λ (w : Working C). w.worker) look.view;
        book = ap (λ (w : Working C). w.book) look.view;
        seen = look.begins;
        own = same_begins (own_places old) (own_places new) (own_by_look old new look);
        turns = omega arith;
        looked = omega arith;
      }

  -- ---- a refusal

  own_refused : (old new : Working C) (looked found : ℕ) → IsRefused old new looked found → own_places new ≡ own_places old
  own_refused old new looked found refused = busy_keeps (λ (v : View Entry (Subject C)). concat v.own) (λ n v. refl) old.view new.view looked found refused.0

  entered_refused : (old new : Working C) (looked found : ℕ) → IsRefused old new looked found → entered new ≡ entered old
  entered_refused old new looked found refused = ap length (own_refused old new looked found refused)

  looks_refused : (old new : Working C) (looked found : ℕ) → IsRefused old new looked found → looks old + 1 ≤ looks new
  looks_refused old new looked found refused = busy_looks old.view new.view looked found refused.0

  same_refused : (old new : Working C) (looked found : ℕ) → IsRefused old new looked found → IsSameWorker old new
  same_refused old new looked found refused =
      let turns : new.view.turns ≡ old.view.turns = busy_keeps (λ (v : View Entry (Subject C)). v.turns) (λ n v. refl) old.view new.view looked found refused.0 in
      let more = looks_refused old new looked found refused in
      record {
        setup = ap (λ (w : Working C). w.setup) refused.1;
        workers = ap (λ (w : Working C). w.workers) refused.1;
        worker = ap (λ (w : Working C). w.worker) refused.1;
        book = ap (λ (w : Working C). w.book) refused.1;
        seen = same_begins old.view.seen new.view.seen (busy_keeps (λ (v : View Entry (Subject C)). v.seen) (λ n v. refl) old.view new.view looked found refused.0);
        own = same_begins (own_places old) (own_places new) (own_refused old new looked found refused);
        turns = omega arith;
        looked = omega arith;
      }

  module _ (react : C → UpItem → Reaction C) (first : C → C) where
    -- a deed stays due
    due_met : (working : Working C) (n : ℕ) (deed : Deed) → IsDue react first working deed → IsDue react first (record working { view = having_met n working.view }) deed
    due_met working n deed due = record { has = due.has; place = due.place; offered = due.offered; since = due.since }

    due_refused : (old new : Working C) (deed : Deed) (looked found : ℕ) → IsRefused old new looked found → IsDue react first old deed → IsDue react first new deed
    due_refused old new deed looked found refused due =
        subst (λ (w : Working C). IsDue react first w deed) (sym refused.1) (elim refused.0 [
          | inl one ↦ subst (λ (v : View Entry (Subject C)). IsDue react first (record old { view = v }) deed) (sym one.2) (due_met old looked deed due)
          | inr two ↦ subst (λ (v : View Entry (Subject C)). IsDue react first (record old { view = v }) deed) (sym two.2) (due_met (record old { view = having_met looked old.view }) found deed (due_met old looked deed due))
        ])

    -- ---- an entry

    module _ (old new : Working C) (deed : Deed) (place : ℕ) (is : IsEntered react first old new deed (commit.Entered place)) (alone : length old.view.own ≡ 1) where
      own_by_entry : own_places new ≡ own_places old ++ length is.history ∷ []
      own_by_entry = ap (λ (w : Working C). own_places w) is.view ∙ own_more (length is.history) old.view.own alone

      looks_by_entry : looks new ≡ looks old + 2
      looks_by_entry = ap (λ (w : Working C). length w.view.met) is.view ∙ two_more old.view.met (2 * length is.history) (2 * length is.history)

      turn_by_entry : new.view.turns ≡ old.view.turns + 1
      turn_by_entry = ap (λ (w : Working C). w.view.turns) is.view

      seen_by_entry : length new.view.seen ≡ length is.history + 1
      seen_by_entry = ap length is.becomes.3 ∙ length-append is.history _

      same_by_entry : IsSameWorker old new
      same_by_entry =
          let turns = turn_by_entry in
          let looked = looks_by_entry in
          record {
            setup = ap (λ (w : Working C). w.setup) is.view;
            workers = ap (λ (w : Working C). w.workers) is.view;
            worker = ap (λ (w : Working C). w.worker) is.view;
            book = ap (λ (w : Working C). w.book) is.view;
            seen = subst (λ (list : List Entry). IsPrefix old.view.seen list) (sym is.becomes.3) (prefix_more old.view.seen is.history _ is.begins);
            own = (length is.history ∷ [], sym own_by_entry);
            turns = omega arith;
            looked = omega arith;
          }

      round_by_entry : HasActor old (actor_of deed.task.event) → AfterRound react first old new (round.Entered (errand.Ask (actor_of deed.task.event)))
      round_by_entry has =
          let own : entered new ≡ length (own_places old ++ length is.history ∷ []) = ap length own_by_entry in
          let one = length-append (own_places old) (length is.history ∷ []) in
          let looked = looks_by_entry in
          let seen = seen_by_entry in
          let begins = prefix_length old.view.seen is.history is.begins in
          (omega arith, omega arith, omega arith, has_kept old new (actor_of deed.task.event) same_by_entry has)

    -- ---- a commit

    pub commit_same : (old new : Working C) (deed : Deed) (answer : Committed) → length old.view.own ≡ 1 → IsCommit react first old new deed answer → IsSameWorker old new
    commit_same old new deed (commit.Entered place) alone is = same_by_entry old new deed place is alone
    commit_same old new deed (commit.Overtaken back item head) alone is = same_by_look old new is.0
    commit_same old new deed (commit.Ended back place) alone is = same_by_look old new is.0
    commit_same old new deed (commit.Busy back looked found) alone is = same_refused old new looked found is.0
    commit_same old new deed (commit.OutOfMemory back) alone is = same_by_look old new is.0

    pub commit_entered : (old new : Working C) (deed : Deed) (place : ℕ) → length old.view.own ≡ 1 → IsDue react first old deed
        → IsCommit react first old new deed (commit.Entered place) → AfterRound react first old new (round.Entered (errand.Ask (actor_of deed.task.event)))
    commit_entered old new deed place alone due is = round_by_entry old new deed place is alone due.has

    -- a look after which the worker goes on with one of its actors
    look_vain : (old new : Working C) (who : Actor) → IsLook old new → HasActor new who → AfterRound react first old new (round.Vain (errand.Ask who))
    look_vain old new who look has = let looked = looks_twice old new look in (entered_by_look old new look, omega arith, has)

    -- a look that tells that the run is complete
    look_ended : (old new : Working C) (place : ℕ) → IsLook old new → IsComplete react first new.setup new.view.seen → place ≡ length new.view.seen
        → AfterRound react first old new (round.Ended place)
    look_ended old new place look complete at =
        let turns = turn_by_look old new look in
        (entered_by_look old new look, record { turns = omega arith; complete = complete; count = at })

    pub commit_overtaken : (old new : Working C) (deed back : Deed) (item : ℕ) (head : _) → IsDue react first old deed
        → IsCommit react first old new deed (commit.Overtaken back item head) → AfterRound react first old new (round.Vain (errand.Ask (actor_of deed.task.event)))
    commit_overtaken old new deed back item head due is =
        look_vain old new (actor_of deed.task.event) is.0 (has_kept old new (actor_of deed.task.event) (same_by_look old new is.0) due.has)

    pub commit_ended : (old new : Working C) (deed back : Deed) (place : ℕ)
        → IsCommit react first old new deed (commit.Ended back place) → AfterRound react first old new (round.Ended place)
    commit_ended old new deed back place is =
        look_ended old new place is.0 (subst (λ (setup : Setup C). IsComplete react first setup new.view.seen) (sym (same_by_look old new is.0).setup) is.1.1) is.1.3

    pub commit_busy : (old new : Working C) (deed back : Deed) (looked found : ℕ) → IsDue react first old deed
        → IsCommit react first old new deed (commit.Busy back looked found) → AfterRound react first old new (round.Vain (errand.Enter back))
    commit_busy old new deed back looked found due is = (
      entered_refused old new looked found is.0,
      looks_refused old new looked found is.0,
      subst (λ (d : Deed). IsDue react first new d) (sym is.1) (due_refused old new deed looked found is.0 due),
    )

    pub commit_no_memory : (old new : Working C) (deed back : Deed)
        → IsCommit react first old new deed (commit.OutOfMemory back) → AfterRound react first old new round.OutOfMemory
    commit_no_memory old new deed back is = entered_by_look old new is.0

    -- ---- an offer

    pub offer_same : (old new : Working C) (who : Actor) (answer : Offered) → IsOffer react first old new who answer → IsSameWorker old new
    offer_same old new who (offer.Work task) is = same_by_look old new is.0
    offer_same old new who (offer.NothingNow place) is = same_by_look old new is.0
    offer_same old new who (offer.Ended place) is = same_by_look old new is.0
    offer_same old new who (offer.Busy looked found) is = same_refused old new looked found is

    pub offer_nothing : (old new : Working C) (who next : Actor) (place : ℕ) → IsOffer react first old new who (offer.NothingNow place) → HasActor new next
        → AfterRound react first old new (round.Vain (errand.Ask next))
    offer_nothing old new who next place is has = look_vain old new next is.0 has

    pub offer_ended : (old new : Working C) (who : Actor) (place : ℕ) → IsOffer react first old new who (offer.Ended place)
        → AfterRound react first old new (round.Ended place)
    offer_ended old new who place is = look_ended old new place is.0 is.1.0 is.1.1

    pub offer_busy : (old new : Working C) (who : Actor) (looked found : ℕ) → HasActor old who → IsOffer react first old new who (offer.Busy looked found)
        → AfterRound react first old new (round.Vain (errand.Ask who))
    offer_busy old new who looked found has is = (
      entered_refused old new looked found is,
      looks_refused old new looked found is,
      has_kept old new who (same_refused old new looked found is) has,
    )

    -- where there is work, what its deed comes to is what the round comes to
    pub round_on : (old mid new : Working C) (who : Actor) (task : Task) (answer : Round) → IsOffer react first old mid who (offer.Work task)
        → IsSameWorker mid new → AfterRound react first mid new answer → AfterRound react first old new answer
    round_on old mid new who task (round.Entered next) is same after =
        let kept = entered_by_look old mid is.0 in
        let looked = looks_twice old mid is.0 in
        let seen = prefix_length old.view.seen mid.view.seen is.0.begins in
        (omega (arith, after.0), omega (arith, after.1), omega (arith, after.2), after.3)
    round_on old mid new who task (round.Vain next) is same after =
        let kept = entered_by_look old mid is.0 in
        let looked = looks_twice old mid is.0 in
        (omega (arith, after.0), omega (arith, after.1), after.2)
    round_on old mid new who task (round.Ended place) is same after =
        let kept = entered_by_look old mid is.0 in
        let turns = turn_by_look old mid is.0 in
        let more = after.1.turns in
        (omega (arith, after.0), record { turns = omega arith; complete = after.1.complete; count = after.1.count })
    round_on old mid new who task round.OutOfMemory is same after = let kept = entered_by_look old mid is.0 in omega (arith, after)
