-- What a worker comes to by one turn.
use Rattle.std.proofs.Common.{◌≡◌, ℕ, ◌*◌, List, length, Option, Some, None, refl, ap, sym, ◌∙◌, subst}
use Rattle.std.specs.List.{concat}
use mathlib.Core.List.{IsPrefix}
use Rattle.atomic_table.specs.Seated.{TableId}
use Rattle.controller_api.specs.Reaction.{Reaction}
use Rattle.controller_api.specs.declared.item.UpItem.{UpItem}
use Rattle.machine_setup.specs.declared.setup.Setup.{Setup}
use Rattle.pool_book.specs.declared.actor.Actor.{Actor}
use Rattle.turn_book.specs.Steps.{left}
use Rattle.turn_book.specs.Words.{IsBusy}
use Rattle.turn_book.specs.declared.view.View.{View}
use Rattle.event_machine.specs.declared.trace.Entry.{Entry}
use Rattle.run_recorder.specs.Answers.{BecomesOf, IsCommit, IsFound, IsGivenBack, IsLook, IsOffer, IsRefused, winning}
use Rattle.run_recorder.specs.Recording.{Working}
use Rattle.run_recorder.specs.declared.answers.Offered.{Offered}
use Rattle.run_recorder.specs.declared.answers.Offered.TheVariants as offer
use Rattle.run_recorder.specs.declared.answers.Committed.{Committed}
use Rattle.run_recorder.specs.declared.answers.Committed.TheVariants as commit
use Rattle.run_recorder.specs.declared.book.Subject.{Subject}
use Rattle.run_recorder.specs.declared.task.Deed.{Deed}

-- one book
pub same_book : (book other : TableId) → Some book ≡ Some other → book ≡ other
same_book book other same = cc (same)

module _ {C : Type 0} where
  -- the worker with this seat at this book
  abbrev pub at_book : Setup C → ℕ → ℕ → TableId → View Entry (Subject C) → Working C
  at_book setup workers worker book view = record { setup = setup; workers = workers; worker = worker; book = Some book; view = view }

  -- a worker that won a turn and left it has looked
  pub looks : (setup : Setup C) (workers worker : ℕ) (book : TableId) (view : View Entry (Subject C)) (history : List Entry) → IsPrefix view.seen history
      → IsLook (at_book setup workers worker book view) (at_book setup workers worker book (left (2 * length history) (winning history view)))
  looks setup workers worker book view history begins = record { begins = begins; view = refl }

  -- the setup of a subject, and how many workers it has; of none these
  abbrev setup_of : Option (Subject C) → Setup C → Setup C
  setup_of (Some subject) other = subject.setup
  setup_of None other = other

  abbrev workers_of : Option (Subject C) → ℕ → ℕ
  workers_of (Some subject) other = subject.workers
  workers_of None other = other

  -- books of one subject have one setup and as many workers
  pub same_setup : (subject : Option (Subject C)) (setup other : Setup C) (workers others : ℕ)
      → subject ≡ Some (record { setup = setup; workers = workers }) → subject ≡ Some (record { setup = other; workers = others }) → other ≡ setup
  same_setup subject setup other workers others one two = ap (λ subject. setup_of subject setup) (sym two ∙ one)

  pub same_workers : (subject : Option (Subject C)) (setup other : Setup C) (workers others : ℕ)
      → subject ≡ Some (record { setup = setup; workers = workers }) → subject ≡ Some (record { setup = other; workers = others }) → others ≡ workers
  same_workers subject setup other workers others one two = ap (λ subject. workers_of subject workers) (sym two ∙ one)

  module _ (react : C → UpItem → Reaction C) (first : C → C) where
    -- what a turn finds is what an offer answers
    found : (setup : Setup C) (workers worker : ℕ) (book : TableId) (view : View Entry (Subject C)) (history : List Entry) (who : Actor) (answer : Offered)
        → IsPrefix view.seen history → IsFound react first setup history who answer
        → IsOffer react first (at_book setup workers worker book view) (at_book setup workers worker book (left (2 * length history) (winning history view))) who answer
    found setup workers worker book view history who (offer.Work task) begins is = (looks setup workers worker book view history begins, is)
    found setup workers worker book view history who (offer.NothingNow place) begins is = (looks setup workers worker book view history begins, is)
    found setup workers worker book view history who (offer.Ended place) begins is = (looks setup workers worker book view history begins, is)
    found setup workers worker book view history who (offer.Busy looked met) begins is = absurd is

    pub offers : (setup other : Setup C) (workers worker : ℕ) (book after : TableId) (view held given : View Entry (Subject C)) (history : List Entry) (who : Actor) (answer : Offered)
        → after ≡ book → other ≡ setup → held ≡ winning history view → IsPrefix view.seen history → given ≡ left (2 * length held.seen) held
        → IsFound react first other held.seen who answer
        → IsOffer react first (at_book setup workers worker book view) (at_book setup workers worker after given) who answer
    offers setup other workers worker book after view held given history who answer at_it same won begins left_so is =
        let is_there : IsFound react first setup history who answer =
        subst (λ setup. IsFound react first setup history who answer) same
        (subst (λ held. IsFound react first other held.seen who answer) won is) in
        let given_so : given ≡ left (2 * length history) (winning history view) = left_so ∙ ap (λ held. left (2 * length held.seen) held) won in
        subst (λ given. IsOffer react first (at_book setup workers worker book view) (at_book setup workers worker after given) who answer) (sym given_so)
        (subst (λ after. IsOffer react first (at_book setup workers worker book view) (at_book setup workers worker after (left (2 * length history) (winning history view))) who answer) (sym at_it)
        (found setup workers worker book view history who answer begins is_there))

    -- a worker that did not win a turn was refused
    pub refused : (setup : Setup C) (workers worker : ℕ) (book after : TableId) (view given : View Entry (Subject C)) (looked met : ℕ)
        → after ≡ book → IsBusy view given looked met
        → IsRefused (at_book setup workers worker book view) (at_book setup workers worker after given) looked met
    refused setup workers worker book after view given looked met at_it busy = (busy, ap (λ book. at_book setup workers worker book given) at_it)

    -- what becomes of a deed in a turn is what a commit answers
    becomes : (setup : Setup C) (workers worker : ℕ) (book : TableId) (view given : View Entry (Subject C)) (history : List Entry) (deed : Deed) (answer : Committed)
        → IsPrefix view.seen history → BecomesOf react first setup history given.seen worker (length (concat view.own)) deed answer
        → IsGivenBack (winning history view) given answer
        → IsCommit react first (at_book setup workers worker book view) (at_book setup workers worker book given) deed answer
    becomes setup workers worker book view given history deed (commit.Entered place) begins is back =
        record { history = history; begins = begins; becomes = is; view = ap (λ given. at_book setup workers worker book given) back }
    becomes setup workers worker book view given history deed (commit.Overtaken deed_back item head) begins is back =
        subst (λ given. IsCommit react first (at_book setup workers worker book view) (at_book setup workers worker book given) deed (commit.Overtaken deed_back item head)) (sym back)
        (looks setup workers worker book view history begins, (refl, is.1, is.2, is.3, is.4, is.5, is.6))
    becomes setup workers worker book view given history deed (commit.Ended deed_back place) begins is back =
        subst (λ given. IsCommit react first (at_book setup workers worker book view) (at_book setup workers worker book given) deed (commit.Ended deed_back place)) (sym back)
        (looks setup workers worker book view history begins, (refl, is.1, is.2, is.3))
    becomes setup workers worker book view given history deed (commit.Busy deed_back looked met) begins is back = absurd is
    becomes setup workers worker book view given history deed (commit.OutOfMemory deed_back) begins is back =
        subst (λ given. IsCommit react first (at_book setup workers worker book view) (at_book setup workers worker book given) deed (commit.OutOfMemory deed_back)) (sym back)
        (looks setup workers worker book view history begins, (refl, is.1, is.2))

    pub commits : (setup other : Setup C) (workers worker number : ℕ) (book after : TableId) (view held given : View Entry (Subject C)) (history : List Entry) (deed : Deed) (answer : Committed)
        → after ≡ book → other ≡ setup → held ≡ winning history view → IsPrefix view.seen history → number ≡ length (concat view.own)
        → BecomesOf react first other held.seen given.seen worker number deed answer
        → IsGivenBack held given answer
        → IsCommit react first (at_book setup workers worker book view) (at_book setup workers worker after given) deed answer
    commits setup other workers worker number book after view held given history deed answer at_it same won begins count is back =
        let is_there : BecomesOf react first setup history given.seen worker (length (concat view.own)) deed answer =
        subst (λ number. BecomesOf react first setup history given.seen worker number deed answer) count
        (subst (λ setup. BecomesOf react first setup history given.seen worker number deed answer) same
        (subst (λ held. BecomesOf react first other held.seen given.seen worker number deed answer) won is)) in
        let back_there : IsGivenBack (winning history view) given answer = subst (λ held. IsGivenBack held given answer) won back in
        subst (λ after. IsCommit react first (at_book setup workers worker book view) (at_book setup workers worker after given) deed answer) (sym at_it)
        (becomes setup workers worker book view given history deed answer begins is_there back_there)
