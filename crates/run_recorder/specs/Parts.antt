-- A worker with its seat.
use Rattle.std.specs.Prelude.{◌≡◌, ℕ, ◌-◌, List, [], ◌∷◌, length, sum_by, All, Option, Some, None}
use Rattle.std.specs.List.{concat}
use mathlib.Core.List.{IsPrefix}
use Rattle.machine_setup.specs.declared.setup.Setup.{Setup}
use Rattle.turn_book.specs.History.{IsMarked}
use Rattle.turn_book.specs.Places.{numbers_from, times}
use Rattle.turn_book.specs.Steps.{joined_away}
use Rattle.turn_book.specs.Words.{view_of}
use Rattle.turn_book.specs.declared.seat.Seat.{Seat}
use Rattle.turn_book.specs.declared.view.View.{View}
use Rattle.event_machine.specs.declared.trace.Entry.{Entry}
use Rattle.run_recorder.specs.Answers.{Recorded, own_places}
use Rattle.run_recorder.specs.Recording.{Working}
use Rattle.run_recorder.specs.Workers.{entry_mark}
use Rattle.run_recorder.specs.declared.book.Subject.{Subject}

-- a worker by its number and its seat; between two calls the seat is there
abbrev pub working_of : {B C : Type 0} → Setup C → ℕ → ℕ → Option (Seat B Entry (Subject C)) → Working C
working_of setup workers worker (Some seat) = record { setup = setup; workers = workers; worker = worker; book = Some seat.token.table_id; view = view_of seat }
working_of setup workers worker None = record { setup = setup; workers = workers; worker = worker; book = None; view = joined_away }

module _ {C : Type 0} where
  -- the seat of a book that was just opened, after so many workers got a mark of it
  pub record IsUndealt (recorder : Recorded C) (dealt : ℕ) (view : View Entry (Subject C)) : Type 0 where
    pub marks : view.marks ≡ numbers_from 0 (64 - dealt)
    pub subject : view.subject ≡ Some (record { setup = recorder.setup; workers = recorder.workers })
    pub start : view.start ≡ 0
    pub seen : view.seen ≡ []
    pub own : view.own ≡ [] ∷ []
    pub met : view.met ≡ []
    pub turns : view.turns ≡ 0
    pub marked : IsMarked entry_mark view

  -- a seat into which those of all parts were joined
  pub record IsGathered (parts : List (Working C)) (view : View Entry (Subject C)) : Type 0 where
    pub start : view.start ≡ 0
    pub marks : length view.marks ≡ sum_by (λ part. length part.view.marks) parts
    pub own : (place : ℕ) → times place (concat view.own) ≡ sum_by (λ part. times place (own_places part)) parts
    pub begins : All (λ part. IsPrefix part.view.seen view.seen) parts
