-- Which actors a worker has.
use Rattle.std.proofs.Common.{◌≡◌, ℕ, ◌+◌, ◌-◌, ◌<◌, ◌≤◌, ◌%◌, Option, Some, None, refl, ap, ◌∙◌, arith}
use Rattle.std.proofs.Math.Nat.{add-mod_right, mod-eq_of_lt}
use Rattle.machine_setup.specs.declared.setup.Setup.{Setup}
use Rattle.turn_book.specs.declared.seat.Seat.{Seat}
use Rattle.event_machine.specs.declared.trace.Entry.{Entry}
use Rattle.run_recorder.specs.Parts.{working_of}
use Rattle.run_recorder.specs.declared.book.Subject.{Subject}

-- the actor before a worker's number is the first of that worker
pub first_of : (workers worker n : ℕ) → 1 ≤ worker → worker ≤ workers → n ≡ worker - 1 → 1 + n % workers ≡ worker
first_of workers worker n some few is =
    let small : n < workers = omega arith in
    let same : n % workers ≡ n = mod-eq_of_lt small in
    omega arith

-- and from each actor of a worker it is as many actors as there are workers to its next
pub next_of : (workers worker n next : ℕ) → 1 + n % workers ≡ worker → next ≡ n + workers → 1 + next % workers ≡ worker
next_of workers worker n next of is =
    ap (λ k. 1 + k % workers) is ∙ (ap (λ k. 1 + k) (add-mod_right n workers) ∙ of)

module _ {B C : Type 0} where
  -- the numbers of a part are there whether its seat is or not
  pub workers_is : (setup : Setup C) (workers worker : ℕ) (seat : Option (Seat B Entry (Subject C))) → (working_of setup workers worker seat).workers ≡ workers
  workers_is setup workers worker (Some seat) = refl
  workers_is setup workers worker None = refl

  pub worker_is : (setup : Setup C) (workers worker : ℕ) (seat : Option (Seat B Entry (Subject C))) → (working_of setup workers worker seat).worker ≡ worker
  worker_is setup workers worker (Some seat) = refl
  worker_is setup workers worker None = refl
