-- The log of a run that workers recorded can be written.
use Rattle.std.proofs.Common.{◌≡◌, ℕ, ◌≤◌, ◌⊎◌, List, inl, inr, arith, All}
use Rattle.std.proofs.lemmas.Nat.{mod_below}
use Rattle.machine_setup.specs.declared.setup.Setup.{Setup}
use Rattle.event_world.specs.Events.{actor_of}
use Rattle.event_machine.specs.declared.trace.Entry.{Entry}
use Rattle.run_recorder.specs.Answers.{AreDealt}
use Rattle.run_recorder.specs.Workers.{actor_number, worker_of}
use Rattle.run_recorder.proofs.Owners.{all_from_each}

module _ {C : Type 0} (setup : Setup C) (workers : ℕ) (some : 1 ≤ workers) where
  -- an entry names worker 0 or one of the workers
  named : (entry : Entry) → (entry.worker ≡ 0) ⊎ (entry.worker ≡ worker_of setup workers (actor_of entry.event)) → entry.worker ≤ workers
  named entry owner = elim owner [
    | inl none ↦ omega arith
    | inr one ↦ let below = mod_below (actor_number setup (actor_of entry.event)) workers some in omega arith
  ]

  pub all_named : (entries : List Entry) → AreDealt setup workers entries → All (λ entry. entry.worker ≤ workers) entries
  all_named entries dealt = all_from_each (λ (entry : Entry). entry.worker ≤ workers) entries (λ at entry there. named entry (dealt at entry there))
