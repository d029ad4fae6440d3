-- Which worker has which actor, and which marks the entries of a worker carry.
use Rattle.std.specs.Prelude.{ℕ, zero, suc, ◌+◌, ◌-◌, ◌%◌, List, [], ◌∷◌, length}
use Rattle.machine_setup.specs.declared.setup.Setup.{Setup}
use Rattle.pool_book.specs.declared.actor.Actor.{Actor}
use Rattle.pool_book.specs.declared.actor.Actor.TheVariants.{Script, Switch, Controller, Host}
use Rattle.turn_book.specs.Places.{numbers_from}
use Rattle.event_machine.specs.declared.trace.Entry.{Entry}

module _ {C : Type 0} where
  -- the number of an actor: the script, then the switches, then the controllers, then the hosts
  abbrev pub actor_number : Setup C → Actor → ℕ
  actor_number setup Script = 0
  actor_number setup (Switch s) = 1 + s
  actor_number setup (Controller c) = 1 + length setup.topology.ports + c
  actor_number setup (Host h) = 1 + length setup.topology.ports + length setup.controllers + h

  -- how many actors there are
  abbrev pub actor_count : Setup C → ℕ
  actor_count setup = 1 + length setup.topology.ports + length setup.controllers + length setup.topology.hosts

  -- the worker that has an actor, where there are so many, numbered from 1: actors are dealt out one after the other
  abbrev pub worker_of : Setup C → ℕ → Actor → ℕ
  worker_of setup workers who = 1 + actor_number setup who % workers

-- the mark that the entries of a worker carry
abbrev pub mark_of : ℕ → ℕ
mark_of worker = 64 - worker

-- the marks of a worker's seat, where there are so many workers: worker 0 has what is left
abbrev pub marks_for : ℕ → ℕ → List ℕ
marks_for workers zero = numbers_from 0 (64 - workers)
marks_for workers (suc before) = mark_of (suc before) ∷ []

-- the mark of an entry is that of its worker
abbrev pub entry_mark : Entry → ℕ
entry_mark entry = mark_of entry.worker
