-- How many entries each worker has recorded.
use Rattle.std.specs.Prelude.{◌≡◌, ℕ, ◌+◌, ◌==◌, if◌then◌else◌, unwrap_or}
use Rattle.std.specs.Ordering.{nat_cmp}
use Rattle.std.specs.BTreeMap.{get}
use Rattle.event_machine.specs.declared.numbers.Numbers.{Numbers}

-- how many entries of the worker were counted, which is the number of its next one
abbrev pub number_of : Numbers → ℕ → ℕ
number_of numbers worker = unwrap_or (get nat_cmp numbers.counts worker) 0

-- the worker has one more entry, and the others have as many as before
abbrev pub CountsEntry : Numbers → Numbers → ℕ → Type 0
CountsEntry old new worker = (other : ℕ) → number_of new other ≡ number_of old other + (if worker == other then 1 else 0)
