-- The ports that were read and those that are left are all.
use Rattle.std.proofs.Common.{◌≡◌, ◌-◌, ◌*◌, ◌++◌, drop}
use Rattle.of10_messages.specs.Reading.{ports_of}
use Rattle.of10_messages.proofs.reading.ports_of.Given as goal

abbrev pub invariant-loop-at : goal.invariant-loop-at
invariant-loop-at l = l.ports ++ ports_of (l.count - l.at) (drop (48 * l.at) l.bytes) ≡ ports_of l.count l.bytes
