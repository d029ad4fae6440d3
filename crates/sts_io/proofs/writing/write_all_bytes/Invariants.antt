-- What the loop of `write_all_bytes` keeps: the first `gone` bytes were taken, and no fault came.
use Rattle.std.proofs.Common.{◌≡◌, ◌-◌, ◌≤◌, length, take}
use Rattle.std.specs.Io.KnownBytes.{Appends}
use Rattle.sts_io.proofs.writing.write_all_bytes.Given as goal

abbrev pub invariant-loop-gone : goal.invariant-loop-gone
invariant-loop-gone g l =
    record {
      taken : Appends (g.K.Sink.taken l.fn.sink) (g.K.Sink.taken l.sink) (take l.gone l.bytes);
      within : l.gone ≤ length l.bytes;
      no_fault : g.K.Sink.faults l.sink ≡ g.K.Sink.faults l.fn.sink;
    }

-- how many bytes are still to be taken
abbrev pub decreases-loop-gone : goal.decreases-loop-gone
decreases-loop-gone g l = length l.bytes - l.gone
