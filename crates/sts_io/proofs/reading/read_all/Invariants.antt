-- What the loop of `read_all` keeps: the bytes so far are what was taken, within the limit, and no fault came.
use Rattle.std.proofs.Common.{◌≡◌, ◌-◌, ◌≤◌, vec_len, length}
use Rattle.std.specs.Io.KnownBytes.{Consumes}
use Rattle.sts_io.proofs.reading.read_all.Given as goal

abbrev pub invariant-loop-bytes : goal.invariant-loop-bytes
invariant-loop-bytes g l =
    record {
      taken : Consumes (g.S.Source.left l.fn.source) (g.S.Source.left l.source) l.bytes.items;
      fits : vec_len l.bytes ≤ l.limit;
      place : length l.piece ≡ 65536;
      no_fault : g.S.Source.faults l.source ≡ g.S.Source.faults l.fn.source;
    }

-- how many bytes the limit still allows
abbrev pub decreases-loop-bytes : goal.decreases-loop-bytes
decreases-loop-bytes g l = l.limit - vec_len l.bytes
