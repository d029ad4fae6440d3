-- Once round the loop of `write_all_bytes`.
use Rattle.std.proofs.Common.{arith, ◌∙◌}
use Rattle.std.proofs.KnownBytes.{Appends-trans}
use Rattle.sts_io.proofs.Pieces.{take-rest, length-rest}
use Rattle.sts_io.proofs.writing.write_all_bytes.Goals as goal

pub loop-gone-preserved : goal.loop-gone-preserved
loop-gone-preserved g c =
    record {
      taken = rw (take-rest c.loop-gone.gone c.in-Ok.count c.args.bytes.now) (Appends-trans _ _ _ _ _ c.loop-gone.invariant.taken c.in-Ok.ensures.bytes);
      within = omega (arith, c.in-Ok.ensures.bound, length-rest c.loop-gone.gone c.args.bytes.now);
      no_fault = c.in-Ok.ensures.cause.kept ∙ c.loop-gone.invariant.no_fault;
    }
