-- The bytes so far, and what the next read takes: at each exit of `read_all`, and once round its loop.
use Rattle.std.proofs.Common.{◌≡◌, ◌+◌, drop, length-append, arith, refl, rules, ◌∙◌}
use Rattle.std.proofs.KnownBytes.{Consumes-nil, Consumes-whole}
use Rattle.std.proofs.lemmas.Result.{err_from_is_err_and}
use Rattle.sts_io.proofs.Pieces.{Consumes-grown, TakesAtMost-after, TakesCount-after}
use Rattle.sts_io.proofs.reading.read_all.Goals as goal

pub loop-bytes-init : goal.loop-bytes-init
loop-bytes-init g c =
    record {
      taken = rw c.new-bytes.ensures.items (Consumes-nil _);
      fits = omega (arith, c.new-bytes.ensures.len);
      place = omega (arith, c.in_ok-space.ensures.len, c.as_mut_slice-piece.ensures.len);
      no_fault = refl;
    }

pub returns-in_err-count-clause-within : goal.returns-in_err-count-clause-within
returns-in_err-count-clause-within g c =
    let p = err_from_is_err_and c.from_residual-in_err-count.result c.from_residual-in_err-count.ensures.1 in
    λ h. TakesAtMost-after _ _ _ _ _ _ c.loop-bytes.invariant.taken (c.in_err-count.ensures.within (λ e. h cc)) (omega arith)

pub returns-in_err-count-clause-too_long : goal.returns-in_err-count-clause-too_long
returns-in_err-count-clause-too_long g c =
    let p = err_from_is_err_and c.from_residual-in_err-count.result c.from_residual-in_err-count.ensures.1 in
    λ h. TakesCount-after _ _ _ _ _ _ c.loop-bytes.invariant.taken (c.in_err-count.ensures.too_long cc) (omega arith)

pub returns-in_err-count-clause-no_fault : goal.returns-in_err-count-clause-no_fault
returns-in_err-count-clause-no_fault g c =
    let p = err_from_is_err_and c.from_residual-in_err-count.result c.from_residual-in_err-count.ensures.1 in
    λ h. c.in_err-count.ensures.no_fault (λ e. h cc) ∙ c.loop-bytes.invariant.no_fault

pub returns-then-count-eq0-clause-whole : goal.returns-then-count-eq0-clause-whole
returns-then-count-eq0-clause-whole g c =
    let bytes = c.read_piece.new.bytes.items in
    let taken = Consumes-grown _ _ _ _ _ bytes c.loop-bytes.invariant.taken c.in_ok-count.ensures.ok c.in_ok-count.ensures.appended in
    Consumes-whole _ _ bytes (λ all. bytes ≡ all) taken (c.in_ok-count.ensures.end (search rules)) refl

pub returns-then-count-eq0-clause-within : goal.returns-then-count-eq0-clause-within
returns-then-count-eq0-clause-within g c _ =
    record {
      bytes = c.read_piece.new.bytes.items;
      prefix = Consumes-grown _ _ _ _ _ _ c.loop-bytes.invariant.taken c.in_ok-count.ensures.ok c.in_ok-count.ensures.appended;
      within = omega (arith, c.in_ok-count.ensures.fits);
    }

pub loop-bytes-preserved : goal.loop-bytes-preserved
loop-bytes-preserved g c =
    record {
      taken = Consumes-grown _ _ _ _ _ _ c.loop-bytes.invariant.taken c.in_ok-count.ensures.ok c.in_ok-count.ensures.appended;
      fits = omega (arith, c.in_ok-count.ensures.fits);
      place = omega (arith, length-append c.read_piece.new.piece (drop (c.min.result + 1) c.loop-bytes.piece));
      no_fault = c.in_ok-count.ensures.no_fault (search rules) ∙ c.loop-bytes.invariant.no_fault;
    }
