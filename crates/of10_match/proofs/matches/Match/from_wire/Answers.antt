-- What is read is valid.
use Rattle.std.proofs.Common.{◌<◌, ℕ, slice_index, sym, subst, arith}
use Rattle.std.proofs.lemmas.Grind.{common_steps}
use Rattle.of10_match.specs.Wire.{match_of}
use Rattle.of10_match.specs.Match.{IsValidMatch}
use Rattle.of10_match.proofs.WireLaws.{match_of-valid}
use Rattle.of10_match.proofs.matches.Match.from_wire.Goals as goal

pub returns-clause-read : goal.returns-clause-read
unfolding match_of
returns-clause-read c = grind (arith, common_steps)

pub returns-clause-valid : goal.returns-clause-valid
returns-clause-valid c =
    let bytes : (i : ℕ) → slice_index c.args.bytes.now i < 256 = λ i. omega (arith, c.fits-bytes i) in
    subst IsValidMatch (sym (returns-clause-read c)) (match_of-valid c.args.bytes.now bytes)
