-- The addresses of a prefix are an interval.
use Rattle.std.proofs.Common.{◌≡◌, ◌-◌, ◌*◌, ◌^◌, ◌%◌, subst, arith}
use Rattle.std.proofs.lemmas.Nat.{one_shl}
use Rattle.of10_match.specs.Field.{IsPrefix, IsValidAddress}
use Rattle.header_classes.proofs.Intervals.{prefix-taken, prefix-valid}
use Rattle.header_classes.proofs.interval.Interval.of_address.Goals as goal

pub returns-in-Some-clause-valid : goal.returns-in-Some-clause-valid
returns-in-Some-clause-valid c =
    let prefix : IsPrefix (c.in-Some.address, c.in-Some.bits) = subst IsValidAddress c.in-Some.is c.requires in
    let size : 1 * 2 ^ (32 - c.in-Some.bits) % 2 ^ 64 ≡ 2 ^ (32 - c.in-Some.bits) = one_shl (32 - c.in-Some.bits) 64 (omega arith) in
    rw (c.from-low.ensures, size) (prefix-valid (c.in-Some.address, c.in-Some.bits) prefix)

pub returns-in-Some-clause-taken : goal.returns-in-Some-clause-taken
returns-in-Some-clause-taken c = λ x fits.
    let prefix : IsPrefix (c.in-Some.address, c.in-Some.bits) = subst IsValidAddress c.in-Some.is c.requires in
    let size : 1 * 2 ^ (32 - c.in-Some.bits) % 2 ^ 64 ≡ 2 ^ (32 - c.in-Some.bits) = one_shl (32 - c.in-Some.bits) 64 (omega arith) in
    rw (c.from-low.ensures, size, c.in-Some.is) (prefix-taken (c.in-Some.address, c.in-Some.bits) x prefix)
