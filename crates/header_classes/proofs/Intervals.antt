-- The addresses with the same leading bits are an interval.
use Rattle.std.proofs.Common.{◌≡◌, ◌∙◌, ◌+◌, ◌-◌, ◌*◌, ◌/◌, ◌%◌, ◌^◌, ◌<◌, ◌&&◌, ℕ, Bool, true, false, nat_eq, nat_le, refl, sym, ap, arith}
use Rattle.std.proofs.lemmas.Bool.{and_from, and_parts, eq-eqb, eqb-true, le-leb, leb-true}
use Rattle.std.proofs.lemmas.Nat.{div-add-mod', div-mul-add, mod_below, mul-add-lt, pow_pos, shr_split, shr_below, pow-add}
use Rattle.of10_match.specs.Field.{IsPrefix, leading_bits}
use Rattle.header_classes.specs.Interval.{IsInterval, within}

-- two tests that hold at the same time are one
pub same_test : (a b : Bool) → (a ≡ true → b ≡ true) → (b ≡ true → a ≡ true) → a ≡ b
same_test true true forth back = refl
same_test true false forth back = sym (forth refl)
same_test false true forth back = back refl
same_test false false forth back = refl

-- the numbers of a block are those with its quotient
block : (size start x : ℕ) → 0 < size → start % size ≡ 0 → (nat_le start x && nat_le x (start + (size - 1))) ≡ nat_eq (x / size) (start / size)
block size start x some whole =
    let quotient = start / size in
    let is : start ≡ quotient * size = omega arith in
    same_test _ _
    (λ inside.
    let parts = and_parts (nat_le start x) (nat_le x (start + (size - 1))) inside in
    let low = leb-true start x parts.0 in
    let high = leb-true x (start + (size - 1)) parts.1 in
    let split : x ≡ quotient * size + (x - start) = omega (arith, low, is) in
    let at = div-mul-add quotient size (x - start) (omega (arith, low, high)) in
    eq-eqb (x / size) quotient (ap (λ (z : ℕ). z / size) split ∙ at))
    (λ same.
    let at = eqb-true (x / size) quotient same in
    let split : x ≡ quotient * size + x % size = sym (div-add-mod' x size) ∙ ap (λ (q : ℕ). q * size + x % size) at in
    let below = mod_below x size some in
    and_from (nat_le start x) (nat_le x (start + (size - 1))) (le-leb start x (omega (arith, split, is, below))) (le-leb x (start + (size - 1)) (omega (arith, split, is, below))))

-- the addresses that agree with one in so many leading bits
pub prefix-taken : (p : ℕ × ℕ) (x : ℕ) → IsPrefix p → within record { low = p.0; high = p.0 + (2 ^ (32 - p.1) - 1) } x ≡ nat_eq (leading_bits p.1 x) (leading_bits p.1 p.0)
prefix-taken p x valid = block (2 ^ (32 - p.1)) p.0 x (pow_pos (32 - p.1)) valid.rest

-- they have 32 bits
pub prefix-valid : (p : ℕ × ℕ) → IsPrefix p → IsInterval 32 record { low = p.0; high = p.0 + (2 ^ (32 - p.1) - 1) }
prefix-valid p valid =
    let size = 2 ^ (32 - p.1) in
    let some : 0 < size = pow_pos (32 - p.1) in
    let quotient = p.0 / size in
    let is : p.0 ≡ quotient * size = sym (omega (arith, shr_split p.0 (32 - p.1), valid.rest)) in
    let room : p.1 + (32 - p.1) ≡ 32 = omega (arith, valid.most) in
    let few : quotient < 2 ^ p.1 = shr_below p.0 p.1 (32 - p.1) (rw room valid.address) in
    let all : size * 2 ^ p.1 ≡ 2 ^ 32 = sym (pow-add 2 (32 - p.1) p.1) ∙ ap (λ (j : ℕ). 2 ^ j) (let e : (32 - p.1) + p.1 ≡ 32 = omega (arith, valid.most) in e) in
    record { ordered = omega arith; fits = rw is (rw (← all) (mul-add-lt quotient size (size - 1) (2 ^ p.1) few (omega arith))) }
