-- The tests of one field and of two say what they stand for.
use Rattle.std.proofs.Common.{◌≡◌, ◌+◌, ◌-◌, ◌*◌, ◌/◌, ◌^◌, ◌<◌, ◌≤◌, ◌∙◌, ℕ, Bool, true, ◌&&◌, IsTrue, Option, Some, None, min, unwrap_or, nat_eq, nat_le, refl, sym, ap, arith, inl, inr, lit<}
use Rattle.std.proofs.Math.Nat.{add-mul-div_right, pow-le-pow_right, zero-div}
use Rattle.std.proofs.lemmas.Bool.{and_parts, cases_lt, eq-eqb, eqb-true, le-leb, leb-true}
use Rattle.std.proofs.lemmas.Nat.{div-mul-add, le-div, mul-add-lt, pow-add, pow_below, pow_pos, shr-shr, shr_below, shr_split}
use Rattle.of10_match.specs.Wire.{address_of}
use Rattle.of10_match.specs.Field.{IsPrefix, IsValidAddress, IsValidNumber, TakesAddress, TakesNumber, covers_address, covers_by, leading_bits, overlaps_address, overlaps_by, takes_address, takes_by}

-- a number that a field takes: its own, or zero
pub given-taken : (o : Option ℕ) → TakesNumber o (unwrap_or o 0)
given-taken None = tt
given-taken (Some x) = refl

pub given-fits : (k : ℕ) (o : Option ℕ) → IsValidNumber k o → unwrap_or o 0 < 2 ^ k
given-fits k None v = pow_pos k
given-fits k (Some x) v = v

-- an address that a field takes: its own, or zero
pub given_address-taken : (o : Option (ℕ × ℕ)) → TakesAddress o (address_of o)
given_address-taken None = tt
given_address-taken (Some p) = refl

pub given_address-fits : (o : Option (ℕ × ℕ)) → IsValidAddress o → address_of o < 2 ^ 32
given_address-fits None v = lit< tt
given_address-fits (Some p) v = v.address

-- ---- a number field takes a number

pub takes_by-TakesNumber : (o : Option ℕ) (x : ℕ) → IsTrue (takes_by nat_eq o x) → TakesNumber o x
takes_by-TakesNumber None x h = tt
takes_by-TakesNumber (Some y) x h = sym (eqb-true y x h)

pub TakesNumber-takes_by : (o : Option ℕ) (x : ℕ) → TakesNumber o x → IsTrue (takes_by nat_eq o x)
TakesNumber-takes_by None x h = refl
TakesNumber-takes_by (Some y) x h = eq-eqb y x (sym h)

-- ---- a number field covers another

pub covers_by-TakesNumber : (o s : Option ℕ) (x : ℕ) → IsTrue (covers_by nat_eq o s) → TakesNumber s x → TakesNumber o x
covers_by-TakesNumber None s x h t = tt
covers_by-TakesNumber (Some y) None x h t = cc
covers_by-TakesNumber (Some y) (Some z) x h t = t ∙ sym (eqb-true y z h)

pub TakesNumber-covers_by : (k : ℕ) → 0 < k → (o s : Option ℕ) → IsValidNumber k s → ((x : ℕ) → x < 2 ^ k → TakesNumber s x → TakesNumber o x) → IsTrue (covers_by nat_eq o s)
TakesNumber-covers_by k pos None s v all = refl
TakesNumber-covers_by k pos (Some y) None v all =
    let one : 2 ^ 0 < 2 ^ k = pow_below 0 k pos in
    let zero_is = all 0 (omega arith) tt in
    let one_is = all 1 (omega arith) tt in
    absurd (omega arith)
TakesNumber-covers_by k pos (Some y) (Some z) v all = eq-eqb y z (sym (all z v refl))

-- ---- two number fields overlap

pub overlaps_by-shared : (k : ℕ) (o s : Option ℕ) → IsValidNumber k o → IsValidNumber k s → IsTrue (overlaps_by nat_eq o s)
    → (x : ℕ) × (x < 2 ^ k) × TakesNumber o x × TakesNumber s x
overlaps_by-shared k None s v w h = (unwrap_or s 0, given-fits k s w, tt, given-taken s)
overlaps_by-shared k (Some y) None v w h = (y, v, refl, tt)
overlaps_by-shared k (Some y) (Some z) v w h = (y, v, refl, eqb-true y z h)

pub TakesNumber-overlaps_by : (o s : Option ℕ) (x : ℕ) → TakesNumber o x → TakesNumber s x → IsTrue (overlaps_by nat_eq o s)
TakesNumber-overlaps_by None s x t u = refl
TakesNumber-overlaps_by (Some y) None x t u = refl
TakesNumber-overlaps_by (Some y) (Some z) x t u = eq-eqb y z (sym t ∙ u)

-- ---- leading bits

-- addresses with the same n leading bits have the same m leading bits, for fewer m
leading_bits-fewer : (m n x y : ℕ) → m ≤ n → n ≤ 32 → leading_bits n x ≡ leading_bits n y → leading_bits m x ≡ leading_bits m y
leading_bits-fewer m n x y fewer most same =
    let left : (32 - n) + (n - m) ≡ 32 - m = omega arith in
    let of = λ (z : ℕ). shr-shr z (32 - n) (n - m) ∙ ap (λ (j : ℕ). z / 2 ^ j) left in
    sym (of x) ∙ ap (λ (z : ℕ). z / 2 ^ (n - m)) same ∙ of y

-- of two addresses that agree on n leading bits the second one more is made by a bit just below them
next_block : (q : ℕ × ℕ) (n : ℕ) → IsPrefix q → q.1 < n → n ≤ 32
    → (q.0 + 1 * 2 ^ (32 - n) < 2 ^ 32) × (leading_bits q.1 (q.0 + 1 * 2 ^ (32 - n)) ≡ leading_bits q.1 q.0)
    × (leading_bits n (q.0 + 1 * 2 ^ (32 - n)) ≡ leading_bits n q.0 + 1)
next_block q n valid more most =
    let block = 2 ^ (32 - q.1) in
    let bit = 2 ^ (32 - n) in
    let high = q.0 / 2 ^ (32 - q.1) in
    let smaller : bit < block = pow_below (32 - n) (32 - q.1) (omega arith) in
    let whole : q.0 ≡ high * block = sym (omega (arith, shr_split q.0 (32 - q.1), valid.rest)) in
    let room : q.1 + (32 - q.1) ≡ 32 = omega arith in
    let below : high < 2 ^ q.1 = shr_below q.0 q.1 (32 - q.1) (rw room valid.address) in
    let size : 2 ^ (32 - q.1) * 2 ^ q.1 ≡ 2 ^ 32 = sym (pow-add 2 (32 - q.1) q.1) ∙ ap (λ (j : ℕ). 2 ^ j) (let e : (32 - q.1) + q.1 ≡ 32 = omega arith in e) in
    let fits = mul-add-lt high block bit (2 ^ q.1) below smaller in
    let inside : (q.0 + 1 * bit) / block ≡ high = ap (λ (z : ℕ). (z + 1 * bit) / block) whole ∙ div-mul-add high block (1 * bit) (omega arith) in
    (rw (← size) (omega arith), inside, add-mul-div_right q.0 1 {z = bit} (pow_pos (32 - n)))

-- two tests that hold
and_both : {a b : Bool} → a ≡ true → b ≡ true → (a && b) ≡ true
and_both p q = rw (p, q) refl

-- ---- an address field takes an address

pub takes_address-TakesAddress : (o : Option (ℕ × ℕ)) (x : ℕ) → IsTrue (takes_address o x) → TakesAddress o x
takes_address-TakesAddress None x h = tt
takes_address-TakesAddress (Some p) x h = eqb-true (leading_bits p.1 x) (leading_bits p.1 p.0) h

pub TakesAddress-takes_address : (o : Option (ℕ × ℕ)) (x : ℕ) → TakesAddress o x → IsTrue (takes_address o x)
TakesAddress-takes_address None x h = refl
TakesAddress-takes_address (Some p) x h = eq-eqb (leading_bits p.1 x) (leading_bits p.1 p.0) h

-- ---- an address field covers another

pub covers_address-TakesAddress : (o s : Option (ℕ × ℕ)) (x : ℕ) → IsValidAddress s → IsTrue (covers_address o s) → TakesAddress s x → TakesAddress o x
covers_address-TakesAddress None s x v h t = tt
covers_address-TakesAddress (Some p) None x v h t = cc
covers_address-TakesAddress (Some p) (Some q) x v h t =
    let parts = and_parts (nat_le p.1 q.1) (takes_address (Some p) q.0) h in
    leading_bits-fewer p.1 q.1 x q.0 (leb-true p.1 q.1 parts.0) v.most t ∙ takes_address-TakesAddress (Some p) q.0 parts.1

pub TakesAddress-covers_address : (o s : Option (ℕ × ℕ)) → IsValidAddress o → IsValidAddress s → ((x : ℕ) → x < 2 ^ 32 → TakesAddress s x → TakesAddress o x) → IsTrue (covers_address o s)
TakesAddress-covers_address None s u v all = refl
TakesAddress-covers_address (Some p) None u v all =
    let lowest = all 0 (lit< tt) tt in
    let highest = all (2 ^ 31) (lit< tt) tt in
    let none : leading_bits p.1 0 ≡ 0 = zero-div (2 ^ (32 - p.1)) in
    let power : 2 ^ (32 - p.1) ≤ 2 ^ 31 = pow-le-pow_right {n = 2} (lit< tt) {i = 32 - p.1} {j = 31} (omega (arith, u.some)) in
    let one : 1 ≤ leading_bits p.1 (2 ^ 31) = le-div 1 (2 ^ 31) (2 ^ (32 - p.1)) (pow_pos (32 - p.1)) (omega arith) in
    absurd (omega arith)
TakesAddress-covers_address (Some p) (Some q) u v all =
    let own = all q.0 v.address refl in
    elim (cases_lt q.1 p.1) [
      | inl more ↦
          let next = next_block q p.1 v more u.most in
          let beyond = all (q.0 + 1 * 2 ^ (32 - p.1)) next.0 next.1 in
          absurd (omega (arith, next.2))
      | inr fewer ↦ and_both (le-leb p.1 q.1 fewer) (TakesAddress-takes_address (Some p) q.0 own)
    ]

-- ---- two address fields overlap

pub overlaps_address-shared : (o s : Option (ℕ × ℕ)) → IsValidAddress o → IsValidAddress s → IsTrue (overlaps_address o s)
    → (x : ℕ) × (x < 2 ^ 32) × TakesAddress o x × TakesAddress s x
overlaps_address-shared None s v w h = (address_of s, given_address-fits s w, tt, given_address-taken s)
overlaps_address-shared (Some p) None v w h = (p.0, v.address, refl, tt)
overlaps_address-shared (Some p) (Some q) v w h =
    let same = eqb-true (leading_bits (min p.1 q.1) p.0) (leading_bits (min p.1 q.1) q.0) h in
    elim (cases_lt q.1 p.1) [
      | inl less ↦ let least : min p.1 q.1 ≡ q.1 = omega arith in (p.0, v.address, refl, rw least at same)
      | inr more ↦ let least : min p.1 q.1 ≡ p.1 = omega arith in (q.0, w.address, sym (rw least at same), refl)
    ]

pub TakesAddress-overlaps_address : (o s : Option (ℕ × ℕ)) (x : ℕ) → IsValidAddress o → IsValidAddress s → TakesAddress o x → TakesAddress s x → IsTrue (overlaps_address o s)
TakesAddress-overlaps_address None s x v w t u = refl
TakesAddress-overlaps_address (Some p) None x v w t u = refl
TakesAddress-overlaps_address (Some p) (Some q) x v w t u =
    let least = min p.1 q.1 in
    eq-eqb (leading_bits least p.0) (leading_bits least q.0)
    (sym (leading_bits-fewer least p.1 x p.0 (omega arith) v.most t) ∙ leading_bits-fewer least q.1 x q.0 (omega arith) w.most u)
