-- One field of a match: what it takes, and the tests of it and of two. A field that is absent is
-- wildcarded and takes every value (OpenFlow 1.0.0 section 3.4).
use Rattle.std.specs.Prelude.{◌≡◌, ◌≤◌, ◌<◌, ◌-◌, ◌/◌, ◌%◌, ◌^◌, ◌==◌, ◌&&◌, ℕ, Bool, true, false, Option, Some, None, min, nat_eq, nat_le}

-- an absent field takes every number, a given one that number alone
abbrev pub TakesNumber : Option ℕ → ℕ → Type 0
TakesNumber None x = Unit {0}
TakesNumber (Some y) x = x ≡ y

-- the n leading bits of a 32-bit address, as a number
abbrev pub leading_bits : ℕ → ℕ → ℕ
leading_bits n address = address / 2 ^ (32 - n)

-- an absent address field takes every address; one that compares n bits takes those with the same n
-- leading bits (OpenFlow 1.0.0 section 5.2.3, the counts of wildcarded low bits)
abbrev pub TakesAddress : Option (ℕ × ℕ) → ℕ → Type 0
TakesAddress None x = Unit {0}
TakesAddress (Some p) x = leading_bits p.1 x ≡ leading_bits p.1 p.0

-- a number field holds a number of so many bits
abbrev pub IsValidNumber : ℕ → Option ℕ → Type 0
IsValidNumber bits None = Unit {0}
IsValidNumber bits (Some x) = x < 2 ^ bits

-- an address and the number of its compared bits, 1 to 32; the bits that are not compared are zero
pub record IsPrefix (p : ℕ × ℕ) : Type 0 where
  pub address : p.0 < 2 ^ 32
  pub some : 1 ≤ p.1
  pub most : p.1 ≤ 32
  pub rest : p.0 % 2 ^ (32 - p.1) ≡ 0

-- an address field holds such an address
abbrev pub IsValidAddress : Option (ℕ × ℕ) → Type 0
IsValidAddress None = Unit {0}
IsValidAddress (Some p) = IsPrefix p

-- the test whether a field takes a value
abbrev pub takes_by : {X : Type 0} → (X → X → Bool) → Option X → X → Bool
takes_by eq None x = true
takes_by eq (Some y) x = eq y x

-- the test whether a field takes all that another takes: it is absent, or both hold one value
abbrev pub covers_by : {X : Type 0} → (X → X → Bool) → Option X → Option X → Bool
covers_by eq None other = true
covers_by eq (Some y) None = false
covers_by eq (Some y) (Some x) = eq y x

-- the test whether two fields take some value both: one is absent, or both hold one value
abbrev pub overlaps_by : {X : Type 0} → (X → X → Bool) → Option X → Option X → Bool
overlaps_by eq None other = true
overlaps_by eq (Some y) None = true
overlaps_by eq (Some y) (Some x) = eq y x

-- the test whether two addresses with their counts are one
abbrev pub same_prefix : ℕ × ℕ → ℕ × ℕ → Bool
same_prefix p q = nat_eq p.0 q.0 && nat_eq p.1 q.1

-- the test whether an address field takes an address
abbrev pub takes_address : Option (ℕ × ℕ) → ℕ → Bool
takes_address None x = true
takes_address (Some p) x = leading_bits p.1 x == leading_bits p.1 p.0

-- the test whether an address field takes all that another takes: it compares no more bits, and takes
-- the other's address
abbrev pub covers_address : Option (ℕ × ℕ) → Option (ℕ × ℕ) → Bool
covers_address None other = true
covers_address (Some p) None = false
covers_address (Some p) (Some q) = nat_le p.1 q.1 && takes_address (Some p) q.0

-- the test whether two address fields take some address both: the bits that both compare are the same
abbrev pub overlaps_address : Option (ℕ × ℕ) → Option (ℕ × ℕ) → Bool
overlaps_address None other = true
overlaps_address (Some p) None = true
overlaps_address (Some p) (Some q) = leading_bits (min p.1 q.1) p.0 == leading_bits (min p.1 q.1) q.0
