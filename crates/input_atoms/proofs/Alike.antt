-- Tests that give the same of each list.
use Rattle.std.proofs.Common.{ℕ, ◌-◌, ◌*◌, List, length, Bool, true, false, max, min}
use Rattle.input_atoms.specs.Cutting.{AreAlike, FirstFails, NoneFails, part_of, complement_of}
use Rattle.input_atoms.specs.Ddmin.{IsReduced, small, to_part, to_complement, finer, single}
use Rattle.input_atoms.specs.Steps.{GoesOn}

pub alike_itself : (test : List ℕ → Bool → Type 0) → AreAlike test test
alike_itself test list failed = (λ h. h, λ h. h)

pub alike_back : (one other : List ℕ → Bool → Type 0) → AreAlike one other → AreAlike other one
alike_back one other alike list failed = ((alike list failed).1, (alike list failed).0)

pub alike_on : (one two three : List ℕ → Bool → Type 0) → AreAlike one two → AreAlike two three → AreAlike one three
alike_on one two three alike on list failed = (λ h. (on list failed).0 ((alike list failed).0 h), λ h. (alike list failed).1 ((on list failed).1 h))

pub over : (one other : List ℕ → Bool → Type 0) → AreAlike one other → (list : List ℕ) (failed : Bool) → one list failed → other list failed
over one other alike list failed = (alike list failed).0

-- what one test tells, the other tells
module _ (one other : List ℕ → Bool → Type 0) (on : (list : List ℕ) (failed : Bool) → one list failed → other list failed) where
  pub none_over : (lists : ℕ → List ℕ) (count : ℕ) → NoneFails one lists count → NoneFails other lists count
  none_over lists count none k within = on (lists k) false (none k within)

  pub first_over : (lists : ℕ → List ℕ) (count : ℕ) (list : List ℕ) → FirstFails one lists count list → FirstFails other lists count list
  first_over lists count list first = record {
    place = first.place;
    within = first.within;
    stands = first.stands;
    fails = on list true first.fails;
    first = none_over lists first.place first.first;
  }

  pub reduced_over : (list : List ℕ) (parts : ℕ) (left : List ℕ) → IsReduced one list parts left → IsReduced other list parts left
  reduced_over list parts left (small list' parts' least) = small list parts least
  reduced_over list parts left (to_part list' part left' parts' more first reduced) = to_part list part left parts more (first_over (part_of list parts) parts part first) (reduced_over part 2 left reduced)
  reduced_over list parts left (to_complement list' complement left' parts' more none first reduced) =
      to_complement list complement left parts more (none_over (part_of list parts) parts none) (first_over (complement_of list parts) parts complement first) (reduced_over complement (max (parts - 1) 2) left reduced)
  reduced_over list parts left (finer list' left' parts' more none none_complement most reduced) =
      finer list left parts more (none_over (part_of list parts) parts none) (none_over (complement_of list parts) parts none_complement) most (reduced_over list (min (length list) (2 * parts)) left reduced)
  reduced_over list parts left (single list' parts' more none none_complement most) = single list parts more (none_over (part_of list parts) parts none) (none_over (complement_of list parts) parts none_complement) most

-- a step by one test is a step by one that gives the same
pub goes_alike : (one other : List ℕ → Bool → Type 0) → AreAlike one other → (list : List ℕ) (parts : ℕ) (next : List ℕ) (next_parts : ℕ) → GoesOn one list parts next next_parts → GoesOn other list parts next next_parts
goes_alike one other alike list parts next next_parts goes = record {
  cut = goes.cut;
  nearer = goes.nearer;
  back = λ left reduced. reduced_over one other (over one other alike) list parts left (goes.back left (reduced_over other one (over other one (alike_back one other alike)) next next_parts left reduced));
}
