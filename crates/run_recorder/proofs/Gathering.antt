-- Seats of all parts that are joined into one.
use Rattle.std.proofs.Common.{◌≡◌, ℕ, suc, ◌+◌, ◌-◌, ◌<◌, ◌≤◌, List, [], ◌∷◌, ◌++◌, length, slice_get, slice_index_or, remove, All, Some, sum_by, inl, inr, refl, ap, sym, ◌∙◌, subst, arith, append-nil, append_assoc, length-append}
use Rattle.std.specs.List.{concat}
use Rattle.std.proofs.lemmas.Bool.{cases_lt}
use Rattle.std.proofs.lemmas.List.Elements.{All-nil, All-cons, All-push, All-weaker}
use Rattle.std.proofs.lemmas.List.Sums.{sum_by-cons, sum_by_push}
use Rattle.std.proofs.lemmas.Option.{same_Some}
use mathlib.Core.List.{IsPrefix}
use Rattle.turn_book.proofs.Begins.{prefix_self, prefix_trans}
use Rattle.turn_book.proofs.Sums.{concat-append, times-append, length-numbers_from}
use Rattle.turn_book.specs.Places.{times}
use Rattle.turn_book.specs.Words.{IsJoined, IsSeatOf, view_of}
use Rattle.turn_book.specs.declared.seat.Seat.{Seat}
use Rattle.turn_book.specs.declared.view.View.{View}
use Rattle.event_machine.specs.declared.trace.Entry.{Entry}
use Rattle.run_recorder.specs.Answers.{AreParts, Recorded, own_places}
use Rattle.run_recorder.specs.Parts.{IsGathered, working_of}
use Rattle.run_recorder.specs.Recording.{IsWorking, Working}
use Rattle.run_recorder.specs.Workers.{marks_for}
use Rattle.run_recorder.specs.declared.book.Subject.{Subject}

-- ---- sums

module _ {X : Type 0} (f : X → ℕ) where
  -- where each has one, there are as many as there are elements
  pub sum_of_ones : (xs : List X) → ((i : ℕ) (x : X) → slice_get xs i ≡ Some x → f x ≡ 1) → sum_by f xs ≡ length xs
  sum_of_ones [] ones = refl
  sum_of_ones (x ∷ xs) ones =
      let sum = sum_by-cons f x xs in
      let here = ones 0 x refl in
      let rest = sum_of_ones xs (λ i y there. ones (suc i) y there) in
      omega arith

  -- where there is any, some element has one
  pub sum_found : (xs : List X) → 0 < sum_by f xs → (i : ℕ) × (x : X) × (slice_get xs i ≡ Some x) × (0 < f x)
  sum_found [] some = absurd (omega arith)
  sum_found (x ∷ xs) some =
      let sum = sum_by-cons f x xs in
      elim (cases_lt 0 (f x)) [
        | inl here ↦ (0, x, refl, here)
        | inr none ↦ let rest = sum_found xs (omega arith) in (suc rest.0, rest.1, rest.2, rest.3)
      ]

-- ---- joining

module _ {C : Type 0} where
  -- the seat of the first part, before any other is joined into it
  pub gathered_first : (part : Working C) → part.view.start ≡ 0 → IsGathered (part ∷ []) part.view
  gathered_first part start = record {
    start = start;
    marks = omega arith;
    own = λ place. omega arith;
    begins = All-cons (λ (p : Working C). IsPrefix p.view.seen part.view.seen) part [] (prefix_self part.view.seen) (All-nil (λ (p : Working C). IsPrefix p.view.seen part.view.seen));
  }

  -- the seat of one part more is joined into it
  pub gathered_more : (done : List (Working C)) (part : Working C) (old new : View Entry (Subject C)) → IsGathered done old → IsJoined old part.view new
      → IsPrefix old.seen new.seen → IsPrefix part.view.seen new.seen → IsGathered (done ++ part ∷ []) new
  gathered_more done part old new before joined into other = record {
    start = ap (λ v. v.start) joined.1 ∙ before.start;
    marks =
        let both : length new.marks ≡ length (old.marks ++ part.view.marks) = ap (λ (v : View Entry (Subject C)). length v.marks) joined.1 in
        let halves = length-append old.marks part.view.marks in
        let sum = sum_by_push (λ (part : Working C). length part.view.marks) done part in
        let first = before.marks in
        omega arith;
    own = λ place.
        let both : times place (concat new.own) ≡ times place (concat (old.own ++ part.view.own)) = ap (λ (v : View Entry (Subject C)). times place (concat v.own)) joined.1 in
        let apart : times place (concat (old.own ++ part.view.own)) ≡ times place (concat old.own ++ concat part.view.own) = ap (times place) (concat-append old.own part.view.own) in
        let halves = times-append place (concat old.own) (concat part.view.own) in
        let sum = sum_by_push (λ (part : Working C). times place (own_places part)) done part in
        let first = before.own place in
        omega arith;
    begins = All-push (λ (p : Working C). IsPrefix p.view.seen new.seen) done part
        (All-weaker (λ (p : Working C). IsPrefix p.view.seen old.seen) (λ (p : Working C). IsPrefix p.view.seen new.seen) (λ p begins. prefix_trans p.view.seen old.seen new.seen begins into) done before.begins)
        other;
  }

  -- all parts together have all marks
  pub all_marks : (workers : ℕ) (parts : List (Working C)) → workers ≤ 8 → length parts ≡ workers + 1
      → ((i : ℕ) (part : Working C) → slice_get parts i ≡ Some part → part.view.marks ≡ marks_for workers i)
      → sum_by (λ (part : Working C). length part.view.marks) parts ≡ 64
  all_marks workers [] few count marks = absurd (omega arith)
  all_marks workers (part ∷ parts) few count marks =
      let sum = sum_by-cons (λ (part : Working C). length part.view.marks) part parts in
      let first : length part.view.marks ≡ 64 - workers = ap length (marks 0 part refl) ∙ length-numbers_from 0 (64 - workers) in
      let rest = sum_of_ones (λ (part : Working C). length part.view.marks) parts (λ i other there. ap length (marks (suc i) other there)) in
      omega arith

-- ---- one after the other

-- what stands behind the first elements
after_done : {X : Type 0} (done rest : List X) (x : X) → slice_get (done ++ x ∷ rest) (length done) ≡ Some x
after_done [] rest x = refl
after_done (y ∷ done) rest x = after_done done rest x

-- the first element, and the others
pub first_and_rest : {X : Type 0} (xs : List X) (first : X) (rest : List X) → 0 < length xs → first ≡ slice_index_or xs 0 first → rest ≡ remove xs 0 → first ∷ rest ≡ xs
first_and_rest [] first rest some head tail = absurd (omega arith)
first_and_rest (x ∷ xs) first rest some head tail = ap (λ y. y ∷ rest) head ∙ ap (λ l. x ∷ l) tail

module _ {C : Type 0} (recorder : Recorded C) (parts : List (Working C)) (are : AreParts recorder parts) where
  subject_of : (i : ℕ) (part : Working C) → slice_get parts i ≡ Some part → IsWorking part → part.view.subject ≡ Some (record { setup = recorder.setup; workers = recorder.workers })
  subject_of i part there known =
      let its = (are.each i part there).0 in
      known.subject ∙ (ap (λ setup. Some (record { setup = setup; workers = part.workers })) its.setup ∙ ap (λ workers. Some (record { setup = recorder.setup; workers = workers })) its.workers)

module _ {B C : Type 0} (recorder : Recorded C) (parts : List (Working C)) where
  -- the seats of some parts are joined, and the rest are still to come
  pub record Gathers (rest : List (Working C)) (seat : Seat B Entry (Subject C)) : Type 0 where
    pub done : List (Working C)
    pub all : done ++ rest ≡ parts
    pub of : IsSeatOf recorder.book seat
    pub subject : (view_of seat).subject ≡ Some (record { setup = recorder.setup; workers = recorder.workers })
    pub gathered : IsGathered done (view_of seat)
    pub working : All IsWorking done

  module _ (are : AreParts recorder parts) where
    -- the seat of a part is one of the recorder's book
    seat_of : (i : ℕ) (part : Working C) (seat : Seat B Entry (Subject C)) (setup : _) (workers worker : ℕ) → slice_get parts i ≡ Some part → IsWorking part → part ≡ working_of setup workers worker (Some seat) → IsSeatOf recorder.book seat
    seat_of i part seat setup workers worker there known is =
        let book = (are.each i part there).0.book in
        (same_Some seat.token.table_id recorder.book (sym (ap (λ (p : Working C). p.book) is) ∙ book), sym (ap (λ (p : Working C). p.view.live) is) ∙ known.live)

    pub gathers_first : (first : Working C) (rest : List (Working C)) (seat : Seat B Entry (Subject C)) (setup : _) (workers worker : ℕ) → first ≡ slice_index_or parts 0 first → rest ≡ remove parts 0
        → IsWorking first → first ≡ working_of setup workers worker (Some seat) → Gathers rest seat
    gathers_first first rest seat setup workers worker head tail known is =
        let two = first_and_rest parts first rest (omega (arith, are.count)) head tail in
        let there : slice_get parts 0 ≡ Some first = ap (λ l. slice_get l 0) (sym two) in
        let view : (view_of seat) ≡ first.view = sym (ap (λ (p : Working C). p.view) is) in record {
          done = first ∷ [];
          all = two;
          of = seat_of 0 first seat setup workers worker there known is;
          subject = ap (λ v. v.subject) view ∙ subject_of recorder parts are 0 first there known;
          gathered = subst (λ v. IsGathered (first ∷ []) v) (sym view) (gathered_first first known.start);
          working = All-cons IsWorking first [] known (All-nil IsWorking);
        }

    pub gathers_other : (part : Working C) (rest : List (Working C)) (old other : Seat B Entry (Subject C)) (setup : _) (workers worker : ℕ) → Gathers (part ∷ rest) old → IsWorking part → part ≡ working_of setup workers worker (Some other) → IsSeatOf recorder.book other
    gathers_other part rest old other setup workers worker before known is =
        seat_of (length before.done) part other setup workers worker (ap (λ l. slice_get l (length before.done)) (sym before.all) ∙ after_done before.done rest part) known is

    pub gathers_more : (part : Working C) (rest : List (Working C)) (old other new : Seat B Entry (Subject C)) (setup : _) (workers worker : ℕ) → Gathers (part ∷ rest) old → IsWorking part → part ≡ working_of setup workers worker (Some other)
        → IsSeatOf recorder.book new → IsJoined (view_of old) (view_of other) (view_of new) → IsPrefix (view_of old).seen (view_of new).seen → IsPrefix (view_of other).seen (view_of new).seen → Gathers rest new
    gathers_more part rest old other new setup workers worker before known is of joined into onto =
        let view : part.view ≡ view_of other = ap (λ (p : Working C). p.view) is in record {
          done = before.done ++ part ∷ [];
          all = append_assoc before.done (part ∷ []) rest ∙ before.all;
          of = of;
          subject = ap (λ v. v.subject) joined.1 ∙ before.subject;
          gathered = gathered_more before.done part (view_of old) (view_of new) before.gathered
              (subst (λ v. IsJoined (view_of old) v (view_of new)) (sym view) joined) into
              (subst (λ (v : View Entry (Subject C)). IsPrefix v.seen (view_of new).seen) (sym view) onto);
          working = All-push IsWorking before.done part before.working known;
        }

  -- nothing is still to come
  pub gathers_all : (rest : List (Working C)) (seat : Seat B Entry (Subject C)) → length rest ≡ 0 → Gathers rest seat → IsGathered parts (view_of seat) × All IsWorking parts
  gathers_all [] seat none all =
      let whole = sym (append-nil all.done) ∙ all.all in (subst (λ l. IsGathered l (view_of seat)) whole all.gathered, subst (All IsWorking) whole all.working)
  gathers_all (part ∷ rest) seat none all = absurd (omega arith)
