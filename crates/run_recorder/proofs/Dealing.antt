-- Marks of a seat that are dealt out to parts.
use Rattle.std.proofs.Common.{◌≡◌, ℕ, zero, suc, ◌+◌, ◌-◌, ◌≤◌, List, [], ◌∷◌, ◌++◌, length, slice_get, All, Option, Some, true, inl, inr, ap, sym, ◌∙◌, subst, arith}
use Rattle.std.specs.List.{concat}
use Rattle.atomic_table.specs.Seated.{TableId}
use Rattle.machine_setup.specs.Setup.{IsValidSetup}
use Rattle.turn_book.specs.History.{IsMarked}
use Rattle.turn_book.specs.Places.{numbers_from, but_last, last_alone, but_last-numbers_from, last_alone-numbers_from, times}
use Rattle.turn_book.specs.Steps.{child, opener, parent}
use Rattle.std.proofs.lemmas.List.Elements.{All-cons}
use Rattle.std.proofs.lemmas.Option.{same_Some}
use Rattle.turn_book.specs.Words.{IsNoted, IsSeatOf, LastMarkIsFree}
use Rattle.turn_book.specs.declared.seat.Seat.{Seat}
use Rattle.turn_book.specs.declared.view.View.{View}
use Rattle.turn_book.proofs.Begins.{get_snoc}
use Rattle.turn_book.proofs.Sums.{length-numbers_from}
use Rattle.event_machine.specs.declared.trace.Entry.{Entry}
use Rattle.run_recorder.proofs.Owners.{all_from_each, lone_mark}
use Rattle.run_recorder.specs.Answers.{AreParts, IsIdle, IsPartOf, Recorded}
use Rattle.run_recorder.specs.Parts.{IsUndealt, working_of}
use Rattle.run_recorder.specs.Recording.{IsWorking, Working}
use Rattle.run_recorder.specs.Workers.{entry_mark, mark_of}
use Rattle.run_recorder.specs.declared.book.Subject.{Subject}

-- what is left before a worker's mark is dealt: the numbers below its mark, and its mark
left_before : (worker : ℕ) → 1 ≤ worker → worker ≤ 8 → 64 - (worker - 1) ≡ mark_of worker + 1
left_before worker some few = omega arith

module _ {C : Type 0} (recorder : Recorded C) where
  -- the seat of a book that was just opened
  pub undealt_first : (view : View Entry (Subject C)) → view ≡ opener [] (record { setup = recorder.setup; workers = recorder.workers }) → IsMarked entry_mark view → IsUndealt recorder 0 view
  undealt_first view new marked = record {
    marks = ap (λ v. v.marks) new;
    subject = ap (λ v. v.subject) new;
    start = ap (λ v. v.start) new;
    seen = ap (λ v. v.seen) new;
    own = ap (λ v. v.own) new;
    met = ap (λ v. v.met) new;
    turns = ap (λ v. v.turns) new;
    marked = marked;
  }

  module _ (worker : ℕ) (some : 1 ≤ worker) (few : worker ≤ 8) (old : View Entry (Subject C)) (before : IsUndealt recorder (worker - 1) old) where
    numbers : old.marks ≡ numbers_from 0 (mark_of worker + 1)
    numbers = before.marks ∙ ap (numbers_from 0) (left_before worker some few)

    -- it has two marks at least
    pub two_marks : 2 ≤ length old.marks
    two_marks = let long : length old.marks ≡ mark_of worker + 1 = ap length numbers ∙ length-numbers_from 0 (mark_of worker + 1) in omega arith

    -- and no call carries its last one
    pub last_is_free : LastMarkIsFree entry_mark old
    last_is_free place entry own there = let none : times place (concat old.own) ≡ 0 = ap (λ l. times place (concat l)) before.own in absurd (omega arith)

    -- without the last mark it has the marks that are left
    pub undealt_more : (new : View Entry (Subject C)) → new ≡ parent old → IsMarked entry_mark new → IsUndealt recorder worker new
    undealt_more new is marked = record {
      marks = ap (λ v. v.marks) is ∙ (ap but_last numbers ∙ but_last-numbers_from (mark_of worker));
      subject = ap (λ v. v.subject) is ∙ before.subject;
      start = ap (λ v. v.start) is ∙ before.start;
      seen = ap (λ v. v.seen) is ∙ before.seen;
      own = ap (λ v. v.own) is ∙ before.own;
      met = ap (λ v. v.met) is ∙ before.met;
      turns = ap (λ v. v.turns) is ∙ before.turns;
      marked = marked;
    }

    -- and with the last mark the new seat is the worker's
    pub working_dealt : (new : View Entry (Subject C)) (book : Option TableId) → IsNoted (child old) new → IsMarked entry_mark new → old.live ≡ true
        → IsValidSetup recorder.setup → worker ≤ recorder.workers → recorder.workers ≤ 8
        → IsWorking (record { setup = recorder.setup; workers = recorder.workers; worker = worker; book = book; view = new })
    working_dealt new book is marked live valid number most = record {
      valid = valid;
      some = omega arith;
      few = most;
      number = number;
      live = ap (λ v. v.live) is.1 ∙ live;
      marks = ap (λ v. v.marks) is.1 ∙ (ap last_alone numbers ∙ (last_alone-numbers_from (mark_of worker) ∙ sym (lone_mark recorder.workers worker some)));
      subject = ap (λ v. v.subject) is.1 ∙ before.subject;
      start = ap (λ v. v.start) is.1 ∙ before.start;
      marked = marked;
      alone = ap (λ v. length v.own) is.1;
      idle = λ none. ap (λ v. concat v.own) is.1;
      room = let nothing : length new.seen ≡ 0 = ap (λ v. length v.seen) is.1 ∙ ap length before.seen in omega arith;
    }

    pub idle_dealt : (part : Working C) → IsNoted (child old) part.view → IsIdle part
    idle_dealt part is = record {
      seen = ap (λ v. v.seen) is.1 ∙ before.seen;
      own = ap (λ v. v.own) is.1;
      met = ap (λ v. v.met) is.1;
      turns = ap (λ v. v.turns) is.1;
    }

  -- worker 0 has what is left
  pub working_left : (view : View Entry (Subject C)) (book : Option TableId) → IsUndealt recorder recorder.workers view → view.live ≡ true → IsValidSetup recorder.setup → 1 ≤ recorder.workers → recorder.workers ≤ 8
      → IsWorking (record { setup = recorder.setup; workers = recorder.workers; worker = 0; book = book; view = view })
  working_left view book left live valid some most = record {
    valid = valid;
    some = some;
    few = most;
    number = omega arith;
    live = live;
    marks = left.marks;
    subject = left.subject;
    start = left.start;
    marked = left.marked;
    alone = ap length left.own;
    idle = λ none. ap concat left.own;
    room = let nothing : length view.seen ≡ 0 = ap length left.seen in omega arith;
  }

  pub idle_left : (view : View Entry (Subject C)) (dealt : ℕ) → IsUndealt recorder dealt view → (part : Working C) → part.view ≡ view → IsIdle part
  idle_left view dealt left part is = record {
    seen = ap (λ v. v.seen) is ∙ left.seen;
    own = ap (λ v. v.own) is ∙ left.own;
    met = ap (λ v. v.met) is ∙ left.met;
    turns = ap (λ v. v.turns) is ∙ left.turns;
  }

  -- ---- parts

  -- a part with a seat of the recorder's book
  pub part_of : {B : Type 0} (part : Working C) (worker : ℕ) (seat : Seat B Entry (Subject C)) → part ≡ working_of recorder.setup recorder.workers worker (Some seat)
      → IsSeatOf recorder.book seat → IsPartOf recorder part × (part.worker ≡ worker)
  part_of part worker seat is of = (
    record {
      setup = ap (λ p. p.setup) is;
      workers = ap (λ p. p.workers) is;
      book = ap (λ p. p.book) is ∙ ap Some of.0;
    },
    ap (λ p. p.worker) is,
  )

  -- the idle parts of the workers from 1 on, as far as they are dealt
  pub record AreOthers (parts : List (Working C)) : Type 0 where
    pub each : (i : ℕ) (part : Working C) → slice_get parts i ≡ Some part → IsPartOf recorder part × (part.worker ≡ i + 1)
    pub idle : (i : ℕ) (part : Working C) → slice_get parts i ≡ Some part → IsIdle part

  pub no_others : AreOthers []
  no_others = record { each = λ i part there. absurd (cc); idle = λ i part there. absurd (cc) }

  pub others_more : (parts more : List (Working C)) (new : Working C) (worker : ℕ) → AreOthers parts → more ≡ parts ++ new ∷ [] → worker ≡ length parts + 1
      → IsPartOf recorder new → new.worker ≡ worker → IsIdle new → AreOthers more
  others_more parts more new worker before is number of its idle = subst AreOthers (sym is) (record {
    each = λ i part there. elim (get_snoc parts new i part there) [
      | inl old ↦ before.each i part old
      | inr last ↦ (subst (IsPartOf recorder) last.1 of, ap (λ p. p.worker) (sym last.1) ∙ (its ∙ (number ∙ ap (λ n. n + 1) (sym last.0))))
    ];
    idle = λ i part there. elim (get_snoc parts new i part there) [
      | inl old ↦ before.idle i part old
      | inr last ↦ subst IsIdle last.1 idle
    ];
  })

  -- with that of worker 0 in front they are all
  pub all_parts : (lead : Working C) (parts : List (Working C)) → AreOthers parts → length parts ≡ recorder.workers → IsPartOf recorder lead → lead.worker ≡ 0 → AreParts recorder (lead ∷ parts)
  all_parts lead parts others count of none = record { count = omega arith; each = at }
    where
      at : (worker : ℕ) (part : Working C) → slice_get (lead ∷ parts) worker ≡ Some part → IsPartOf recorder part × (part.worker ≡ worker)
      at zero part there = let same : lead ≡ part = same_Some lead part there in (subst (IsPartOf recorder) same of, ap (λ p. p.worker) (sym same) ∙ none)
      at (suc i) part there = let its = others.each i part there in (its.0, omega (arith, its.1))

  pub all_idle : (lead : Working C) (parts : List (Working C)) → AreOthers parts → IsIdle lead → All IsIdle (lead ∷ parts)
  all_idle lead parts others idle = All-cons IsIdle lead parts idle (all_from_each IsIdle parts others.idle)
