-- What a worker's rounds come to, until it leaves.
use Rattle.std.proofs.Common.{◌≡◌, ℕ, ◌+◌, ◌-◌, ◌*◌, ◌^◌, ◌<◌, ◌≤◌, min, refl, arith}
use Rattle.std.proofs.lemmas.Nat.{mul-le}
use Rattle.controller_api.specs.Reaction.{Reaction}
use Rattle.controller_api.specs.declared.item.UpItem.{UpItem}
use Rattle.turn_book.proofs.Begins.{prefix_length}
use Rattle.run_recorder.specs.Answers.{HasNoActor, own_places}
use Rattle.run_recorder.specs.Driving.{AfterRound, HasLeft, IsErrand, IsSameWorker, entered, looks}
use Rattle.run_recorder.specs.Gates.{Rise}
use Rattle.run_recorder.specs.Recording.{Working}
use Rattle.run_recorder.specs.declared.drive.Errand.{Errand}
use Rattle.run_recorder.specs.declared.drive.Left.TheVariants as leave
use Rattle.run_recorder.specs.declared.drive.Round.TheVariants as round
use Rattle.run_recorder.proofs.Rounds.{same_on, same_self}

-- ---- numbers

-- how often a gate was passed, after one time more
rises : (before now later more : ℕ) → Rise before now more → later ≡ min (now + 1) (2 ^ 64 - 1) → Rise before later (more + 1)
rises before now later more rose is = omega arith

rises_less : (before now more less : ℕ) → Rise before now more → less ≤ more → Rise before now less
rises_less before now more less rose few = omega arith

-- how far it is to the end, where there is room for so many entries, and so many rounds in vain are left
abbrev pub rounds_left : ℕ → ℕ → ℕ → ℕ
rounds_left room patience left = room * (patience + 1) + left

-- it is nearer after an entry
pub nearer_by_entry : (room room' patience left left' : ℕ) → room' < room → left' ≤ patience → rounds_left room' patience left' < rounds_left room patience left
nearer_by_entry room room' patience left left' less most_left =
    let most : (room' + 1) * (patience + 1) ≤ room * (patience + 1) = mul-le (room' + 1) (patience + 1) room (patience + 1) (omega arith) (omega arith) in
    let one : (room' + 1) * (patience + 1) ≡ room' * (patience + 1) + (patience + 1) = grind arith in
    omega arith

-- and after a round in vain
pub nearer_in_vain : (room room' patience left left' : ℕ) → room' ≤ room → left' < left → rounds_left room' patience left' < rounds_left room patience left
nearer_in_vain room room' patience left left' no_more less =
    let most : room' * (patience + 1) ≤ room * (patience + 1) = mul-le room' (patience + 1) room (patience + 1) no_more (omega arith) in
    omega arith

module _ {C : Type 0} (react : C → UpItem → Reaction C) (first : C → C) where
  -- What a worker has come to that has not left: it has gone about its rounds from `old` on, has made so many in vain since the last
  -- entry, and is about this errand next.
  pub record IsDriven (before now : ℕ) (old at : Working C) (about : Errand) (vain : ℕ) : Type 0 where
    pub same : IsSameWorker old at
    pub next : IsErrand react first at about
    pub passes : Rise before now (vain + (entered at - entered old))
    pub looked : looks old + vain + 2 * (entered at - entered old) ≤ looks at
    pub impatient : old.setup.limits.patience ≡ 0 → at ≡ old

  pub driven_first : (before : ℕ) (old : Working C) (next : Errand) → IsErrand react first old next → IsDriven before before old old next 0
  driven_first before old next is = record {
    same = same_self old;
    next = is;
    passes = omega arith;
    looked = omega arith;
    impatient = λ none. refl;
  }

  module _ (before now later vain : ℕ) (old at new : Working C) (errand : Errand)
      (driven : IsDriven before now old at errand vain) (patient : vain < old.setup.limits.patience)
      (passed : later ≡ min (now + 1) (2 ^ 64 - 1)) (same : IsSameWorker at new) where
    -- all that it entered before stands
    no_less : entered old ≤ entered at
    no_less = prefix_length (own_places old) (own_places at) driven.same.own

    -- after a round that entered an event
    pub driven_entered : (next : Errand) → AfterRound react first at new (round.Entered next) → IsDriven before later old new next 0
    driven_entered next after =
        let before_it = no_less in
        let rose = rises before now later (vain + (entered at - entered old)) driven.passes passed in
        let looked = driven.looked in
        record {
          same = same_on old at new driven.same same;
          next = after.3;
          passes = rises_less before later (vain + (entered at - entered old) + 1) (0 + (entered new - entered old)) rose (omega (arith, after.0));
          looked = omega (arith, after.0, after.1);
          impatient = λ none. absurd (omega arith);
        }

    -- after a round in vain
    pub driven_vain : (next : Errand) → AfterRound react first at new (round.Vain next) → IsDriven before later old new next (vain + 1)
    driven_vain next after =
        let before_it = no_less in
        let rose = rises before now later (vain + (entered at - entered old)) driven.passes passed in
        let looked = driven.looked in
        record {
          same = same_on old at new driven.same same;
          next = after.2;
          passes = rises_less before later (vain + (entered at - entered old) + 1) ((vain + 1) + (entered new - entered old)) rose (omega (arith, after.0));
          looked = omega (arith, after.0, after.1);
          impatient = λ none. absurd (omega arith);
        }

    -- the passes after a round that entered nothing
    passes_after : entered new ≡ entered at → Rise before later (entered new - entered old)
    passes_after kept =
        let rose = rises before now later (vain + (entered at - entered old)) driven.passes passed in
        rises_less before later (vain + (entered at - entered old) + 1) (entered new - entered old) rose (omega arith)

    pub left_ended : ¬ HasNoActor old → (place : ℕ) → AfterRound react first at new (round.Ended place) → HasLeft react first before later old new (leave.Ended place)
    left_ended has place after =
        let turns = driven.same.turns in
        let more = after.1.turns in
        record {
          passes = passes_after after.0;
          impatient = λ none. absurd (omega arith);
          cause = (has, record { turns = omega arith; complete = after.1.complete; count = after.1.count });
        }

    pub left_no_memory : ¬ HasNoActor old → AfterRound react first at new round.OutOfMemory → HasLeft react first before later old new leave.OutOfMemory
    left_no_memory has after = record {
      passes = passes_after after;
      impatient = λ none. absurd (omega arith);
      cause = has;
    }

  pub left_tired : (before now vain : ℕ) (old at : Working C) (errand : Errand) → IsDriven before now old at errand vain → old.setup.limits.patience ≤ vain
      → ¬ HasNoActor old → HasLeft react first before now old at leave.Tired
  left_tired before now vain old at errand driven tired has =
      let looked = driven.looked in
      record {
        passes = rises_less before now (vain + (entered at - entered old)) (entered at - entered old) driven.passes (omega arith);
        impatient = driven.impatient;
        cause = (
          has,
          rises_less before now (vain + (entered at - entered old)) (old.setup.limits.patience + (entered at - entered old)) driven.passes (omega arith),
          omega arith,
        );
      }

  pub left_idle : (before : ℕ) (old : Working C) → HasNoActor old → HasLeft react first before before old old leave.NoActor
  left_idle before old none = record { passes = omega arith; impatient = λ zero. refl; cause = (none, refl) }
