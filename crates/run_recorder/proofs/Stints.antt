-- Workers that served, each at its part and with its gate.
use Rattle.std.proofs.Common.{◌≡◌, ◌≢◌, ◌∙◌, ℕ, zero, suc, ◌<◌, List, ◌∷◌, length, map, remove, slice_get, slice_index_or, All, Option, Some, None, option_map, add-one, ap, arith, refl, subst, sym}
use Rattle.std.proofs.lemmas.List.{length-map}
use Rattle.std.proofs.lemmas.Option.{same_Some, slice_get-map}
use Rattle.controller_api.specs.Reaction.{Reaction}
use Rattle.controller_api.specs.declared.item.UpItem.{UpItem}
use Rattle.paired_work.specs.Worked.{HaveWorked}
use Rattle.paired_work.proofs.Works.{worked_at, worked_lengths}
use Rattle.run_recorder.specs.Answers.{AreParts, IsPartOf}
use Rattle.run_recorder.specs.AtOnce.{AreAway, AreStints, CameBack, HasServed, IsAway}
use Rattle.run_recorder.specs.Recorder.{recorded}
use Rattle.run_recorder.specs.Recording.{Working}
use Rattle.run_recorder.specs.declared.at_once.Stint.{Stint}
use Rattle.run_recorder.specs.declared.recorder.Recorder.{Recorder}
use Rattle.run_recorder.specs.declared.drive.Left.TheVariants as leave
use Rattle.run_recorder.proofs.Gathering.{first_and_rest}
use Rattle.run_recorder.proofs.Owners.{all_from_each, each_from_all}

-- the first part and the others, once the first is taken out of the list of all
pub taken_out : {X : Type 0} (all items : List X) (first : X) (others : List X) → 0 < length all → items ≡ all → first ≡ slice_index_or items 0 first → others ≡ remove items 0 → first ∷ others ≡ all
taken_out all items first others some same head rest =
    first_and_rest all first others some (head ∙ ap (λ list. slice_index_or list 0 first) same) (rest ∙ ap (λ list. remove list 0) same)

-- what a change gives comes of something
changed_from : {X Y : Type 0} (f : X → Y) (found : Option X) (y : Y) → option_map f found ≡ Some y → (x : X) × (found ≡ Some x) × (f x ≡ y)
changed_from f None y e = absurd cc
changed_from f (Some x) y e = (x, refl, same_Some (f x) y e)

-- what stands in a list of images is the image of something
image_of : {X Y : Type 0} (f : X → Y) (xs : List X) (i : ℕ) (y : Y) → slice_get (map f xs) i ≡ Some y → (x : X) × (slice_get xs i ≡ Some x) × (f x ≡ y)
image_of f xs i y there = changed_from f (slice_get xs i) y (sym (slice_get-map f xs i) ∙ there)

module _ {C G : Type 0} (react : C → UpItem → Reaction C) (first : C → C) (passes : G → ℕ) (recorder : Recorder C)
    (stints news : List (Stint C)) (gates later : List G) (others back : List (Working C))
    (begun : AreStints recorder others stints)
    (served : HaveWorked (λ old new before now. HasServed react first (passes before) (passes now) old new) stints news gates later)
    (came : CameBack news back) where
  -- a part that came back, and what it was before
  record CameAt (at : ℕ) (new : Working C) : Type 0 where
    pub old : Working C
    pub before : G
    pub now : G
    pub was : slice_get others at ≡ Some old
    pub met : slice_get gates at ≡ Some before
    pub left : slice_get later at ≡ Some now
    pub part : IsPartOf (recorded recorder) new
    pub away : IsAway react first (passes before) (passes now) old new

  came_at : (at : ℕ) (new : Working C) → slice_get back at ≡ Some new → CameAt at new
  came_at at new there =
      let from = image_of (λ (stint : Stint C). stint.part) news at new (ap (λ (list : List (Working C)). slice_get list at) (sym came.same) ∙ there) in
      let stint : Stint C = from.0 in
      let work = worked_at (λ (old new : Stint C) (before now : G). HasServed react first (passes before) (passes now) old new) stints news gates later served at stint from.1 in
      let did = work.did in
      let memory = each_from_all (λ (stint : Stint C). stint.left ≢ Some leave.OutOfMemory) news came.memory at stint from.1 in
      let mine = each_from_all (λ (stint : Stint C). stint.recorder.now ≡ recorder) stints begun.of at work.old work.was in
      record {
        old = work.old.part;
        before = work.partner;
        now = work.later;
        was = ap (λ (list : List (Working C)). slice_get list at) (sym begun.same) ∙ slice_get-map (λ (stint : Stint C). stint.part) stints at ∙ ap (option_map (λ (stint : Stint C). stint.part)) work.was;
        met = work.met;
        left = work.left;
        part = subst (λ (part : Working C). IsPartOf (recorded recorder) part) from.2 (subst (λ (r : Recorder C). IsPartOf (recorded r) stint.part) mine did.part);
        away = subst (λ (part : Working C). IsAway react first (passes work.partner) (passes work.later) work.old.part part) from.2 (record {
          same = did.same;
          why = did.why;
          memory = λ same. memory (did.left ∙ ap Some same);
          cause = did.cause;
        });
      }

  module _ (idle : Working C) (are : AreParts (recorded recorder) (idle ∷ others)) where
    -- as many came back as there were
    as_many : length back ≡ length others
    as_many =
        let counts = worked_lengths (λ (old new : Stint C) (before now : G). HasServed react first (passes before) (passes now) old new) stints news gates later served in
        ap length came.same ∙ length-map news (λ (stint : Stint C). stint.part) ∙ counts.0 ∙ sym (length-map stints (λ (stint : Stint C). stint.part)) ∙ ap length begun.same

    -- all parts are there again, with that of worker 0 in front
    pub parts_again : AreParts (recorded recorder) (idle ∷ back)
    parts_again = record { count = let same = as_many in let were = are.count in omega arith; each = each }
      where
        each : (worker : ℕ) (part : Working C) → slice_get (idle ∷ back) worker ≡ Some part → IsPartOf (recorded recorder) part × (part.worker ≡ worker)
        each zero part there = are.each 0 part there
        each (suc at) part there =
            let its = came_at at part there in
            (its.part, its.away.same.worker ∙ (are.each (suc at) its.old its.was).1)

    -- and the others are away
    pub all_away : AreAway react first passes gates later (idle ∷ others) (idle ∷ back)
    all_away = record {
      count = (worked_lengths (λ (old new : Stint C) (before now : G). HasServed react first (passes before) (passes now) old new) stints news gates later served).1;
      idle = refl;
      each = λ at before now old new here there was is.
          let its = came_at at new (ap (slice_get (idle ∷ back)) (sym (add-one at)) ∙ is) in
          let same_before : its.before ≡ before = same_Some its.before before (sym its.met ∙ here) in
          let same_now : its.now ≡ now = same_Some its.now now (sym its.left ∙ there) in
          let same_old : its.old ≡ old = same_Some its.old old (sym its.was ∙ (ap (slice_get (idle ∷ others)) (sym (add-one at)) ∙ was)) in
          subst (λ (gate : G). IsAway react first (passes gate) (passes now) old new) same_before
          (subst (λ (gate : G). IsAway react first (passes its.before) (passes gate) old new) same_now
          (subst (λ (part : Working C). IsAway react first (passes its.before) (passes its.now) part new) same_old its.away));
    }

-- at each part of a recorder a stint may be served
pub may_serve : {C : Type 0} (recorder : Recorder C) (idle : Working C) (others : List (Working C)) (stints : List (Stint C)) → AreParts (recorded recorder) (idle ∷ others) → AreStints recorder others stints
    → All (λ stint. IsPartOf (recorded stint.recorder.now) stint.part) stints
may_serve {C} recorder idle others stints are begun = all_from_each (λ (stint : Stint C). IsPartOf (recorded stint.recorder.now) stint.part) stints (λ at stint there.
    let mine = each_from_all (λ (stint : Stint C). stint.recorder.now ≡ recorder) stints begun.of at stint there in
    let was : slice_get others at ≡ Some stint.part = ap (λ (list : List (Working C)). slice_get list at) (sym begun.same) ∙ slice_get-map (λ (stint : Stint C). stint.part) stints at ∙ ap (option_map (λ (stint : Stint C). stint.part)) there in
    subst (λ (r : Recorder C). IsPartOf (recorded r) stint.part) (sym mine) (are.each (suc at) stint.part was).0)
