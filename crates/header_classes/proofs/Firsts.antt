-- The trials of a table's entries, in order: the first one that takes a packet is that of the best entry.
use Rattle.std.proofs.Common.{◌≡◌, ◌∙◌, ◌+◌, ◌<◌, ◌++◌, ◌&&◌, ◌↔◌, ℕ, zero, suc, Bool, true, false, IsTrue, List, [], ◌∷◌, length, map, drop, take, get_or, slice_get, Option, Some, None, IfSome, unwrap_or, inl, inr, refl, sym, ap, subst, arith}
use Rattle.std.proofs.lemmas.Bool.{cases_lt}
use Rattle.std.proofs.lemmas.List.{get_or_default, map_more, map_push}
use Rattle.std.proofs.lemmas.List.Elements.{All-get_or}
use Rattle.std.specs.declared.cmp.Reverse.{Reverse}
use Rattle.of10_match.specs.Header.{IsValidHeader}
use Rattle.of10_match.specs.Match.{Takes, takes}
use Rattle.of10_match.specs.declared.header.Header.{Header}
use Rattle.of10_match.specs.declared.matches.Match.{Match}
use Rattle.flow_table.specs.Best.{IsBest, best_place}
use Rattle.flow_table.specs.declared.entry.Entry.{Entry}
use Rattle.header_classes.specs.Cell.{fields, in_cell}
use Rattle.header_classes.specs.Trials.{AreTrials, IsTrialOf, tried}
use Rattle.header_classes.specs.declared.trials.Trial.{Trial}
use Rattle.header_classes.specs.declared.trials.Trials.{Trials}
use Rattle.header_classes.specs.Interval.{within}
use Rattle.header_classes.specs.declared.interval.Interval.{Interval}
use Rattle.header_classes.proofs.Boxes.{inside_at, outside}
use Rattle.header_classes.proofs.Classes.{Misses, first_best, none_best}
use Rattle.header_classes.proofs.Cuts.{field_fits}

-- none of the first n trials takes the packet
abbrev pub AreMissed : ℕ → Header → List Trial → ℕ → Type 0
AreMissed port h trials n = (k : ℕ) (d : Trial) → k < n → k < length trials → tried port h (get_or trials k d) ≡ false

-- one trial more that does not take it
pub missed_more : (port : ℕ) (h : Header) (trials : List Trial) (n : ℕ) (trial : Trial) → n < length trials → trial ≡ get_or trials n trial → tried port h trial ≡ false
    → AreMissed port h trials n → AreMissed port h trials (n + 1)
missed_more port h trials n trial within is misses before = λ k d below inside. elim (cases_lt k n) [
  | inl low ↦ before k d low inside
  | inr high ↦
      let at : n ≡ k = omega arith in
      let same : trial ≡ get_or trials n d = is ∙ get_or_default trials n trial d within in
      subst (λ (j : ℕ). tried port h (get_or trials j d) ≡ false) at (subst (λ (t : Trial). tried port h t ≡ false) same misses)
]

-- a place before the first trial that takes a packet, or before the end where none does
pub before_first : (first : Option ℕ) (n at : ℕ) → IfSome first (λ k. k < n) → at < unwrap_or first n → at < n
before_first None n at within less = less
before_first (Some k) n at within less = omega (arith, within, less)

-- one trial more is listed
pub places_more : (trials : List Trial) (trial : Trial) (order : List (Reverse ℕ × ℕ)) (n : ℕ) (r : Reverse ℕ × ℕ) → n < length order → trial.place ≡ (get_or order n r).1
    → map (λ (t : Trial). t.place) trials ≡ map (λ (ranked : Reverse ℕ × ℕ). ranked.1) (take n order)
    → map (λ (t : Trial). t.place) (trials ++ trial ∷ []) ≡ map (λ (ranked : Reverse ℕ × ℕ). ranked.1) (take (n + 1) order)
places_more trials trial order n r within is so_far =
    map_push (λ (t : Trial). t.place) trials trial
    ∙ ap (λ (places : List ℕ). places ++ trial.place ∷ []) so_far
    ∙ ap (λ (place : ℕ). map (λ (ranked : Reverse ℕ × ℕ). ranked.1) (take n order) ++ place ∷ []) is
    ∙ sym (map_more (λ (ranked : Reverse ℕ × ℕ). ranked.1) order n r within)

-- a field tells two cells apart
pub apart_at : (one other : List Interval) (h : Header) (at : ℕ) (a b : Interval) → slice_get one at ≡ Some a → slice_get other at ≡ Some b → at < 11
    → ((x : ℕ) → (within a x && within b x) ≡ false) → in_cell one h ≡ true → in_cell other h ≡ false
apart_at one other h at a b here there fits none inside =
    let x = get_or (fields h) at 0 in
    let mine : within a x ≡ true = inside_at one (fields h) at a here (field_fits h at fits) inside in
    let out : within b x ≡ false = subst (λ (t : Bool). (t && within b x) ≡ false) mine (none x) in
    outside other (fields h) at b there (field_fits h at fits) out

-- two lists with one image have one length, and one image at each place
same_long : {A B C : Type 0} (f : A → C) (g : B → C) (xs : List A) (ys : List B) → map f xs ≡ map g ys → length xs ≡ length ys
same_long f g [] [] e = refl
same_long f g [] (y ∷ ys) e = absurd cc
same_long f g (x ∷ xs) [] e = absurd cc
same_long f g (x ∷ xs) (y ∷ ys) e = let rest = same_long f g xs ys (ap (drop 1) e) in omega (arith, rest)

same_at : {A B C : Type 0} (f : A → C) (g : B → C) (xs : List A) (ys : List B) (k : ℕ) (d : A) (b : B) → map f xs ≡ map g ys → k < length xs → f (get_or xs k d) ≡ g (get_or ys k b)
same_at f g [] ys k d b e within = absurd (omega arith)
same_at f g (x ∷ xs) [] k d b e within = absurd cc
same_at f g (x ∷ xs) (y ∷ ys) zero d b e within = cc
same_at f g (x ∷ xs) (y ∷ ys) (suc k) d b e within = same_at f g xs ys k d b (ap (drop 1) e) (let less : k < length xs = omega arith in less)

module _ (entries : List Entry) (trials : Trials) (port : ℕ) (h : Header) (are : AreTrials entries trials) (valid : IsValidHeader h)
    (meaning : (m : Match) (p : ℕ) (g : Header) → IsTrue (takes m p g) ↔ Takes m p g) where
  abbrev pub items : List Trial
  items = trials.trials.items

  -- the place of a trial
  place_at : (k : ℕ) (d : Trial) (r : Reverse ℕ × ℕ) → k < length items → (get_or items k d).place ≡ (get_or are.order k r).1
  place_at k d r within = same_at (λ (t : Trial). t.place) (λ (ranked : Reverse ℕ × ℕ). ranked.1) items are.order k d r are.places within

  -- as many trials as entries in the order
  long : length items ≡ length are.order
  long = same_long (λ (t : Trial). t.place) (λ (ranked : Reverse ℕ × ℕ). ranked.1) items are.order are.places

  -- no trial takes the packet, so no entry does
  entries_missed : (n : ℕ) (d : Trial) → AreMissed port h items n → Misses entries port h are.order n
  entries_missed n d missed k r e below within here =
      let inside : k < length items = (let l = long in omega (arith, l, within)) in
      let mine : IsTrialOf entries (get_or items k d) = All-get_or (IsTrialOf entries) items k d inside are.each in
      let place = place_at k d r inside in
      let same : Some mine.entry ≡ Some e = sym mine.here ∙ ap (slice_get entries) place ∙ here in
      let one : mine.entry ≡ e = cc in
      subst (λ (x : Entry). takes x.matches port h ≡ false) one (mine.takes port h valid ∙ missed k d below inside)

  -- the first trial that takes the packet is that of the best entry
  pub first_tried : (n : ℕ) (trial : Trial) → ((place : ℕ) (entry : Entry) → IsBest entries port h place entry → best_place entries port h ≡ Some place)
      → n < length items → trial ≡ get_or items n trial → AreMissed port h items n → tried port h trial ≡ true → best_place entries port h ≡ Some trial.place
  first_tried n trial only within is missed passes =
      let r : Reverse ℕ × ℕ = (record { 0 = 0 }, 0) in
      let mine : IsTrialOf entries (get_or items n trial) = All-get_or (IsTrialOf entries) items n trial within are.each in
      let place = place_at n trial r within in
      let inside : n < length are.order = (let l = long in omega (arith, l, within)) in
      let here : slice_get entries (get_or are.order n r).1 ≡ Some mine.entry = sym (ap (slice_get entries) place) ∙ mine.here in
      let passed : takes mine.entry.matches port h ≡ true = mine.takes port h valid ∙ subst (λ (t : Trial). tried port h t ≡ true) is passes in
      first_best entries are.order port h are.is_order meaning n mine.entry r only inside (entries_missed n trial missed) here passed
      ∙ ap Some (sym place) ∙ ap (λ (t : Trial). Some t.place) (sym is)

  -- where none takes it, there is no best entry
  pub none_tried : (n : ℕ) → ((place : ℕ) → best_place entries port h ≡ Some place → (entry : Entry) × IsBest entries port h place entry)
      → length items ≡ n → AreMissed port h items n → best_place entries port h ≡ None
  none_tried n best all missed = by_items items refl where
    by_items : (ts : List Trial) → items ≡ ts → best_place entries port h ≡ None
    by_items [] is =
        let l : length are.order ≡ 0 = (let e = ap length is in let k = long in omega (arith, e, k)) in
        none_best entries are.order port h are.is_order meaning best (λ k r e below within here. absurd (omega (arith, l, within)))
    by_items (t ∷ ts) is =
        let l : n ≡ length are.order = (let k = long in omega (arith, k, all)) in
        none_best entries are.order port h are.is_order meaning best (subst (Misses entries port h are.order) l (entries_missed n t missed))
