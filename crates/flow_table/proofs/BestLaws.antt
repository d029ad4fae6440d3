-- The entry that leads among the first entries of a list, and that the one that leads among all is the best.
use Rattle.std.proofs.Common.{◌≡◌, ◌∙◌, ◌+◌, ◌<◌, ◌≤◌, ◌||◌, ◌↔◌, ℕ, IsTrue, zero, suc, Bool, true, false, List, [], ◌∷◌, length, slice_get, Option, Some, None, nat_lt, nat_le, not, inl, inr, refl, sym, ap, subst, arith}
use Rattle.std.specs.List.{position_or_len, list_all}
use Rattle.std.specs.Option.{option_map_or}
use Rattle.std.proofs.lemmas.Bool.{and_from, and_left, and_right, cases_lt, cases_Bool, le-leb, lt-leb, lt-ltb, le-ltb, ltb-true, ltb-false}
use Rattle.std.proofs.lemmas.Option.{slice_get_within}
use Rattle.of10_match.specs.Match.{Takes}
use Rattle.of10_match.specs.declared.header.Header.{Header}
use Rattle.flow_table.specs.Best.{IsBest, TakesAt, best_place, has_greatest_rank}
use Rattle.flow_table.specs.Entry.{rank, takes_packet}
use Rattle.flow_table.specs.declared.entry.Entry.{Entry}

-- ---- first places

-- the first place of an element that passes a test
first_at : {X : Type 0} (p : X → Bool) (xs : List X) (n : ℕ) (x : X) → slice_get xs n ≡ Some x → p x ≡ true
    → ((k : ℕ) (y : X) → k < n → slice_get xs k ≡ Some y → p y ≡ false) → position_or_len p xs ≡ n
first_at p [] n x here passes earlier = absurd cc
first_at p (y ∷ ys) zero x here passes earlier =
    let same : y ≡ x = cc in
    let fits : p y ≡ true = ap p same ∙ passes in
    rw fits refl
first_at p (y ∷ ys) (suc n) x here passes earlier =
    let misses : p y ≡ false = earlier 0 y (omega arith) refl in
    let rest : position_or_len p ys ≡ n = first_at p ys n x here passes (λ k z below there. earlier (suc k) z (omega arith) there) in
    rw misses (omega (arith, rest))

-- no element passes a test
nowhere : {X : Type 0} (p : X → Bool) (xs : List X) → ((k : ℕ) (y : X) → slice_get xs k ≡ Some y → p y ≡ false) → position_or_len p xs ≡ length xs
nowhere p [] none = refl
nowhere p (y ∷ ys) none =
    let misses : p y ≡ false = none 0 y refl in
    let rest : position_or_len p ys ≡ length ys = nowhere p ys (λ k z there. none (suc k) z there) in
    rw misses (omega (arith, rest))

-- where each element passes, all do
all_pass : {X : Type 0} (p : X → Bool) (xs : List X) → ((k : ℕ) (y : X) → slice_get xs k ≡ Some y → p y ≡ true) → list_all p xs ≡ true
all_pass p [] each = refl
all_pass p (y ∷ ys) each = and_from (p y) (list_all p ys) (each 0 y refl) (all_pass p ys (λ k z there. each (suc k) z there))

-- where one element fails, not all pass
one_fails : {X : Type 0} (p : X → Bool) (xs : List X) (n : ℕ) (x : X) → slice_get xs n ≡ Some x → p x ≡ false → list_all p xs ≡ false
one_fails p [] n x here fails = absurd cc
one_fails p (y ∷ ys) zero x here fails = and_left (p y) (list_all p ys) (let same : y ≡ x = cc in ap p same ∙ fails)
one_fails p (y ∷ ys) (suc n) x here fails = and_right (p y) (list_all p ys) (one_fails p ys n x here fails)

-- below the length there is an element
there_is : {X : Type 0} (xs : List X) (n : ℕ) → n < length xs → (x : X) × (slice_get xs n ≡ Some x)
there_is [] n within = absurd (omega arith)
there_is (x ∷ xs) zero within = (x, refl)
there_is (x ∷ xs) (suc n) within = there_is xs n (omega arith)

-- ---- leading entries

module _ (entries : List Entry) (port : ℕ) (header : Header) where
  -- Of the first n entries that take the packet, the one at a place has the greatest rank, and those before it have a smaller one.
  pub record Champion (n place : ℕ) (entry : Entry) : Type 0 where
    pub within : place < n
    pub here : slice_get entries place ≡ Some entry
    pub takes : takes_packet port header entry ≡ true
    pub above : (k : ℕ) (other : Entry) → k < n → slice_get entries k ≡ Some other → takes_packet port header other ≡ true → rank other ≤ rank entry
    pub earlier : (k : ℕ) (other : Entry) → k < place → slice_get entries k ≡ Some other → takes_packet port header other ≡ true → rank other < rank entry

  -- none of the first n entries takes the packet, or a place and its rank are those of the leading one
  abbrev pub Leads : ℕ → Option (ℕ × ℕ) → Type 0
  Leads n None = (k : ℕ) (other : Entry) → k < n → slice_get entries k ≡ Some other → takes_packet port header other ≡ false
  Leads n (Some best) = (entry : Entry) × (rank entry ≡ best.1) × Champion n best.0 entry

  -- at first none takes it
  pub leads_none : Leads 0 None
  leads_none = λ k other below there. absurd (omega arith)

  -- an entry that does not take the packet leaves the lead as it is
  pub passed : (n : ℕ) (best : Option (ℕ × ℕ)) (e : Entry) → slice_get entries n ≡ Some e → takes_packet port header e ≡ false → Leads n best → Leads (n + 1) best
  passed n None e there misses leads = λ k other below here. elim (cases_lt k n) [
    | inl low ↦ leads k other low here
    | inr high ↦ let at : k ≡ n = omega arith in let same : other ≡ e = cc in ap (takes_packet port header) same ∙ misses
  ]
  passed n (Some best) e there misses leads =
      let champion = leads.2 in (
        leads.0,
        leads.1,
        record {
          within = omega (arith, champion.within);
          here = champion.here;
          takes = champion.takes;
          above = λ k other below here takes. elim (cases_lt k n) [
            | inl low ↦ champion.above k other low here takes
            | inr high ↦ let at : k ≡ n = omega arith in let same : other ≡ e = cc in let both : true ≡ false = sym takes ∙ ap (takes_packet port header) same ∙ misses in absurd (cc both)
          ];
          earlier = champion.earlier;
        },
      )

  -- an entry whose rank is not greater leaves the lead as it is
  kept : (n : ℕ) (best : ℕ × ℕ) (e : Entry) → slice_get entries n ≡ Some e → rank e ≤ best.1 → Leads n (Some best) → Leads (n + 1) (Some best)
  kept n best e there low_rank leads =
      let champion = leads.2 in (
        leads.0,
        leads.1,
        record {
          within = omega (arith, champion.within);
          here = champion.here;
          takes = champion.takes;
          above = λ k other below here takes. elim (cases_lt k n) [
            | inl low ↦ champion.above k other low here takes
            | inr high ↦ let at : k ≡ n = omega arith in let same : other ≡ e = cc in subst (λ (x : Entry). rank x ≤ rank leads.0) (sym same) (omega (arith, leads.1))
          ];
          earlier = champion.earlier;
        },
      )

  -- an entry of greater rank takes the lead
  pub taken_over : (n : ℕ) (best : Option (ℕ × ℕ)) (e : Entry) → slice_get entries n ≡ Some e → takes_packet port header e ≡ true
      → option_map_or (λ (ranked : ℕ × ℕ). nat_lt ranked.1 (rank e)) best true ≡ true → Leads n best → Leads (n + 1) (Some (n, rank e))
  taken_over n None e there fits over leads = (
    e,
    refl,
    record {
      within = omega arith;
      here = there;
      takes = fits;
      above = λ k other below here takes. elim (cases_lt k n) [
        | inl low ↦ let both : true ≡ false = sym takes ∙ leads k other low here in absurd (cc both)
        | inr high ↦ let at : k ≡ n = omega arith in let same : other ≡ e = cc in subst (λ (x : Entry). rank x ≤ rank e) (sym same) (omega arith)
      ];
      earlier = λ k other low here takes. let both : true ≡ false = sym takes ∙ leads k other low here in absurd (cc both);
    },
  )
  taken_over n (Some best) e there fits over leads =
      let champion = leads.2 in
      let greater : best.1 < rank e = ltb-true best.1 (rank e) over in
      let smaller : (k : ℕ) (other : Entry) → k < n → slice_get entries k ≡ Some other → takes_packet port header other ≡ true → rank other < rank e =
      λ k other low here takes. let h = champion.above k other low here takes in omega (arith, h, greater, leads.1) in (
        e,
        refl,
        record {
          within = omega arith;
          here = there;
          takes = fits;
          above = λ k other below here takes. elim (cases_lt k n) [
            | inl low ↦ let h = smaller k other low here takes in omega (arith, h)
            | inr high ↦ let at : k ≡ n = omega arith in let same : other ≡ e = cc in subst (λ (x : Entry). rank x ≤ rank e) (sym same) (omega arith)
          ];
          earlier = smaller;
        },
      )

  -- where no entry so far leads, one more is over all of them
  over_all : (best : Option (ℕ × ℕ)) (greatest : ℕ) → option_map_or (λ (ranked : ℕ × ℕ). nat_lt ranked.1 greatest) best true ≡ false
      → (top : ℕ × ℕ) × (best ≡ Some top) × (greatest ≤ top.1)
  over_all None greatest test = absurd (cc test)
  over_all (Some top) greatest test = (top, refl, ltb-false top.1 greatest test)

  -- an entry that is not over the leading one leaves the lead as it is
  pub not_over : (n : ℕ) (best : Option (ℕ × ℕ)) (e : Entry) → slice_get entries n ≡ Some e
      → option_map_or (λ (ranked : ℕ × ℕ). nat_lt ranked.1 (rank e)) best true ≡ false → Leads n best → Leads (n + 1) best
  not_over n best e there test leads =
      let top = over_all best (rank e) test in
      subst (Leads (n + 1)) (sym top.1) (kept n top.0 e there top.2 (subst (Leads n) top.1 leads))

  -- ---- the best entry

  -- the test of one entry
  first_rank_is : (place : ℕ) (entry : Entry) → Champion (length entries) place entry → has_greatest_rank entries port header entry ≡ true
  first_rank_is place entry champion =
      and_from (takes_packet port header entry) (list_all (λ other. not (takes_packet port header other) || nat_le (rank other) (rank entry)) entries) champion.takes
      (all_pass (λ other. not (takes_packet port header other) || nat_le (rank other) (rank entry)) entries (λ k other there. elim (cases_Bool (takes_packet port header other)) [
        | inl fits ↦ rw fits (le-leb (rank other) (rank entry) (champion.above k other (slice_get_within entries k other there) there fits))
        | inr misses ↦ rw misses refl
      ]))

  -- the test of the entries before it
  not_first_rank : (place : ℕ) (entry : Entry) → Champion (length entries) place entry
      → (k : ℕ) (other : Entry) → k < place → slice_get entries k ≡ Some other → has_greatest_rank entries port header other ≡ false
  not_first_rank place entry champion k other below there =
      let test = λ (e : Entry). not (takes_packet port header e) || nat_le (rank e) (rank other) in
      elim (cases_Bool (takes_packet port header other)) [
        | inl fits ↦
            let greater : rank other < rank entry = champion.earlier k other below there fits in
            let fails : test entry ≡ false = rw champion.takes (lt-leb (rank entry) (rank other) greater) in
            and_right (takes_packet port header other) (list_all test entries) (one_fails test entries place entry champion.here fails)
        | inr misses ↦ and_left (takes_packet port header other) (list_all test entries) misses
      ]

  -- the place of a leading entry, or none
  abbrev pub lead_place : Option (ℕ × ℕ) → Option ℕ
  lead_place None = None
  lead_place (Some best) = Some best.0

  -- what leads among all entries is the best
  pub best_is : (best : Option (ℕ × ℕ)) → Leads (length entries) best → best_place entries port header ≡ lead_place best
  best_is None leads =
      let past = nowhere (has_greatest_rank entries port header) entries (λ k other there.
      and_left (takes_packet port header other) (list_all (λ e. not (takes_packet port header e) || nat_le (rank e) (rank other)) entries)
      (leads k other (slice_get_within entries k other there) there)) in
      let test : nat_lt (position_or_len (has_greatest_rank entries port header) entries) (length entries) ≡ false = le-ltb _ _ (omega (arith, past)) in
      rw test refl
  best_is (Some best) leads =
      let champion = leads.2 in
      let first = first_at (has_greatest_rank entries port header) entries best.0 leads.0 champion.here (first_rank_is best.0 leads.0 champion) (not_first_rank best.0 leads.0 champion) in
      let test : nat_lt (position_or_len (has_greatest_rank entries port header) entries) (length entries) ≡ true = lt-ltb _ _ (omega (arith, first, champion.within)) in
      rw (test, first) refl

  -- among the first entries some entry leads, or none takes the packet
  lead_of : (n : ℕ) → n ≤ length entries → (best : Option (ℕ × ℕ)) × Leads n best
  lead_of zero within = (None, leads_none)
  lead_of (suc n) within =
      let so_far = lead_of n (omega arith) in
      let there = there_is entries n (omega arith) in
      let e = there.0 in
      let best = so_far.0 in
      let goal : ℕ → Type 0 = λ k. (next : Option (ℕ × ℕ)) × Leads k next in
      let step : goal (n + 1) = elim (cases_Bool (option_map_or (λ (ranked : ℕ × ℕ). nat_lt ranked.1 (rank e)) best true)) [
        | inl over ↦ elim (cases_Bool (takes_packet port header e)) [
          | inl takes ↦ (Some (n, rank e), taken_over n best e there.1 takes over so_far.1)
          | inr passes ↦ (best, passed n best e there.1 passes so_far.1)
        ]
        | inr below ↦ (best, not_over n best e there.1 below so_far.1)
      ] in
      subst goal (omega arith) step

  -- the entry that leads takes the packet, and none beats it
  pub is_best : (place : ℕ) (entry : Entry) → ((e : Entry) → IsTrue (takes_packet port header e) ↔ Takes e.matches port header)
      → Champion (length entries) place entry → IsBest entries port header place entry
  is_best place entry meaning champion = record {
    takes = record { here = champion.here; takes = (meaning entry).0 champion.takes };
    unbeaten = λ k other takes beats.
        let passes : takes_packet port header other ≡ true = (meaning other).1 takes.takes in
        elim beats [
          | inl greater ↦
              let most = champion.above k other (slice_get_within entries k other takes.here) takes.here passes in
              absurd (omega (arith, most, greater))
          | inr before ↦
              let less = champion.earlier k other before.1 takes.here passes in
              absurd (omega (arith, less, before.0))
        ];
  }

  -- an entry that takes the packet and that none beats leads
  pub leads_best : (place : ℕ) (entry : Entry) → ((e : Entry) → IsTrue (takes_packet port header e) ↔ Takes e.matches port header)
      → IsBest entries port header place entry → Champion (length entries) place entry
  leads_best place entry meaning best = record {
    within = slice_get_within entries place entry best.takes.here;
    here = best.takes.here;
    takes = (meaning entry).1 best.takes.takes;
    above = λ k other below there passes. elim (cases_lt (rank entry) (rank other)) [
      | inl greater ↦ absurd (best.unbeaten k other (record { here = there; takes = (meaning other).0 passes }) (inl greater))
      | inr most ↦ most
    ];
    earlier = λ k other below there passes. elim (cases_lt (rank other) (rank entry)) [
      | inl less ↦ less
      | inr most ↦
          let takes : TakesAt entries port header k other = record { here = there; takes = (meaning other).0 passes } in
          elim (cases_lt (rank entry) (rank other)) [
            | inl greater ↦ absurd (best.unbeaten k other takes (inl greater))
            | inr least ↦ absurd (best.unbeaten k other takes (inr (omega arith, below)))
          ]
    ];
  }

  -- where the best entry stands, and that it leads
  pub found : (place : ℕ) → best_place entries port header ≡ Some place → (entry : Entry) × Champion (length entries) place entry
  found place is = by_lead (lead_of (length entries) (omega arith)) where
    by_lead : (best : Option (ℕ × ℕ)) × Leads (length entries) best → (entry : Entry) × Champion (length entries) place entry
    by_lead (None, leads) = absurd (let none = best_is None leads in let both : Some place ≡ None = sym is ∙ none in cc both)
    by_lead (Some best, leads) =
        let some = best_is (Some best) leads in
        let both : Some best.0 ≡ Some place = sym some ∙ is in
        let at : best.0 ≡ place = cc both in
        (leads.0, subst (λ (k : ℕ). Champion (length entries) k leads.0) at leads.2)

  -- where there is no best entry, none takes the packet
  pub none_takes : best_place entries port header ≡ None → (k : ℕ) (other : Entry) → slice_get entries k ≡ Some other → takes_packet port header other ≡ false
  none_takes is k other there = by_lead (lead_of (length entries) (omega arith)) where
    by_lead : (best : Option (ℕ × ℕ)) × Leads (length entries) best → takes_packet port header other ≡ false
    by_lead (None, leads) = leads k other (slice_get_within entries k other there) there
    by_lead (Some best, leads) = absurd (let some = best_is (Some best) leads in let both : Some best.0 ≡ None = sym some ∙ is in cc both)
