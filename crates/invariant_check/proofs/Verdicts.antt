-- What is violated, and that there is one verdict.
use Rattle.std.proofs.Common.{◌≡◌, ◌⊎◌, ◌∙◌, ◌<◌, ◌++◌, ℕ, zero, suc, true, false, List, [], ◌∷◌, Option, Some, None, Result, Ok, Err, IfOk, IfSome, get_or, length, slice_get, take, inl, inr, refl, sym, ap, subst, arith}
use Rattle.std.proofs.lemmas.Bool.{cases_lt, eq-eqb, le-ltb, lt-ltb}
use Rattle.std.proofs.lemmas.Option.{slice_get-get_or}
use Rattle.std.specs.Cmp.{IsTotalOrder}
use Rattle.std.specs.List.{AllZip}
use Rattle.std.specs.declared.alloc.AllocError.{AllocError}
use Rattle.std.specs.declared.cmp.Ordering.{Ordering}
use Rattle.std.specs.declared.cmp.Ordering.TheVariants.{Equal, Greater, Less}
use Rattle.of10_match.specs.Header.{IsValidHeader, header_cmp}
use Rattle.of10_match.specs.declared.header.Header.{Header}
use Rattle.topology.specs.Status.{is_up}
use Rattle.topology.specs.declared.invariant.Invariant.{Invariant}
use Rattle.event_world.specs.declared.net_state.NetState.{NetState}
use Rattle.header_classes.specs.Cell.{in_cell}
use Rattle.header_classes.specs.declared.interval.Interval.{Interval}
use Rattle.invariant_check.specs.Verdict.{IsFirstWalk, IsFree, IsLess, IsStart, IsVerdict, Keeps, SpeaksOf}
use Rattle.invariant_check.specs.Walk.{IsWalk, comes_before}
use Rattle.invariant_check.specs.declared.least.Witness.{Witness}
use Rattle.invariant_check.specs.declared.walk.Finish.{Finish}
use Rattle.invariant_check.specs.declared.walk.Node.{Node}
use Rattle.invariant_check.specs.declared.walk.Verdict.{Verdict}
use Rattle.invariant_check.specs.declared.walk.Verdict.TheVariants.{Holds, Violated}
use Rattle.invariant_check.specs.declared.walk.Walk.{Walk}
use Rattle.invariant_check.proofs.OneWalk.{walk_one}
use Rattle.invariant_check.proofs.Walks.{same_node}

-- ---- one host

-- the place of a host
pub place_here : (xs places : List (ℕ × ℕ)) (at host : ℕ) → xs ≡ places → at ≡ host → host < length places → slice_get places host ≡ Some (get_or xs at (0, 0))
place_here xs places at host same is fits = rw (same, is) (slice_get-get_or places host (0, 0) fits)

-- a host keeps an invariant with a header where the packets of which the invariant speaks are free from its place
pub keeps_at : (net : NetState) (invariant : Invariant) (host : ℕ) (place : ℕ × ℕ) → slice_get net.status.place host ≡ Some place → (h : Header)
    → (IsValidHeader h → SpeaksOf invariant host place.1 h → IsFree net invariant (record { s = place.0; p = place.1; header = h })) → Keeps net invariant host h
keeps_at net invariant host place here h free = λ from start.
    let there : ℕ × ℕ = (from.s, from.p) in
    let same : there ≡ place = cc (here, start.place) in
    let node : from ≡ record { s = place.0; p = place.1; header = h } = same_node from record { s = place.0; p = place.1; header = h } (ap (λ (x : ℕ × ℕ). x.0) same) (ap (λ (x : ℕ × ℕ). x.1) same) start.header_is in
    let speaks : SpeaksOf invariant host place.1 h = subst (λ (p : ℕ). SpeaksOf invariant host p h) (ap (λ (x : ℕ × ℕ). x.1) same) start.speaks in
    subst (IsFree net invariant) (sym node) (free start.valid speaks)

-- the cell of the headers of which an invariant speaks, from a host
abbrev pub IsSpokenOf : Invariant → ℕ → ℕ → List Interval → Type 0
IsSpokenOf invariant host p cell = (h : Header)
    → (in_cell cell h ≡ true → IsValidHeader h × SpeaksOf invariant host p h) × (IsValidHeader h × SpeaksOf invariant host p h → in_cell cell h ≡ true)

-- a witness among them starts from the place of the host
pub witness_starts : (net : NetState) (invariant : Invariant) (host : ℕ) (place : ℕ × ℕ) (cell : List Interval) → slice_get net.status.place host ≡ Some place
    → is_up net.status.switch_up place.0 ≡ true → IsSpokenOf invariant host place.1 cell → (r : Result (Option Witness) AllocError)
    → IfOk r (λ found. IfSome found (λ witness. in_cell cell witness.header ≡ true))
    → IfOk r (λ found. IfSome found (λ witness. IsFirstWalk net invariant (record { s = place.0; p = place.1; header = witness.header }) witness.walk.nodes witness.walk.finish))
    → IfOk r (λ found. IfSome found (λ witness. (from : Node) × IsStart net invariant host witness.header from × IsFirstWalk net invariant from witness.walk.nodes witness.walk.finish))
witness_starts net invariant host place cell here up spoken (Err e) inside first = tt
witness_starts net invariant host place cell here up spoken (Ok None) inside first = tt
witness_starts net invariant host place cell here up spoken (Ok (Some witness)) inside first =
    let both = (spoken witness.header).0 inside in
    (record { s = place.0; p = place.1; header = witness.header }, record { place = here; header_is = refl; up = up; valid = both.0; speaks = both.1 }, first)

-- no lesser header violates the invariant
pub lesser_keep : (net : NetState) (invariant : Invariant) (host : ℕ) (place : ℕ × ℕ) (cell : List Interval) → slice_get net.status.place host ≡ Some place
    → IsSpokenOf invariant host place.1 cell → (r : Result (Option Witness) AllocError)
    → IfOk r (λ found. IfSome found (λ witness. (h : Header) → in_cell cell h ≡ true → header_cmp h witness.header ≡ Less
    → IsFree net invariant (record { s = place.0; p = place.1; header = h })))
    → IfOk r (λ found. IfSome found (λ witness. (h : Header) → header_cmp h witness.header ≡ Less → Keeps net invariant host h))
lesser_keep net invariant host place cell here spoken (Err e) least = tt
lesser_keep net invariant host place cell here spoken (Ok None) least = tt
lesser_keep net invariant host place cell here spoken (Ok (Some witness)) least = λ h less.
    keeps_at net invariant host place here h (λ valid speaks. least h ((spoken h).1 (valid, speaks)) less)

-- ---- one verdict

-- of two lists of places one comes before the other, or they are one
places_one : (xs ys : List ℕ) → comes_before xs ys ≡ false → comes_before ys xs ≡ false → xs ≡ ys
places_one [] [] one two = refl
places_one [] (y ∷ ys) one two = absurd (cc one)
places_one (x ∷ xs) [] one two = absurd (cc two)
places_one (x ∷ xs) (y ∷ ys) one two = elim (cases_lt x y) [
  | inl less ↦ absurd (let both = rw (lt-ltb x y less) at one in cc both)
  | inr most ↦ elim (cases_lt y x) [
    | inl less ↦ absurd (let both = rw (lt-ltb y x less) at two in cc both)
    | inr least ↦
        let same : x ≡ y = omega (arith, most, least) in
        let here : y ≡ x = sym same in
        let before = rw (le-ltb x y most, eq-eqb x y same) at one in
        let after = rw (le-ltb y x least, eq-eqb y x here) at two in
        let rest : xs ≡ ys = places_one xs ys before after in
        cc (same, rest)
  ]
]

-- two first walks from a node are one
first_one : (net : NetState) (invariant : Invariant) (from : Node) (xs ys : List Node) (f g : Finish) → IsFirstWalk net invariant from xs f → IsFirstWalk net invariant from ys g
    → (xs ≡ ys) × (f ≡ g)
first_one net invariant from xs ys f g one two =
    let places : one.places ≡ two.places = places_one one.places two.places (two.first xs f one.places one.walk) (one.first ys g two.places two.walk) in
    walk_one net from xs ys f g two.places one.walk.begins two.walk.begins (subst (IsWalk net xs f) places one.walk.walk) two.walk.walk

-- hosts that are the same
same_host : IsTotalOrder header_cmp → ((a b : Header) → header_cmp a b ≡ Equal → a ≡ b) → (i : ℕ) (a : Header) (j : ℕ) (b : Header) → i ≡ j
    → (o : Ordering) → header_cmp a b ≡ o → IsLess i a j b ⊎ (IsLess j b i a ⊎ ((i ≡ j) × (a ≡ b)))
same_host total one i a j b same Less is = inl (inr (same, is))
same_host total one i a j b same Equal is = inr (inr (same, one a b is))
same_host total one i a j b same Greater is =
    let turned : header_cmp b a ≡ Less = (let whole = total.antisymm b a in rw is at whole) in
    inr (inl (inr (sym same, turned)))

-- a host and a header come before others, or after them, or are the same
compared : IsTotalOrder header_cmp → ((a b : Header) → header_cmp a b ≡ Equal → a ≡ b) → (i : ℕ) (a : Header) (j : ℕ) (b : Header)
    → IsLess i a j b ⊎ (IsLess j b i a ⊎ ((i ≡ j) × (a ≡ b)))
compared total one i a j b = elim (cases_lt i j) [
  | inl less ↦ inl (inl less)
  | inr most ↦ elim (cases_lt j i) [
    | inl less ↦ inr (inl (inl less))
    | inr least ↦ same_host total one i a j b (omega (arith, most, least)) (header_cmp a b) refl
  ]
]

-- a verdict that is violated has a walk that its invariant forbids from a start
violated_one : (net : NetState) (invariant : Invariant) (i : ℕ) (a : Header) (v : Walk) (j : ℕ) (b : Header) (w : Walk) → i ≡ j → a ≡ b
    → (from : Node) → IsStart net invariant i a from → IsFirstWalk net invariant from v.nodes v.finish
    → (other : Node) → IsStart net invariant j b other → IsFirstWalk net invariant other w.nodes w.finish
    → Violated i a v ≡ Violated j b w
violated_one net invariant i a v j b w host header from start first other start_too first_too =
    let places : slice_get net.status.place i ≡ slice_get net.status.place j = ap (slice_get net.status.place) host in
    let here : ℕ × ℕ = (from.s, from.p) in
    let there : ℕ × ℕ = (other.s, other.p) in
    let place : here ≡ there = cc (places, start.place, start_too.place) in
    let h : from.header ≡ other.header = cc (header, start.header_is, start_too.header_is) in
    let node : from ≡ other = same_node from other (ap (λ (x : ℕ × ℕ). x.0) place) (ap (λ (x : ℕ × ℕ). x.1) place) h in
    let walks = first_one net invariant other v.nodes w.nodes v.finish w.finish (subst (λ (n : Node). IsFirstWalk net invariant n v.nodes v.finish) node first) first_too in
    let of : List Node → Finish → Walk = λ nodes finish. record { nodes = nodes; finish = finish } in
    let walk : v ≡ w = ap (λ (nodes : List Node). of nodes v.finish) walks.0 ∙ ap (λ (finish : Finish). of w.nodes finish) walks.1 in
    ap (λ (x : ℕ). Violated x a v) host ∙ ap (λ (x : Header). Violated j x v) header ∙ ap (λ (x : Walk). Violated j b x) walk

pub verdict_one : IsTotalOrder header_cmp → ((a b : Header) → header_cmp a b ≡ Equal → a ≡ b) → (net : NetState) (invariant : Invariant) (one other : Verdict)
    → IsVerdict net invariant one → IsVerdict net invariant other → one ≡ other
verdict_one total same net invariant Holds Holds one two = refl
verdict_one total same net invariant Holds (Violated j b w) one two = absurd (one j b two.0.0 two.0.1 w.nodes w.finish two.0.2.places two.0.2.walk)
verdict_one total same net invariant (Violated i a v) Holds one two = absurd (two i a one.0.0 one.0.1 v.nodes v.finish one.0.2.places one.0.2.walk)
verdict_one total same net invariant (Violated i a v) (Violated j b w) one two = elim (compared total same i a j b) [
  | inl less ↦ absurd (two.1 i a less one.0.0 one.0.1 v.nodes v.finish one.0.2.places one.0.2.walk)
  | inr (inl less) ↦ absurd (one.1 j b less two.0.0 two.0.1 w.nodes w.finish two.0.2.places two.0.2.walk)
  | inr (inr (host, header)) ↦ violated_one net invariant i a v j b w host header one.0.0 one.0.1 one.0.2 two.0.0 two.0.1 two.0.2
]

-- ---- several verdicts

-- one more
pub judged_more : {A B : Type 0} (R : A → B → Type 0) (xs : List A) (ys : List B) (n : ℕ) (d : A) (y : B) → n < length xs → AllZip R (take n xs) ys → R (get_or xs n d) y
    → AllZip R (take (suc n) xs) (ys ++ y ∷ [])
judged_more R [] ys n d y fits all more = absurd (omega arith)
judged_more R (x ∷ xs) [] zero d y fits all more = (more, tt)
judged_more R (x ∷ xs) (z ∷ zs) zero d y fits all more = absurd all
judged_more R (x ∷ xs) [] (suc n) d y fits all more = absurd all
judged_more R (x ∷ xs) (z ∷ zs) (suc n) d y fits all more = (all.0, judged_more R xs zs n d y (omega arith) all.1 more)
