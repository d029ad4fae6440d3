-- Every line of a script stands in exactly one atom.
use Rattle.std.proofs.Common.{◌≡◌, ℕ, ◌+◌, ◌-◌, ◌<◌, ◌≤◌, ◌⊎◌, inl, inr, zero, suc, List, [], ◌∷◌, length, drop, Bool, true, false, ◌&&◌, not, Option, Some, None, All, AllPairs, refl, sym, ap, ◌∙◌, subst, true≢false, get_or, arith, length-take, length-drop, get_or-take, get_or-drop, append-nil}
use Rattle.std.specs.List.{Contains, filter_map, find, list_any, range_with_len, slice_get, slice_index, slice_range}
use Rattle.std.specs.Option.{option_to_list}
use Rattle.std.proofs.lemmas.Bool.{cases_Bool, cases_order, eq-eqb, eqb-true}
use Rattle.std.proofs.lemmas.Option.{get_or_from_slice_get, slice_get_within}
use Rattle.std.proofs.lemmas.List.{get_or_default}
use Rattle.std.proofs.lemmas.List.Elements.{All-nil, All-cons}
use Rattle.std.proofs.lemmas.List.Folds.{list_any_at}
use Rattle.std.proofs.lemmas.List.Quantifiers.{all_pairs_push}
use Rattle.machine_setup.specs.declared.script.Input.{Input}
use Rattle.machine_setup.specs.declared.script.Input.TheVariants.{Inject, LinkDown, LinkUp, SwitchFail, SwitchUp, ControlDown, ControlUp, HostMove, Policy, Seconds}
use Rattle.machine_setup.specs.declared.script.Line.{Line}
use Rattle.input_atoms.specs.Atoms.{are_one, atom_at, atoms_of, brings_back, failed_by, failure_of, is_about, is_it, is_pair, is_same, recovery_of, thing_failed, thing_recovered}
use Rattle.input_atoms.specs.declared.thing.Thing.{Thing}
use Rattle.input_atoms.specs.declared.thing.Thing.TheVariants.{Link, Switch, Control}
use Rattle.input_atoms.proofs.Pairs.{find_here, find_none, more}

option_cases : {X : Type 0} (o : Option X) → (o ≡ None) ⊎ ((x : X) × (o ≡ Some x))
option_cases None = inl refl
option_cases (Some x) = inr (x, refl)

both_true : (a b : Bool) → (a && b) ≡ true → (a ≡ true) × (b ≡ true)
both_true true b h = (refl, h)
both_true false b h = absurd cc

-- ---- lists that are made along a range

all_made : {X : Type 0} (P : X → Type 0) (h : ℕ → Option X) (a n : ℕ) → ((i : ℕ) (x : X) → a ≤ i → i < a + n → h i ≡ Some x → P x) → All P (filter_map h (range_with_len a n))
all_made P h a zero each = All-nil P
all_made P h a (suc n) each =
    let rest : All P (filter_map h (range_with_len (a + 1) n)) = all_made P h (a + 1) n (λ i x low high. each i x (omega arith) (omega arith)) in
    elim (option_cases (h a)) [ inl none ↦ rw none rest | inr some ↦ rw some.1 (All-cons P some.0 (filter_map h (range_with_len (a + 1) n)) (each a some.0 (omega arith) (omega arith) some.1) rest) ]

made_at : {X : Type 0} (h : ℕ → Option X) (a n i : ℕ) (x : X) → a ≤ i → i < a + n → h i ≡ Some x → (at : ℕ) × (slice_get (filter_map h (range_with_len a n)) at ≡ Some x)
made_at h a zero i x low high e = absurd (omega arith)
made_at h a (suc n) i x low high e = elim (cases_order a i) [
  | inl same ↦ let here : h a ≡ Some x = ap h same ∙ e in rw here (0, refl)
  | inr (inl later) ↦
      let rest = made_at h (a + 1) n i x (omega arith) (omega arith) e in
      elim (option_cases (h a)) [ inl none ↦ rw none rest | inr some ↦ rw some.1 (suc rest.0, rest.1) ]
  | inr (inr never) ↦ absurd (omega arith)
]

pairs_made : {X : Type 0} (R : X → X → Type 0) (h : ℕ → Option X) (n : ℕ) → ((i j : ℕ) (x y : X) → i < j → j < n → h i ≡ Some x → h j ≡ Some y → R x y) → AllPairs R (filter_map h (range_with_len 0 n))
pairs_made R h zero each = λ i j d order within. absurd (omega arith)
pairs_made R h (suc n) each =
    let before = pairs_made R h n (λ i j x y order within. each i j x y order (omega arith)) in
    subst (λ xs. AllPairs R xs) (sym (more h n))
    (elim (option_cases (h n)) [
      | inl none ↦ rw (none, append-nil) before
      | inr some ↦ rw some.1 (all_pairs_push R (filter_map h (range_with_len 0 n)) some.0 before (all_made (λ x. R x some.0) h 0 n (λ i x low high e. each i n x some.0 (omega arith) (omega arith) e some.1)))
    ])

-- ---- the first place that passes a test

passed_by : (p : ℕ → Bool) (a n : ℕ) → find p (range_with_len a n) ≡ None → (j : ℕ) → a ≤ j → j < a + n → p j ≡ false
passed_by p a zero none j low high = absurd (omega arith)
passed_by p a (suc n) none j low high = elim (cases_Bool (p a)) [
  | inl hit ↦ absurd (let h = rw hit at none in cc)
  | inr missed ↦
      let rest = rw missed at none in
      elim (cases_order a j) [ inl same ↦ ap p (sym same) ∙ missed | inr (inl later) ↦ passed_by p (a + 1) n rest j (omega arith) (omega arith) | inr (inr never) ↦ absurd (omega arith) ]
]

found_at : (p : ℕ → Bool) (a n k : ℕ) → find p (range_with_len a n) ≡ Some k → (a ≤ k) × (k < a + n) × (p k ≡ true)
found_at p a zero k found = absurd cc
found_at p a (suc n) k found = elim (cases_Bool (p a)) [
  | inl hit ↦ let h = rw hit at found in let same : a ≡ k = cc in (omega arith, omega arith, ap p (sym same) ∙ hit)
  | inr missed ↦ let rest = found_at p (a + 1) n k (rw missed at found) in (omega arith, omega arith, rest.2)
]

-- ---- things

same_thing : (one other : Thing) → is_same one other ≡ true → one ≡ other
same_thing (Link a) (Link b) h = ap Link (eqb-true a b h)
same_thing (Link a) (Switch b) h = absurd cc
same_thing (Link a) (Control b) h = absurd cc
same_thing (Switch a) (Link b) h = absurd cc
same_thing (Switch a) (Switch b) h = ap Switch (eqb-true a b h)
same_thing (Switch a) (Control b) h = absurd cc
same_thing (Control a) (Link b) h = absurd cc
same_thing (Control a) (Switch b) h = absurd cc
same_thing (Control a) (Control b) h = ap Control (eqb-true a b h)

is_same_itself : (thing : Thing) → is_same thing thing ≡ true
is_same_itself (Link a) = eq-eqb a a refl
is_same_itself (Switch a) = eq-eqb a a refl
is_same_itself (Control a) = eq-eqb a a refl

it_is : (thing : Thing) (o : Option Thing) → is_it thing o ≡ true → o ≡ Some thing
it_is thing None h = absurd cc
it_is thing (Some other) h = ap Some (sym (same_thing thing other h))

-- no input brings back what it fails
one_change : (input : Input) (thing : Thing) → thing_failed input ≡ Some thing → thing_recovered input ≡ None
one_change (Inject host packet) thing h = absurd cc
one_change (LinkDown link) thing h = refl
one_change (LinkUp link) thing h = absurd cc
one_change (SwitchFail s) thing h = refl
one_change (SwitchUp s) thing h = absurd cc
one_change (ControlDown s) thing h = refl
one_change (ControlUp s) thing h = absurd cc
one_change (HostMove host s p) thing h = absurd cc
one_change (Policy c deny) thing h = absurd cc
one_change (Seconds n) thing h = absurd cc

-- ---- pairs

-- what a pair consists of
record Pair (thing : Thing) (between : List Line) (first later : Option Line) : Type 0 where
  failure : Line
  recovery : Line
  at_first : first ≡ Some failure
  at_later : later ≡ Some recovery
  fails : thing_failed failure.input ≡ Some thing
  recovers : thing_recovered recovery.input ≡ Some thing
  alone : list_any (is_about thing) between ≡ false

pair_of : (first : Option Line) (between : List Line) (later : Option Line) → is_pair (failed_by first) between later ≡ true → (thing : Thing) × Pair thing between first later
pair_of None between later h = absurd cc
pair_of (Some failure) between None h = elim (option_cases (thing_failed failure.input)) [ inl none ↦ absurd (let g = rw none at h in cc) | inr has ↦ absurd (let g = rw has.1 at h in cc) ]
pair_of (Some failure) between (Some recovery) h = elim (option_cases (thing_failed failure.input)) [
  | inl none ↦ absurd (let g = rw none at h in cc)
  | inr has ↦
      let parts = both_true (brings_back has.0 recovery) (not (list_any (is_about has.0) between)) (rw has.1 at h) in (
        has.0,
        record {
          failure = failure;
          recovery = recovery;
          at_first = refl;
          at_later = refl;
          fails = has.1;
          recovers = it_is has.0 (thing_recovered recovery.input) parts.0;
          alone = elim (cases_Bool (list_any (is_about has.0) between)) [ inl hit ↦ absurd (let g = rw hit at parts.1 in cc) | inr missed ↦ missed ];
        },
      )
]

-- a line between two places is among those that a pair there has to ask
asked : (script : List Line) (p : Line → Bool) (first later at : ℕ) (line : Line) → first < at → at < later → slice_get script at ≡ Some line → p line ≡ true → list_any p (slice_range script (first + 1) later) ≡ true
asked script p first later at line after before stands passes =
    let within : at < length script = slice_get_within script at line stands in
    let inside : at - (first + 1) < later - (first + 1) = omega arith in
    let place : first + 1 + (at - (first + 1)) ≡ at = omega arith in
    list_any_at p (slice_range script (first + 1) later) (at - (first + 1)) line (simp (length-take, length-drop) (omega arith))
    (rw (get_or-take (later - (first + 1)) (drop (first + 1) script) (at - (first + 1)) line inside, get_or-drop (first + 1) script (at - (first + 1)) line, place, get_or_from_slice_get script at line line stands) passes)

about_failed : (thing : Thing) (line : Line) → thing_failed line.input ≡ Some thing → is_about thing line ≡ true
about_failed thing line fails = rw (fails, is_same_itself thing)

about_recovered : (thing : Thing) (line : Line) → thing_recovered line.input ≡ Some thing → is_about thing line ≡ true
about_recovered thing line recovers = elim (cases_Bool (is_it thing (thing_failed line.input))) [ inl hit ↦ rw hit | inr missed ↦ rw (missed, recovers, is_same_itself thing) ]

-- the failure of a pair is no recovery, and its recovery is the other line of the pair
module _ (script : List Line) (first later : ℕ) (order : first < later) (within : later < length script) (one : are_one script first later ≡ true) where
  no_failure : failure_of script first ≡ None
  no_failure =
      let pair = (pair_of (slice_get script first) (slice_range script (first + 1) later) (slice_get script later) one).1 in
      find_none (λ earlier. are_one script earlier first) 0 first (λ earlier low high.
      elim (cases_Bool (are_one script earlier first)) [
        | inl hit ↦
            let other = (pair_of (slice_get script earlier) (slice_range script (earlier + 1) first) (slice_get script first) hit).1 in
            let same : other.recovery ≡ pair.failure = cc in
            let none : thing_recovered other.recovery.input ≡ None = ap (λ line. thing_recovered line.input) same ∙ one_change pair.failure.input (pair_of (slice_get script first) (slice_range script (first + 1) later) (slice_get script later) one).0 pair.fails in
            absurd (let h = other.recovers in cc)
        | inr missed ↦ missed
      ])

  its_recovery : recovery_of script first ≡ Some later
  its_recovery =
      let thing = (pair_of (slice_get script first) (slice_range script (first + 1) later) (slice_get script later) one).0 in
      let pair = (pair_of (slice_get script first) (slice_range script (first + 1) later) (slice_get script later) one).1 in
      find_here (are_one script first) (first + 1) (length script - (first + 1)) later (omega arith) (omega arith) one (λ at low high.
      elim (cases_Bool (are_one script first at)) [
        | inl hit ↦
            let nearer = (pair_of (slice_get script first) (slice_range script (first + 1) at) (slice_get script at) hit) in
            let same_line : nearer.1.failure ≡ pair.failure = cc in
            let same : Some nearer.0 ≡ Some thing = sym nearer.1.fails ∙ ap (λ line. thing_failed line.input) same_line ∙ pair.fails in
            let about : is_about thing nearer.1.recovery ≡ true = about_recovered thing nearer.1.recovery (nearer.1.recovers ∙ same) in
            absurd (true≢false (sym (asked script (is_about thing) first later at nearer.1.recovery (omega arith) high nearer.1.at_later about) ∙ pair.alone))
        | inr missed ↦ missed
      ])

-- ---- atoms

atom_is : (script : List Line) (at : ℕ) (atom : List ℕ) → atom_at script at ≡ Some atom → (failure_of script at ≡ None) × (atom ≡ at ∷ option_to_list (recovery_of script at))
atom_is script at atom h = elim (option_cases (failure_of script at)) [
  | inl none ↦ let g = rw none at h in (none, cc)
  | inr has ↦ absurd (let g = rw has.1 at h in cc)
]

recovery_is : (script : List Line) (first later : ℕ) → recovery_of script first ≡ Some later → (first < later) × (later < length script) × (are_one script first later ≡ true)
recovery_is script first later h = let at = found_at (are_one script first) (first + 1) (length script - (first + 1)) later h in (omega (arith, at.0), omega (arith, at.0, at.1), at.2)

in_atom : (at k : ℕ) (r : Option ℕ) (place : ℕ) → place < length (at ∷ option_to_list r) → get_or (at ∷ option_to_list r) place k ≡ k → (k ≡ at) ⊎ (r ≡ Some k)
in_atom at k r zero within e = inl (sym e)
in_atom at k None (suc place) within e = absurd (omega arith)
in_atom at k (Some later) (suc zero) within e = inr (ap Some e)
in_atom at k (Some later) (suc (suc place)) within e = absurd (omega arith)

contained : (script : List Line) (at : ℕ) (atom : List ℕ) (k : ℕ) → atom_at script at ≡ Some atom → Contains atom k → (k ≡ at) ⊎ (recovery_of script at ≡ Some k)
contained script at atom k h has = let is = (atom_is script at atom h).1 in
    let there = rw is at has in in_atom at k (recovery_of script at) there.0 there.1 there.2

apart : (script : List Line) (i j : ℕ) (x y : List ℕ) → i < j → j < length script → atom_at script i ≡ Some x → atom_at script j ≡ Some y → (k : ℕ) → Contains x k → Contains y k → ⊥
apart script i j x y order within hx hy k inx iny =
    elim (contained script i x k hx inx) [
      | inl first ↦ elim (contained script j y k hy iny) [ inl also ↦ omega arith | inr later ↦ let r = recovery_is script j k later in omega (arith, r.0) ]
      | inr mine ↦
          let r = recovery_is script i k mine in
          elim (contained script j y k hy iny) [
            | inl also ↦ true≢false (sym r.2 ∙ ap (are_one script i) also ∙ passed_by (λ first. are_one script first j) 0 j (atom_is script j y hy).0 i (omega arith) (omega arith))
            | inr other ↦
                let s = recovery_is script j k other in
                let one = pair_of (slice_get script i) (slice_range script (i + 1) k) (slice_get script k) r.2 in
                let two = pair_of (slice_get script j) (slice_range script (j + 1) k) (slice_get script k) s.2 in
                let same_line : two.1.recovery ≡ one.1.recovery = cc in
                let same : Some two.0 ≡ Some one.0 = sym two.1.recovers ∙ ap (λ line. thing_recovered line.input) same_line ∙ one.1.recovers in
                let about : is_about one.0 two.1.failure ≡ true = about_failed one.0 two.1.failure (two.1.fails ∙ same) in
                true≢false (sym (asked script (is_about one.0) i k j two.1.failure order s.0 two.1.at_first about) ∙ one.1.alone)
          ]
    ]

-- ---- the three parts

pub lines : (script : List Line) → All (λ atom. All (λ at. at < length script) atom) (atoms_of script)
lines script = all_made (λ atom. All (λ at. at < length script) atom) (atom_at script) 0 (length script) (λ i atom low high e. λ place d within.
    elim (contained script i atom (get_or atom place d) e (place, within, get_or_default atom place (get_or atom place d) d within)) [ inl first ↦ omega arith | inr later ↦ (recovery_is script i (get_or atom place d) later).1 ])

pub some : (script : List Line) (at : ℕ) → at < length script → (k : ℕ) × (atom : List ℕ) × (slice_get (atoms_of script) k ≡ Some atom) × Contains atom at
some script at within = elim (option_cases (failure_of script at)) [
  | inl none ↦
      let atom : List ℕ = at ∷ option_to_list (recovery_of script at) in
      let made = made_at (atom_at script) 0 (length script) at atom (omega arith) (omega arith) (rw none) in
      (made.0, atom, made.1, (0, omega arith, refl))
  | inr has ↦
      let found = found_at (λ first. are_one script first at) 0 at has.0 has.1 in
      let before : has.0 < at = omega (arith, found.1) in
      let none = no_failure script has.0 at before within found.2 in
      let recovery = its_recovery script has.0 at before within found.2 in
      let atom : List ℕ = has.0 ∷ at ∷ [] in
      let made = made_at (atom_at script) 0 (length script) has.0 atom (omega arith) (omega (arith, found.1)) (rw (none, recovery)) in
      (made.0, atom, made.1, (1, omega arith, refl))
]

pub one : (script : List Line) → AllPairs (λ one other. (at : ℕ) → Contains one at → Contains other at → ⊥) (atoms_of script)
one script = pairs_made (λ one other. (at : ℕ) → Contains one at → Contains other at → ⊥) (atom_at script) (length script) (λ i j x y order within hx hy. apart script i j x y order within hx hy)

-- ---- order

alone_ascends : (at : ℕ) → AllPairs (λ one other. one < other) (at ∷ [])
alone_ascends at i j d order within = absurd (omega arith)

two_ascend : (at later : ℕ) → at < later → AllPairs (λ one other. one < other) (at ∷ later ∷ [])
two_ascend at later less zero zero d order within = absurd (omega arith)
two_ascend at later less zero (suc zero) d order within = less
two_ascend at later less zero (suc (suc j)) d order within = absurd (omega arith)
two_ascend at later less (suc i) zero d order within = absurd (omega arith)
two_ascend at later less (suc i) (suc zero) d order within = absurd (omega arith)
two_ascend at later less (suc i) (suc (suc j)) d order within = absurd (omega arith)

atom_ascends : (at : ℕ) (r : Option ℕ) → ((later : ℕ) → r ≡ Some later → at < later) → AllPairs (λ one other. one < other) (at ∷ option_to_list r)
atom_ascends at None after = alone_ascends at
atom_ascends at (Some later) after = two_ascend at later (after later refl)

atom_size : (at : ℕ) (r : Option ℕ) → (1 ≤ length (at ∷ option_to_list r)) × (length (at ∷ option_to_list r) ≤ 2)
atom_size at None = (omega arith, omega arith)
atom_size at (Some later) = (omega arith, omega arith)

pub sizes : (script : List Line) → All (λ atom. (1 ≤ length atom) × (length atom ≤ 2)) (atoms_of script)
sizes script = all_made (λ atom. (1 ≤ length atom) × (length atom ≤ 2)) (atom_at script) 0 (length script) (λ at atom low high h. rw (atom_is script at atom h).1 (atom_size at (recovery_of script at)))

pub places_ascend : (script : List Line) → All (λ atom. AllPairs (λ one other. one < other) atom) (atoms_of script)
places_ascend script = all_made (λ atom. AllPairs (λ one other. one < other) atom) (atom_at script) 0 (length script)
    (λ at atom low high h. subst (λ atom. AllPairs (λ one other. one < other) atom) (sym (atom_is script at atom h).1) (atom_ascends at (recovery_of script at) (λ later e. (recovery_is script at later e).0)))

pub firsts_ascend : (script : List Line) → AllPairs (λ one other. slice_index one 0 < slice_index other 0) (atoms_of script)
firsts_ascend script = pairs_made (λ one other. slice_index one 0 < slice_index other 0) (atom_at script) (length script) (λ i j x y order within hx hy. rw ((atom_is script i x hx).1, (atom_is script j y hy).1) order)
