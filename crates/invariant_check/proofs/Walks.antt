-- Walks of a network as walks of a search, and back.
use Rattle.std.proofs.Common.{◌≡◌, ◌≢◌, ◌∙◌, ◌-◌, ◌<◌, ◌≤◌, ◌⊎◌, ◌++◌, ℕ, zero, suc, Bool, true, false, AllPairs, Contains, List, [], ◌∷◌, Some, get_or, length, reverse, inl, inr, refl, sym, ap, subst, arith}
use Rattle.std.specs.List.{slice_get}
use Rattle.std.proofs.lemmas.Bool.{false_from_ne_true, ltb-true, eqb-true, or_cases, and_parts}
use Rattle.std.proofs.lemmas.List.{reverse-append}
use Rattle.std.proofs.lemmas.List.Quantifiers.{all_pairs_push}
use Rattle.flow_table.specs.declared.outputs.Output.{Output}
use Rattle.flow_table.specs.declared.outputs.Target.{Target}
use Rattle.flow_table.specs.declared.outputs.Target.TheVariants.{Port, Controller}
use Rattle.topology.specs.declared.invariant.Invariant.{Invariant}
use Rattle.topology.specs.declared.landing.Landing.{Landing}
use Rattle.topology.specs.declared.landing.Landing.TheVariants.{Wire, Host, Lost}
use Rattle.event_world.specs.declared.net_state.NetState.{NetState}
use Rattle.invariant_check.specs.Search.{Before, Differ, Forbidden, In, IsSearch, Leads, nodes_of, places_of}
use Rattle.invariant_check.specs.Turn.{EndsBadly}
use Rattle.invariant_check.specs.Verdict.{IsFirstWalk, IsForbiddenWalk, IsFree, is_forbidden}
use Rattle.invariant_check.specs.Walk.{AreDifferent, ComesBack, ComesToAnEnd, EndsBy, GoesOn, IsPath, IsWalk, comes_before, end_by, landing_by}
use Rattle.invariant_check.specs.declared.walk.Finish.{Finish}
use Rattle.invariant_check.specs.declared.walk.Finish.TheVariants.{Repeat, Out, AtHost}
use Rattle.invariant_check.specs.declared.walk.Node.{Node}
use Rattle.invariant_check.proofs.Depth.{AreSteps, in_either, in_left, in_right, search_ends}

-- ---- each output leads to one node, or ends the walk

pub same_node : (one other : Node) → one.s ≡ other.s → one.p ≡ other.p → one.header ≡ other.header → one ≡ other
same_node one other s p header = λ i. record { s = s i; p = p i; header = header i }

pub one_next : (net : NetState) (x y z : Node) (q : ℕ) → GoesOn net x q y → GoesOn net x q z → y ≡ z
one_next net x y z q one other =
    let output : one.output ≡ other.output = cc (one.here, other.here) in
    let wire : Some (Wire y.s y.p) ≡ Some (Wire z.s z.p) = sym one.wire ∙ ap (λ (o : Output). landing_by net x.s o.target) output ∙ other.wire in
    let s : y.s ≡ z.s = cc in
    let p : y.p ≡ z.p = cc in
    let header : y.header ≡ z.header = one.header ∙ ap (λ (o : Output). o.header) output ∙ sym other.header in
    same_node y z s p header

no_end : (s : ℕ) (target : Target) (plain : Bool) (far p : ℕ) (finish : Finish) → end_by s target plain (Wire far p) ≡ Some finish → ⊥
no_end s target plain far p finish e = cc

pub on_or_end : (net : NetState) (x y : Node) (q : ℕ) (finish : Finish) → GoesOn net x q y → EndsBy net x q finish → ⊥
on_or_end net x y q finish on end =
    let output : on.output ≡ end.output = cc (on.here, end.here) in
    let landing : Some (Wire y.s y.p) ≡ Some end.landing = sym on.wire ∙ ap (λ (o : Output). landing_by net x.s o.target) output ∙ end.lands in
    let is : Wire y.s y.p ≡ end.landing = cc in
    no_end x.s end.output.target end.output.plain y.s y.p finish (subst (λ (l : Landing). end_by x.s end.output.target end.output.plain l ≡ Some finish) (sym is) end.ends)

pub are_steps : (net : NetState) (invariant : Invariant) → AreSteps (GoesOn net) (EndsBadly net invariant)
are_steps net invariant = record {
  one = λ x y z q g k. one_next net x y z q g k;
  either = λ x y q g e. on_or_end net x y q e.finish g e.ends;
}

-- ---- lists

pub in_reverse : {A : Type 0} (x : A) (xs : List A) → In x (reverse xs) → In x xs
in_reverse x [] i = i
in_reverse x (y ∷ ys) i = elim (in_either x (reverse ys) (y ∷ []) (subst (In x) (reverse-append (y ∷ []) ys) i)) [
  | inl l ↦ inr (in_reverse x ys l)
  | inr (inl e) ↦ inl e
  | inr (inr n) ↦ absurd n
]

pub in_reversed : {A : Type 0} (x : A) (xs : List A) → In x xs → In x (reverse xs)
in_reversed x [] i = i
in_reversed x (y ∷ ys) (inl e) = subst (In x) (sym (reverse-append (y ∷ []) ys)) (in_right x (reverse ys) (y ∷ []) (inl e))
in_reversed x (y ∷ ys) (inr i) = subst (In x) (sym (reverse-append (y ∷ []) ys)) (in_left x (reverse ys) (y ∷ []) (in_reversed x ys i))

in_at : {A : Type 0} (x : A) (xs : List A) → In x xs → (k : ℕ) × (k < length xs) × ((d : A) → get_or xs k d ≡ x)
in_at x [] i = absurd i
in_at x (y ∷ ys) (inl e) = (0, omega arith, λ d. sym e)
in_at x (y ∷ ys) (inr i) = let rest = in_at x ys i in (suc rest.0, omega (arith, rest.1), rest.2)

at_in : {A : Type 0} (xs : List A) (k : ℕ) (d : A) → k < length xs → In (get_or xs k d) xs
at_in [] k d within = absurd (omega (arith, within))
at_in (y ∷ ys) zero d within = inl refl
at_in (y ∷ ys) (suc k) d within = inr (at_in ys k d (omega (arith, within)))

in_contains : {A : Type 0} (x : A) (xs : List A) → In x xs → Contains xs x
in_contains x xs i = let at = in_at x xs i in (at.0, at.1, at.2 x)

contains_in : {A : Type 0} (x : A) (xs : List A) → Contains xs x → In x xs
contains_in x xs c = subst (λ (y : _). In y xs) c.2 (at_in xs c.0 x c.1)

pairs_differ : {A : Type 0} (xs : List A) → AllPairs (λ one other. one ≢ other) xs → Differ xs
pairs_differ [] pairs = tt
pairs_differ (x ∷ xs) pairs = (
  λ i. let at = in_at x xs i in pairs 0 (suc at.0) x (omega arith) (omega (arith, at.1)) (sym (at.2 x)),
  pairs_differ xs (λ i j d less within. pairs (suc i) (suc j) d (omega (arith, less)) (omega (arith, within))),
)

differ_pairs : {A : Type 0} (xs : List A) → Differ xs → AllPairs (λ one other. one ≢ other) (reverse xs)
differ_pairs [] differ = λ i j d less within. absurd (omega (arith, within))
differ_pairs (x ∷ xs) differ =
    subst (AllPairs (λ one other. one ≢ other)) (sym (reverse-append (x ∷ []) xs))
    (all_pairs_push (λ one other. one ≢ other) (reverse xs) x (differ_pairs xs differ.1)
    (λ k d within e. differ.0 (subst (λ (y : _). In y xs) e (in_reverse (get_or (reverse xs) k d) xs (at_in (reverse xs) k d within)))))

pub differ_front : {A : Type 0} (xs ys : List A) → Differ (xs ++ ys) → Differ xs
differ_front [] ys d = tt
differ_front (x ∷ xs) ys d = (λ i. d.0 (in_left x xs ys i), differ_front xs ys d.1)

-- ---- the order of places

before_from : (xs ys : List ℕ) → comes_before xs ys ≡ true → Before xs ys
before_from [] [] e = cc
before_from [] (y ∷ ys) e = tt
before_from (x ∷ xs) [] e = cc
before_from (x ∷ xs) (y ∷ ys) e = elim (or_cases _ _ e) [
  | inl less ↦ inl (ltb-true x y less)
  | inr same ↦ let parts = and_parts _ _ same in inr (eqb-true x y parts.0, before_from xs ys parts.1)
]

-- ---- a path of a search is a path of the network

path_more : (net : NetState) (nodes : List Node) (places : List ℕ) (y x : Node) (k : ℕ) → IsPath net (nodes ++ y ∷ []) places → GoesOn net y k x
    → IsPath net ((nodes ++ y ∷ []) ++ x ∷ []) (places ++ k ∷ [])
path_more net [] [] y x k path on = (on, tt)
path_more net [] (j ∷ places) y x k path on = absurd path
path_more net (n ∷ []) [] y x k path on = absurd path
path_more net (n ∷ []) (j ∷ places) y x k path on = (path.0, path_more net [] places y x k path.1 on)
path_more net (n ∷ m ∷ nodes) [] y x k path on = absurd path
path_more net (n ∷ m ∷ nodes) (j ∷ places) y x k path on = (path.0, path_more net (m ∷ nodes) places y x k path.1 on)

pub path_is : (net : NetState) (from x : Node) (path : List (Node × ℕ)) → Leads (GoesOn net) from x path → IsPath net (reverse (nodes_of path) ++ x ∷ []) (places_of path)
path_is net from x [] leads = tt
path_is net from x (step ∷ path) leads =
    subst (λ (nodes : List Node). IsPath net (nodes ++ x ∷ []) (places_of path ++ (step.1 - 1) ∷ [])) (sym (reverse-append (step.0 ∷ []) (nodes_of path)))
    (path_more net (reverse (nodes_of path)) (places_of path) step.0 x (step.1 - 1) (path_is net from step.0 path leads.2) leads.1)

first_stays : {A : Type 0} (xs : List A) (y z x : A) → slice_get (xs ++ y ∷ []) 0 ≡ Some x → slice_get ((xs ++ y ∷ []) ++ z ∷ []) 0 ≡ Some x
first_stays [] y z x e = e
first_stays (w ∷ xs) y z x e = e

pub path_begins : (net : NetState) (from x : Node) (path : List (Node × ℕ)) → Leads (GoesOn net) from x path → slice_get (reverse (nodes_of path) ++ x ∷ []) 0 ≡ Some from
path_begins net from x [] leads = ap Some leads
path_begins net from x (step ∷ path) leads =
    subst (λ (nodes : List Node). slice_get (nodes ++ x ∷ []) 0 ≡ Some from) (sym (reverse-append (step.0 ∷ []) (nodes_of path)))
    (first_stays (reverse (nodes_of path)) step.0 x from (path_begins net from step.0 path leads.2))

-- ---- a forbidden walk is one of the search

back_forbidden : (net : NetState) (ends : Node → ℕ → Type 0) (seen nodes : List Node) (x last : Node) (places : List ℕ) → IsPath net (x ∷ nodes ++ last ∷ []) places → Differ (x ∷ nodes)
    → ((z : Node) → In z (x ∷ nodes) → In z seen → ⊥) → In last (x ∷ nodes) ⊎ In last seen → Forbidden (GoesOn net) ends true seen x places
back_forbidden net ends seen [] x last [] path differ apart again = path
back_forbidden net ends seen [] x last (q ∷ []) path differ apart again =
    inr (refl, (last, path.0, elim again [ inl i ↦ elim i [ inl e ↦ inl e | inr n ↦ absurd n ] | inr s ↦ inr s ]))
back_forbidden net ends seen [] x last (q ∷ r ∷ places) path differ apart again = absurd path.1
back_forbidden net ends seen (y ∷ nodes) x last [] path differ apart again = path
back_forbidden net ends seen (y ∷ []) x last (q ∷ []) path differ apart again = absurd path.1
back_forbidden net ends seen (y ∷ z ∷ nodes) x last (q ∷ []) path differ apart again = absurd path.1
back_forbidden net ends seen (y ∷ nodes) x last (q ∷ r ∷ places) path differ apart again = (
  y,
  path.0,
  λ i. elim i [ inl e ↦ differ.0 (inl (sym e)) | inr s ↦ apart y (inr (inl refl)) s ],
  back_forbidden net ends (x ∷ seen) nodes y last (r ∷ places) path.1 differ.1
      (λ z i s. elim s [ inl e ↦ differ.0 (subst (λ (v : Node). In v (y ∷ nodes)) e i) | inr old ↦ apart z (inr i) old ])
      (elim again [
        | inl i ↦ elim i [ inl e ↦ inr (inl e) | inr rest ↦ inl rest ]
        | inr s ↦ inr (inr s)
      ]),
)

-- the first of some nodes and a last one
head_of : List Node → Node → Node
head_of [] last = last
head_of (x ∷ nodes) last = x

end_forbidden : (net : NetState) (ends : Node → ℕ → Type 0) (loop : Bool) (seen before : List Node) (last : Node) (taken : List ℕ) (place : ℕ) → IsPath net (before ++ last ∷ []) taken
    → Differ (before ++ last ∷ []) → ((z : Node) → In z (before ++ last ∷ []) → In z seen → ⊥) → ends last place → Forbidden (GoesOn net) ends loop seen (head_of before last) (taken ++ place ∷ [])
unfolding head_of
end_forbidden net ends loop seen [] last [] place path differ apart ending = inl ending
end_forbidden net ends loop seen [] last (q ∷ taken) place path differ apart ending = absurd path
end_forbidden net ends loop seen (x ∷ []) last [] place path differ apart ending = absurd path
end_forbidden net ends loop seen (x ∷ []) last (q ∷ []) place path differ apart ending = (
  last,
  path.0,
  λ i. elim i [ inl e ↦ differ.0 (inl (sym e)) | inr s ↦ apart last (inr (inl refl)) s ],
  inl ending,
)
end_forbidden net ends loop seen (x ∷ []) last (q ∷ r ∷ taken) place path differ apart ending = absurd path.1
end_forbidden net ends loop seen (x ∷ y ∷ before) last [] place path differ apart ending = absurd path
end_forbidden net ends loop seen (x ∷ y ∷ []) last (q ∷ []) place path differ apart ending = absurd path.1
end_forbidden net ends loop seen (x ∷ y ∷ z ∷ before) last (q ∷ []) place path differ apart ending = absurd path.1
end_forbidden net ends loop seen (x ∷ y ∷ before) last (q ∷ r ∷ taken) place path differ apart ending = (
  y,
  path.0,
  λ i. elim i [ inl e ↦ differ.0 (inl (sym e)) | inr s ↦ apart y (inr (inl refl)) s ],
  end_forbidden net ends loop (x ∷ seen) (y ∷ before) last (r ∷ taken) place path.1 differ.1
      (λ z i s. elim s [ inl e ↦ differ.0 (subst (λ (v : Node). In v (y ∷ before ++ last ∷ [])) e i) | inr old ↦ apart z (inr i) old ]) ending,
)

head_is : (before : List Node) (last from : Node) → slice_get (before ++ last ∷ []) 0 ≡ Some from → head_of before last ≡ from
unfolding head_of
head_is [] last from e = cc
head_is (x ∷ before) last from e = cc

back_is_forbidden : (net : NetState) (invariant : Invariant) (from : Node) (nodes : List Node) (places : List ℕ) → slice_get nodes 0 ≡ Some from → ComesBack net nodes places
    → is_forbidden invariant Repeat ≡ true → Forbidden (GoesOn net) (EndsBadly net invariant) (is_forbidden invariant Repeat) [] from places
back_is_forbidden net invariant from nodes places begins walk forbidden = rw forbidden (by_before walk.before (subst (λ (ns : List Node). IsPath net ns places) walk.all walk.path)
    (subst (λ (ns : List Node). slice_get ns 0 ≡ Some from) walk.all begins) walk.different walk.again)
  where
    by_before : (before : List Node) → IsPath net (before ++ walk.last ∷ []) places → slice_get (before ++ walk.last ∷ []) 0 ≡ Some from → AreDifferent before → Contains before walk.last
        → Forbidden (GoesOn net) (EndsBadly net invariant) true [] from places
    by_before [] path first different again = absurd (omega (arith, again.1))
    by_before (x ∷ before) path first different again =
        let is : x ≡ from = cc in
        subst (λ (v : Node). Forbidden (GoesOn net) (EndsBadly net invariant) true [] v places) is
        (back_forbidden net (EndsBadly net invariant) [] before x walk.last places path (pairs_differ (x ∷ before) different) (λ z i n. n) (inl (contains_in walk.last (x ∷ before) again)))

end_is_forbidden : (net : NetState) (invariant : Invariant) (from : Node) (nodes : List Node) (finish : Finish) (places : List ℕ) → slice_get nodes 0 ≡ Some from → ComesToAnEnd net nodes finish places
    → is_forbidden invariant finish ≡ true → Forbidden (GoesOn net) (EndsBadly net invariant) (is_forbidden invariant Repeat) [] from places
end_is_forbidden net invariant from nodes finish places begins walk forbidden =
    let at = head_is walk.before walk.last from (subst (λ (ns : List Node). slice_get ns 0 ≡ Some from) walk.all begins) in
    let path = subst (λ (ns : List Node). IsPath net ns walk.taken) walk.all walk.path in
    let differ = pairs_differ (walk.before ++ walk.last ∷ []) (subst AreDifferent walk.all walk.different) in
    let all = end_forbidden net (EndsBadly net invariant) (is_forbidden invariant Repeat) [] walk.before walk.last walk.taken walk.place path differ (λ z i n. n)
    (record { finish = finish; ends = walk.ends; forbidden = forbidden }) in
    subst (λ (v : Node). Forbidden (GoesOn net) (EndsBadly net invariant) (is_forbidden invariant Repeat) [] v places) at
    (subst (Forbidden (GoesOn net) (EndsBadly net invariant) (is_forbidden invariant Repeat) [] (head_of walk.before walk.last)) (sym walk.all_places) all)

forbidden_by : (net : NetState) (invariant : Invariant) (from : Node) (nodes : List Node) (finish : Finish) (places : List ℕ) → slice_get nodes 0 ≡ Some from → IsWalk net nodes finish places
    → is_forbidden invariant finish ≡ true → Forbidden (GoesOn net) (EndsBadly net invariant) (is_forbidden invariant Repeat) [] from places
forbidden_by net invariant from nodes Repeat places begins walk forbidden = back_is_forbidden net invariant from nodes places begins walk forbidden
forbidden_by net invariant from nodes (Out s p) places begins walk forbidden = end_is_forbidden net invariant from nodes (Out s p) places begins walk forbidden
forbidden_by net invariant from nodes (AtHost host) places begins walk forbidden = end_is_forbidden net invariant from nodes (AtHost host) places begins walk forbidden

pub searched : (net : NetState) (invariant : Invariant) (from : Node) (nodes : List Node) (finish : Finish) (places : List ℕ) → IsForbiddenWalk net invariant from nodes finish places
    → Forbidden (GoesOn net) (EndsBadly net invariant) (is_forbidden invariant Repeat) [] from places
searched net invariant from nodes finish places w = forbidden_by net invariant from nodes finish places w.begins w.walk w.forbidden

-- ---- what a search finds

no_repeat : (s : ℕ) (target : Target) (plain : Bool) (landing : Landing) → end_by s target plain landing ≡ Some Repeat → ⊥
no_repeat s target plain (Wire far p) e = cc
no_repeat s target plain (Host host) e = cc
no_repeat s Controller plain (Lost why) e = cc
no_repeat s (Port p) true (Lost why) e = cc
no_repeat s (Port p) false (Lost why) e = cc

walk_by : (net : NetState) (nodes : List Node) (finish : Finish) (places : List ℕ) → ComesToAnEnd net nodes finish places → IsWalk net nodes finish places
walk_by net nodes Repeat places walk = absurd (no_repeat walk.last.s walk.ends.output.target walk.ends.output.plain walk.ends.landing walk.ends.ends)
walk_by net nodes (Out s p) places walk = walk
walk_by net nodes (AtHost host) places walk = walk

module _ (net : NetState) (invariant : Invariant) (from x : Node) (n : ℕ) (path : List (Node × ℕ)) (done : List Node)
    (search : IsSearch (GoesOn net) (EndsBadly net invariant) (is_forbidden invariant Repeat) from x n path done) where
  -- the nodes of the path differ
  apart : AreDifferent (reverse (nodes_of path) ++ x ∷ [])
  apart = subst AreDifferent (reverse-append (x ∷ []) (nodes_of path)) (differ_pairs (x ∷ nodes_of path) (differ_front (x ∷ nodes_of path) done search.differ))

  -- no forbidden walk comes before
  none_before : (nodes : List Node) (finish : Finish) (places : List ℕ) → IsForbiddenWalk net invariant from nodes finish places → comes_before places (places_of path ++ n ∷ []) ≡ false
  none_before nodes finish places w = false_from_ne_true _ (λ e. search.none places (searched net invariant from nodes finish places w) (before_from places (places_of path ++ n ∷ []) e))

  -- the next output ends the walk as is forbidden
  pub found_end : (finish : Finish) → EndsBy net x n finish → is_forbidden invariant finish ≡ true → IsFirstWalk net invariant from (reverse (nodes_of path) ++ x ∷ []) finish
  found_end finish ends forbidden = record {
    places = places_of path ++ n ∷ [];
    walk = record {
      begins = path_begins net from x path search.leads;
      walk = walk_by net (reverse (nodes_of path) ++ x ∷ []) finish (places_of path ++ n ∷ []) record {
        before = reverse (nodes_of path);
        last = x;
        all = refl;
        taken = places_of path;
        place = n;
        all_places = refl;
        path = path_is net from x path search.leads;
        different = apart;
        ends = ends;
      };
      forbidden = forbidden;
    };
    first = none_before;
  }

  -- by the next output the walk comes back, as is forbidden
  pub found_back : (y : Node) → GoesOn net x n y → In y (x ∷ nodes_of path) → is_forbidden invariant Repeat ≡ true
      → IsFirstWalk net invariant from ((reverse (nodes_of path) ++ x ∷ []) ++ y ∷ []) Repeat
  found_back y on back forbidden = record {
    places = places_of path ++ n ∷ [];
    walk = record {
      begins = first_stays (reverse (nodes_of path)) x y from (path_begins net from x path search.leads);
      walk = record {
        before = reverse (nodes_of path) ++ x ∷ [];
        last = y;
        all = refl;
        path = path_more net (reverse (nodes_of path)) (places_of path) x y n (path_is net from x path search.leads) on;
        different = apart;
        again = in_contains y (reverse (nodes_of path) ++ x ∷ []) (subst (In y) (reverse-append (x ∷ []) (nodes_of path)) (in_reversed y (x ∷ nodes_of path) back));
      };
      forbidden = forbidden;
    };
    first = none_before;
  }

-- a search that has tried all finds nothing
pub found_none : (net : NetState) (invariant : Invariant) (from x : Node) (n : ℕ) (done : List Node)
    → IsSearch (GoesOn net) (EndsBadly net invariant) (is_forbidden invariant Repeat) from x n [] done
    → ((q : ℕ) → n ≤ q → (EndsBadly net invariant x q → ⊥) × ((z : Node) → GoesOn net x q z → ⊥)) → IsFree net invariant from
found_none net invariant from x n done search past nodes finish places w =
    search_ends (GoesOn net) (EndsBadly net invariant) (is_forbidden invariant Repeat) from x n done past search places (searched net invariant from nodes finish places w)
