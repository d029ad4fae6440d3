-- From a node there is at most one walk along given places.
use Rattle.std.proofs.Common.{◌≡◌, ◌∙◌, ◌++◌, ℕ, List, [], ◌∷◌, Some, slice_get, refl, sym, ap, subst}
use Rattle.std.proofs.lemmas.List.{same_from_push}
use Rattle.event_world.specs.declared.net_state.NetState.{NetState}
use Rattle.invariant_check.specs.Walk.{ComesBack, ComesToAnEnd, EndsBy, GoesOn, IsPath, IsWalk, end_by, landing_by}
use Rattle.invariant_check.specs.declared.walk.Finish.{Finish}
use Rattle.invariant_check.specs.declared.walk.Finish.TheVariants.{Repeat, Out, AtHost}
use Rattle.invariant_check.specs.declared.walk.Node.{Node}
use Rattle.invariant_check.proofs.Walks.{on_or_end, one_next}

-- ---- one output

-- an output ends a walk in one way
ends_one : (net : NetState) (node : Node) (place : ℕ) (f g : Finish) → EndsBy net node place f → EndsBy net node place g → f ≡ g
ends_one net node place f g one two =
    let output : one.output ≡ two.output = cc (one.here, two.here) in
    let lands : landing_by net node.s one.output.target ≡ landing_by net node.s two.output.target = rw output refl in
    let landing : one.landing ≡ two.landing = cc (lands, one.lands, two.lands) in
    let ends : end_by node.s one.output.target one.output.plain one.landing ≡ end_by node.s two.output.target two.output.plain two.landing = rw (output, landing) refl in
    cc (ends, one.ends, two.ends)

-- ---- whole walks

-- along the same places one comes to the same nodes
path_one : (net : NetState) (from : Node) (xs ys : List Node) (places : List ℕ) → slice_get xs 0 ≡ Some from → slice_get ys 0 ≡ Some from
    → IsPath net xs places → IsPath net ys places → xs ≡ ys
path_one net from [] ys places a b one two = absurd one
path_one net from (x ∷ xs) [] places a b one two = absurd two
path_one net from (x ∷ []) (y ∷ []) [] a b one two = cc (a, b)
path_one net from (x ∷ []) (y ∷ z ∷ ys) [] a b one two = absurd two
path_one net from (x ∷ w ∷ xs) (y ∷ ys) [] a b one two = absurd one
path_one net from (x ∷ []) (y ∷ ys) (k ∷ ks) a b one two = absurd one
path_one net from (x ∷ w ∷ xs) (y ∷ []) (k ∷ ks) a b one two = absurd two
path_one net from (x ∷ w ∷ xs) (y ∷ z ∷ ys) (k ∷ ks) a b one two =
    let first : x ≡ y = cc (a, b) in
    let next : w ≡ z = one_next net y w z k (subst (λ (n : Node). GoesOn net n k w) first one.0) two.0 in
    let rest : w ∷ xs ≡ z ∷ ys = path_one net w (w ∷ xs) (z ∷ ys) ks refl (ap Some (sym next)) one.1 two.1 in
    cc (first, rest)

-- where an output ends a walk, none goes on by it
no_way_on : (net : NetState) (from : Node) (xs before : List Node) (last : Node) (ys : List Node) (taken : List ℕ) (place : ℕ) (f : Finish)
    → slice_get xs 0 ≡ Some from → slice_get ys 0 ≡ Some from → xs ≡ before ++ last ∷ [] → IsPath net xs taken → IsPath net ys (taken ++ place ∷ []) → EndsBy net last place f → ⊥
no_way_on net from [] before last ys taken place f a b is one two ends = one
no_way_on net from (x ∷ xs) before last [] taken place f a b is one two ends = two
no_way_on net from (x ∷ []) before last (y ∷ []) [] place f a b is one two ends = two
no_way_on net from (x ∷ []) before last (y ∷ z ∷ ys) [] place f a b is one two ends =
    let here : x ≡ last = (same_from_push [] before x last is).1 in
    let same : last ≡ y = cc (a, b, here) in
    on_or_end net last z place f (subst (λ (n : Node). GoesOn net n place z) (sym same) two.0) ends
no_way_on net from (x ∷ w ∷ xs) before last (y ∷ ys) [] place f a b is one two ends = one
no_way_on net from (x ∷ []) before last (y ∷ ys) (k ∷ ks) place f a b is one two ends = one
no_way_on net from (x ∷ w ∷ xs) before last (y ∷ []) (k ∷ ks) place f a b is one two ends = two
no_way_on net from (x ∷ w ∷ xs) [] last (y ∷ z ∷ ys) (k ∷ ks) place f a b is one two ends = cc is
no_way_on net from (x ∷ w ∷ xs) (c ∷ before) last (y ∷ z ∷ ys) (k ∷ ks) place f a b is one two ends =
    let first : x ≡ y = cc (a, b) in
    let next : w ≡ z = one_next net y w z k (subst (λ (n : Node). GoesOn net n k w) first one.0) two.0 in
    let rest : w ∷ xs ≡ before ++ last ∷ [] = cc is in
    no_way_on net w (w ∷ xs) before last (z ∷ ys) ks place f refl (ap Some (sym next)) rest one.1 two.1 ends

both_end : (net : NetState) (from : Node) (xs ys : List Node) (f g : Finish) (places : List ℕ) → slice_get xs 0 ≡ Some from → slice_get ys 0 ≡ Some from
    → ComesToAnEnd net xs f places → ComesToAnEnd net ys g places → (xs ≡ ys) × (f ≡ g)
both_end net from xs ys f g places a b one two =
    let same = same_from_push one.taken two.taken one.place two.place (sym one.all_places ∙ two.all_places) in
    let nodes = path_one net from xs ys two.taken a b (subst (IsPath net xs) same.0 one.path) two.path in
    let last = (same_from_push one.before two.before one.last two.last (sym one.all ∙ nodes ∙ two.all)).1 in
    let here : EndsBy net two.last one.place f = subst (λ (n : Node). EndsBy net n one.place f) last one.ends in
    (nodes, ends_one net two.last two.place f g (subst (λ (k : ℕ). EndsBy net two.last k f) same.1 here) two.ends)

not_back : (net : NetState) (from : Node) (xs ys : List Node) (f : Finish) (places : List ℕ) → slice_get xs 0 ≡ Some from → slice_get ys 0 ≡ Some from
    → ComesToAnEnd net xs f places → ComesBack net ys places → ⊥
not_back net from xs ys f places a b one two =
    no_way_on net from xs one.before one.last ys one.taken one.place f a b one.all one.path (subst (IsPath net ys) one.all_places two.path) one.ends

-- walks from one node along the same places are one
pub walk_one : (net : NetState) (from : Node) (xs ys : List Node) (f g : Finish) (places : List ℕ) → slice_get xs 0 ≡ Some from → slice_get ys 0 ≡ Some from
    → IsWalk net xs f places → IsWalk net ys g places → (xs ≡ ys) × (f ≡ g)
walk_one net from xs ys Repeat Repeat places a b one two = (path_one net from xs ys places a b one.path two.path, refl)
walk_one net from xs ys Repeat (Out s p) places a b one two = absurd (not_back net from ys xs (Out s p) places b a two one)
walk_one net from xs ys Repeat (AtHost host) places a b one two = absurd (not_back net from ys xs (AtHost host) places b a two one)
walk_one net from xs ys (Out s p) Repeat places a b one two = absurd (not_back net from xs ys (Out s p) places a b one two)
walk_one net from xs ys (Out s p) (Out t q) places a b one two = both_end net from xs ys (Out s p) (Out t q) places a b one two
walk_one net from xs ys (Out s p) (AtHost host) places a b one two = both_end net from xs ys (Out s p) (AtHost host) places a b one two
walk_one net from xs ys (AtHost host) Repeat places a b one two = absurd (not_back net from xs ys (AtHost host) places a b one two)
walk_one net from xs ys (AtHost host) (Out s p) places a b one two = both_end net from xs ys (AtHost host) (Out s p) places a b one two
walk_one net from xs ys (AtHost host) (AtHost other) places a b one two = both_end net from xs ys (AtHost host) (AtHost other) places a b one two
