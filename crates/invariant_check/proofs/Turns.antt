-- What each kind of turn keeps and knows.
use Rattle.std.proofs.Common.{◌≡◌, ◌∙◌, ◌+◌, ◌-◌, ◌*◌, ◌^◌, ◌<◌, ◌≤◌, ◌↔◌, ◌++◌, ℕ, suc, Bool, true, false, All, IsTrue, List, [], ◌∷◌, length, map, reverse, inl, inr, refl, sym, ap, subst, arith}
use Rattle.std.proofs.lemmas.List.{length-append, map-append, reverse-append, reverse-reverse}
use Rattle.std.proofs.lemmas.List.Elements.{All-cons, All-nil, All-push, All-same, All-weaker}
use Rattle.of10_match.specs.declared.header.Header.{Header}
use Rattle.topology.specs.declared.invariant.Invariant.{Invariant}
use Rattle.header_classes.specs.Cell.{in_cell}
use Rattle.header_classes.specs.Rewrite.{rewritten}
use Rattle.header_classes.specs.declared.interval.Interval.{Interval}
use Rattle.event_world.specs.declared.net_state.NetState.{NetState}
use Rattle.invariant_check.specs.Search.{In, IsSearch, Tried, nodes_of}
use Rattle.invariant_check.specs.Stop.{IsStop, node_at}
use Rattle.invariant_check.specs.Turn.{EndsBadly, IsFrame, IsHeld, IsTurn, IsTurned, SearchAt, skipped, step_at}
use Rattle.invariant_check.specs.Verdict.{IsFirstWalk, is_forbidden}
use Rattle.invariant_check.specs.Walk.{EndsBy, GoesOn}
use Rattle.invariant_check.specs.declared.class.Class.{Class}
use Rattle.invariant_check.specs.declared.search.Frame.{Frame}
use Rattle.invariant_check.specs.declared.search.Search.{Search}
use Rattle.invariant_check.specs.declared.search.Turn.{Turn}
use Rattle.invariant_check.specs.declared.search.Turn.TheVariants.{On, Over, Found}
use Rattle.invariant_check.specs.declared.stop.Stop.{Stop}
use Rattle.invariant_check.specs.declared.walk.Finish.{Finish}
use Rattle.invariant_check.specs.declared.walk.Finish.TheVariants.{Repeat}
use Rattle.invariant_check.specs.declared.walk.Node.{Node}
use Rattle.invariant_check.specs.declared.walk.Walk.{Walk}
use Rattle.invariant_check.proofs.Depth.{in_left, search_enters, search_leaves, search_skips, search_starts}
use Rattle.invariant_check.proofs.Walks.{are_steps, found_back, found_end, found_none, in_reverse, in_reversed, on_or_end, one_next}

-- ---- lists of nodes

map_reverse : {A B : Type 0} (f : A → B) (xs : List A) → map f (reverse xs) ≡ reverse (map f xs)
map_reverse f [] = refl
map_reverse f (x ∷ xs) =
    ap (map f) (reverse-append (x ∷ []) xs) ∙ map-append f (reverse xs) (x ∷ []) ∙ ap (λ (ys : List _). ys ++ f x ∷ []) (map_reverse f xs) ∙ sym (reverse-append (f x ∷ []) (map f xs))

map_map : {A B C : Type 0} (f : B → C) (g : A → B) (xs : List A) → map f (map g xs) ≡ map (λ x. f (g x)) xs
map_map f g [] = refl
map_map f g (x ∷ xs) = ap (λ (ys : List _). f (g x) ∷ ys) (map_map f g xs)

reverse_push : {A B : Type 0} (f : A → B) (xs ys : List A) (x : A) → ys ≡ xs ++ x ∷ [] → reverse (map f ys) ≡ f x ∷ reverse (map f xs)
reverse_push f xs ys x is = ap (λ (zs : List _). reverse (map f zs)) is ∙ ap reverse (map-append f xs (x ∷ [])) ∙ reverse-append (map f xs) (f x ∷ [])

-- the nodes of frames for a header
nodes_at : Header → List Frame → List Node
nodes_at h frames = map (λ frame. node_at h frame.stop) frames

path_nodes : (h : Header) (frames : List Frame) → nodes_of (reverse (map (step_at h) frames)) ≡ reverse (nodes_at h frames)
unfolding nodes_at
path_nodes h frames =
    map_reverse (λ (step : Node × ℕ). step.0) (map (step_at h) frames) ∙ ap reverse (map_map (λ (step : Node × ℕ). step.0) (step_at h) frames)

base_nodes : (h : Header) (frames : List Frame) → reverse (nodes_of (reverse (map (step_at h) frames))) ≡ nodes_at h frames
base_nodes h frames = ap reverse (path_nodes h frames) ∙ reverse-reverse (nodes_at h frames)

on_path : (h : Header) (frames : List Frame) (x y : Node) → In y (x ∷ nodes_of (reverse (map (step_at h) frames))) ↔ In y (x ∷ nodes_at h frames)
on_path h frames x y = (
  λ i. elim i [ inl e ↦ inl e | inr r ↦ inr (in_reverse y (nodes_at h frames) (subst (In y) (path_nodes h frames) r)) ],
  λ i. elim i [ inl e ↦ inl e | inr r ↦ inr (subst (In y) (sym (path_nodes h frames)) (in_reversed y (nodes_at h frames) r)) ],
)

-- ---- the same search

search_same : {N : Type 0} (goes : N → ℕ → N → Type 0) (ends : N → ℕ → Type 0) (loop : Bool) (from x y : N) (n m : ℕ) (path way : List (N × ℕ)) (done over : List N)
    → x ≡ y → n ≡ m → path ≡ way → done ≡ over → IsSearch goes ends loop from x n path done → IsSearch goes ends loop from y m way over
search_same goes ends loop from x y n m path way done over a b c d s =
    subst (λ (k : _). IsSearch goes ends loop from y m way k) d (subst (λ (k : _). IsSearch goes ends loop from y m k done) c
    (subst (λ (k : _). IsSearch goes ends loop from y k path done) b (subst (λ (k : _). IsSearch goes ends loop from k n path done) a s)))

-- ---- the start

pub starts : (net : NetState) (invariant : Invariant) (h : Header) (s p : ℕ) (search : Search) (stop : Stop) → search.top.stop ≡ stop → stop.s ≡ s → stop.p ≡ p → rewritten stop.sets h ≡ h
    → search.top.next ≡ 0 → search.below.items ≡ [] → search.done.items ≡ [] → SearchAt net invariant h (record { s = s; p = p; header = h }) search
starts net invariant h s p search stop is at by same next below done =
    let from : Node = record { s = s; p = p; header = h } in
    let node : from ≡ node_at h search.top.stop = (λ i. record { s = sym at i; p = sym by i; header = sym same i }) ∙ ap (node_at h) (sym is) in
    search_same (GoesOn net) (EndsBadly net invariant) (is_forbidden invariant Repeat) from from (node_at h search.top.stop) 0 search.top.next [] _ [] _ node (sym next)
    (ap (λ (frames : List Frame). reverse (map (step_at h) frames)) (sym below)) (ap (λ (stops : List Stop). reverse (map (node_at h) stops)) (sym done))
    (search_starts (GoesOn net) (EndsBadly net invariant) (is_forbidden invariant Repeat) from)

-- ---- a smaller cell

frame_in : (net : NetState) (outer inner : List Interval) (frame : Frame) → ((h : Header) → IsTrue (in_cell inner h) → IsTrue (in_cell outer h)) → IsFrame net outer frame → IsFrame net inner frame
frame_in net outer inner frame part held = record { stop = held.stop; hops = λ h inside. held.hops h (part h inside); sets = held.sets }

pub held_in : (net : NetState) (outer inner : List Interval) (search : Search) → ((h : Header) → IsTrue (in_cell inner h) → IsTrue (in_cell outer h)) → IsHeld net outer search → IsHeld net inner search
held_in net outer inner search part held = record {
  top = frame_in net outer inner search.top part held.top;
  below = All-weaker (IsFrame net outer) (IsFrame net inner) (λ frame f. frame_in net outer inner frame part f) search.below.items held.below;
  done = held.done;
}

-- ---- a hop is tried

less_left : (b d l n : ℕ) → n < l → 2 ^ 64 * (2 * (2 ^ 65 - (b + d)) + b) + (l - (n + 1)) < 2 ^ 64 * (2 * (2 ^ 65 - (b + d)) + b) + (l - n)
less_left b d l n more = let less : l - (n + 1) < l - n = omega arith in omega (arith, less)

pub turned_skip : (net : NetState) (invariant : Invariant) (class : Class) (old new : Search) (turn : Turn) → IsHeld net class.cell old → old.top.next < length old.top.hops.items
    → turn ≡ On → new ≡ skipped old
    → ((h : Header) → IsTrue (in_cell class.cell h) → (finished all : List Node) → all ≡ node_at h old.top.stop ∷ nodes_of (reverse (map (step_at h) old.below.items)) ++ finished
    → finished ≡ reverse (map (node_at h) old.done.items) → Tried (GoesOn net) (EndsBadly net invariant) (is_forbidden invariant Repeat) all finished (node_at h old.top.stop) old.top.next)
    → IsTurned net invariant class old new turn
turned_skip net invariant class old new turn held more on is tried =
    subst (λ (t : Turn). IsTurned net invariant class old new t) (sym on) (subst (λ (s : Search). IsTurned net invariant class old s On) (sym is) record {
      held = λ e. record { top = record { stop = held.top.stop; hops = held.top.hops; sets = held.top.sets }; below = held.below; done = held.done };
      smaller = λ e. less_left (length old.below.items) (length old.done.items) (length old.top.hops.items) old.top.next more;
      at = λ h from inside s.
          search_skips (GoesOn net) (EndsBadly net invariant) (is_forbidden invariant Repeat) from (node_at h old.top.stop) old.top.next (old.top.next + 1)
          (reverse (map (step_at h) old.below.items)) (reverse (map (node_at h) old.done.items)) (are_steps net invariant) refl s (tried h inside _ _ refl refl);
    })

-- ---- a walk is found

pub turned_found : (net : NetState) (invariant : Invariant) (class : Class) (old new : Search) (walk : Walk)
    → ((from : Node) → SearchAt net invariant class.header from old → IsFirstWalk net invariant from walk.nodes walk.finish) → IsTurned net invariant class old new (Found walk)
turned_found net invariant class old new walk first = record {
  held = λ e. absurd (cc e);
  smaller = λ e. absurd (cc e);
  at = λ h from inside s e. first from (subst (λ (k : Header). SearchAt net invariant k from old) e s);
}

pub first_end : (net : NetState) (invariant : Invariant) (h : Header) (from : Node) (search : Search) (walk : Walk) (finish : Finish) → SearchAt net invariant h from search
    → EndsBy net (node_at h search.top.stop) search.top.next finish → is_forbidden invariant finish ≡ true
    → walk.nodes ≡ map (λ frame. node_at h frame.stop) search.below.items ++ node_at h search.top.stop ∷ [] → walk.finish ≡ finish → IsFirstWalk net invariant from walk.nodes walk.finish
unfolding nodes_at
first_end net invariant h from search walk finish s ends forbidden nodes is =
    let x = node_at h search.top.stop in
    let path = reverse (map (step_at h) search.below.items) in
    let found = found_end net invariant from x search.top.next path (reverse (map (node_at h) search.done.items)) s finish ends forbidden in
    let all : reverse (nodes_of path) ++ x ∷ [] ≡ walk.nodes = ap (λ (ns : List Node). ns ++ x ∷ []) (base_nodes h search.below.items) ∙ sym nodes in
    subst (λ (f : Finish). IsFirstWalk net invariant from walk.nodes f) (sym is) (subst (λ (ns : List Node). IsFirstWalk net invariant from ns finish) all found)

pub first_back : (net : NetState) (invariant : Invariant) (h : Header) (from : Node) (search : Search) (walk : Walk) (stop : Stop) → SearchAt net invariant h from search
    → GoesOn net (node_at h search.top.stop) search.top.next (node_at h stop)
    → In (node_at h stop) (node_at h search.top.stop ∷ map (λ frame. node_at h frame.stop) search.below.items) → is_forbidden invariant Repeat ≡ true
    → walk.nodes ≡ (map (λ frame. node_at h frame.stop) search.below.items ++ node_at h search.top.stop ∷ []) ++ node_at h stop ∷ [] → walk.finish ≡ Repeat
    → IsFirstWalk net invariant from walk.nodes walk.finish
unfolding nodes_at
first_back net invariant h from search walk stop s on again forbidden nodes is =
    let x = node_at h search.top.stop in
    let y = node_at h stop in
    let path = reverse (map (step_at h) search.below.items) in
    let found = found_back net invariant from x search.top.next path (reverse (map (node_at h) search.done.items)) s y on ((on_path h search.below.items x y).1 again) forbidden in
    let all : (reverse (nodes_of path) ++ x ∷ []) ++ y ∷ [] ≡ walk.nodes = ap (λ (ns : List Node). (ns ++ x ∷ []) ++ y ∷ []) (base_nodes h search.below.items) ∙ sym nodes in
    subst (λ (f : Finish). IsFirstWalk net invariant from walk.nodes f) (sym is) (subst (λ (ns : List Node). IsFirstWalk net invariant from ns Repeat) all found)

-- ---- a stop that is known already

pub tried_back : (net : NetState) (invariant : Invariant) (h : Header) (search : Search) (stop : Stop) (all finished : List Node) → GoesOn net (node_at h search.top.stop) search.top.next (node_at h stop)
    → In (node_at h stop) (node_at h search.top.stop ∷ map (λ frame. node_at h frame.stop) search.below.items) → is_forbidden invariant Repeat ≡ false
    → all ≡ node_at h search.top.stop ∷ nodes_of (reverse (map (step_at h) search.below.items)) ++ finished
    → Tried (GoesOn net) (EndsBadly net invariant) (is_forbidden invariant Repeat) all finished (node_at h search.top.stop) search.top.next
unfolding nodes_at
tried_back net invariant h search stop all finished on again allowed is =
    let x = node_at h search.top.stop in
    let y = node_at h stop in
    let path = nodes_of (reverse (map (step_at h) search.below.items)) in
    let inside : In y (x ∷ path) = (on_path h search.below.items x y).1 again in
    record {
      free = λ bad. on_or_end net x y search.top.next bad.finish on bad.ends;
      leads = λ z g. inr (
        allowed,
        subst (λ (v : Node). In v all) (one_next net x y z search.top.next on g) (subst (In y) (sym is) (elim inside [
          | inl e ↦ inl e
          | inr r ↦ inr (in_left y path finished r)
        ])),
      );
    }

pub tried_done : (net : NetState) (invariant : Invariant) (h : Header) (search : Search) (stop : Stop) (all finished : List Node) → GoesOn net (node_at h search.top.stop) search.top.next (node_at h stop)
    → In (node_at h stop) (map (node_at h) search.done.items) → finished ≡ reverse (map (node_at h) search.done.items)
    → Tried (GoesOn net) (EndsBadly net invariant) (is_forbidden invariant Repeat) all finished (node_at h search.top.stop) search.top.next
tried_done net invariant h search stop all finished on known is =
    let x = node_at h search.top.stop in
    let y = node_at h stop in
    record {
      free = λ bad. on_or_end net x y search.top.next bad.finish on bad.ends;
      leads = λ z g. inl (subst (λ (v : Node). In v finished) (one_next net x y z search.top.next on g) (subst (In y) (sym is) (in_reversed y (map (node_at h) search.done.items) known)));
    }

-- ---- a stop is entered

less_entered : (b c d e l n m : ℕ) → c ≡ b + 1 → e ≡ d → c < 2 ^ 63 → d < 2 ^ 63 → m < 2 ^ 63
    → 2 ^ 64 * (2 * (2 ^ 65 - (c + e)) + c) + m < 2 ^ 64 * (2 * (2 ^ 65 - (b + d)) + b) + (l - n)
less_entered b c d e l n m more same few over small =
    let falls : 2 * (2 ^ 65 - (c + e)) + c + 1 ≡ 2 * (2 ^ 65 - (b + d)) + b = omega arith in
    omega (arith, falls, small)

pub turned_enter : (net : NetState) (invariant : Invariant) (class : Class) (old new : Search) (turn : Turn) (stop : Stop) → IsHeld net class.cell old → turn ≡ On → IsFrame net class.cell new.top
    → new.top.stop ≡ stop → new.top.next ≡ 0 → new.below.items ≡ old.below.items ++ (skipped old).top ∷ [] → new.done ≡ old.done
    → ((h : Header) → IsTrue (in_cell class.cell h) → GoesOn net (node_at h old.top.stop) old.top.next (node_at h stop))
    → ((h : Header) → IsTrue (in_cell class.cell h) → In (node_at h stop) (node_at h old.top.stop ∷ map (λ frame. node_at h frame.stop) old.below.items) → ⊥)
    → ((h : Header) → IsTrue (in_cell class.cell h) → In (node_at h stop) (map (node_at h) old.done.items) → ⊥)
    → IsTurned net invariant class old new turn
unfolding nodes_at
turned_enter net invariant class old new turn stop held on frame is next below done goes off fresh = record {
  held = λ e. record {
    top = frame;
    below = All-same (IsFrame net class.cell) new.below.items (old.below.items ++ (skipped old).top ∷ []) below
        (All-push (IsFrame net class.cell) old.below.items (skipped old).top held.below record { stop = held.top.stop; hops = held.top.hops; sets = held.top.sets });
    done = subst (λ (d : _). All (IsStop net) d.items) (sym done) held.done;
  };
  smaller = λ e.
      let longer : length new.below.items ≡ length old.below.items + 1 = ap length below ∙ length-append old.below.items ((skipped old).top ∷ []) in
      let same : length new.done.items ≡ length old.done.items = ap (λ (d : _). length d.items) done in
      let few : length new.below.items < 2 ^ 63 = omega (arith, new.below.ok.0, new.below.small) in
      let over : length old.done.items < 2 ^ 63 = omega (arith, old.done.ok.0, old.done.small) in
      let small : length new.top.hops.items - new.top.next < 2 ^ 63 = omega (arith, new.top.hops.ok.0, new.top.hops.small) in
      less_entered (length old.below.items) (length new.below.items) (length old.done.items) (length new.done.items) (length old.top.hops.items) old.top.next
      (length new.top.hops.items - new.top.next) longer same few over small;
  at = λ h from inside s.
      let x = node_at h old.top.stop in
      let y = node_at h stop in
      let path = reverse (map (step_at h) old.below.items) in
      let entered = search_enters (GoesOn net) (EndsBadly net invariant) (is_forbidden invariant Repeat) from x y old.top.next (old.top.next + 1) path
      (reverse (map (node_at h) old.done.items)) (are_steps net invariant) refl s (goes h inside)
      (λ i. off h inside ((on_path h old.below.items x y).0 i)) (λ i. fresh h inside (in_reverse y (map (node_at h) old.done.items) i)) in
      subst (λ (t : Turn). IsTurn net invariant h from class.header new t) (sym on)
      (search_same (GoesOn net) (EndsBadly net invariant) (is_forbidden invariant Repeat) from y (node_at h new.top.stop) 0 new.top.next ((x, old.top.next + 1) ∷ path) _ _ _
      (ap (node_at h) (sym is)) (sym next) (sym (reverse_push (step_at h) old.below.items new.below.items (skipped old).top below))
      (ap (λ (d : _). reverse (map (node_at h) d.items)) (sym done)) entered);
}

-- ---- a stop is left

less_over : (b c d e l n m : ℕ) → b ≡ c + 1 → e ≡ d + 1 → b < 2 ^ 63 → d < 2 ^ 63 → m < 2 ^ 63
    → 2 ^ 64 * (2 * (2 ^ 65 - (c + e)) + c) + m < 2 ^ 64 * (2 * (2 ^ 65 - (b + d)) + b) + (l - n)
less_over b c d e l n m more same few over small =
    let falls : 2 * (2 ^ 65 - (c + e)) + c + 1 ≡ 2 * (2 ^ 65 - (b + d)) + b = omega arith in
    omega (arith, falls, small)

pub turned_leave : (net : NetState) (invariant : Invariant) (class : Class) (old new : Search) → IsHeld net class.cell old → length old.top.hops.items ≤ old.top.next
    → old.below.items ≡ new.below.items ++ new.top ∷ [] → new.done.items ≡ old.done.items ++ old.top.stop ∷ []
    → ((h : Header) → IsTrue (in_cell class.cell h) → (q : ℕ) → old.top.next ≤ q
    → (EndsBadly net invariant (node_at h old.top.stop) q → ⊥) × ((z : Node) → GoesOn net (node_at h old.top.stop) q z → ⊥))
    → IsTurned net invariant class old new On
turned_leave net invariant class old new held tried below done past =
    let all : All (IsFrame net class.cell) (new.below.items ++ new.top ∷ []) = All-same (IsFrame net class.cell) (new.below.items ++ new.top ∷ []) old.below.items (sym below) held.below in
    record {
      held = λ e. record {
        top = last_of (IsFrame net class.cell) new.below.items new.top all;
        below = front_of (IsFrame net class.cell) new.below.items new.top all;
        done = All-same (IsStop net) new.done.items (old.done.items ++ old.top.stop ∷ []) done (All-push (IsStop net) old.done.items old.top.stop held.done held.top.stop);
      };
      smaller = λ e.
          let longer : length old.below.items ≡ length new.below.items + 1 = ap length below ∙ length-append new.below.items (new.top ∷ []) in
          let more : length new.done.items ≡ length old.done.items + 1 = ap length done ∙ length-append old.done.items (old.top.stop ∷ []) in
          let few : length old.below.items < 2 ^ 63 = omega (arith, old.below.ok.0, old.below.small) in
          let over : length old.done.items < 2 ^ 63 = omega (arith, old.done.ok.0, old.done.small) in
          let small : length new.top.hops.items - new.top.next < 2 ^ 63 = omega (arith, new.top.hops.ok.0, new.top.hops.small) in
          less_over (length old.below.items) (length new.below.items) (length old.done.items) (length new.done.items) (length old.top.hops.items) old.top.next
          (length new.top.hops.items - new.top.next) longer more few over small;
      at = λ h from inside s.
          let x = node_at h old.top.stop in
          let path = reverse (map (step_at h) new.below.items) in
          let over = reverse (map (node_at h) old.done.items) in
          let before = search_same (GoesOn net) (EndsBadly net invariant) (is_forbidden invariant Repeat) from x x old.top.next old.top.next _ (step_at h new.top ∷ path) over over
          refl refl (reverse_push (step_at h) new.below.items old.below.items new.top below) refl s in
          let left = search_leaves (GoesOn net) (EndsBadly net invariant) (is_forbidden invariant Repeat) from x (node_at h new.top.stop) old.top.next new.top.next path over
          (are_steps net invariant) (past h inside) before in
          search_same (GoesOn net) (EndsBadly net invariant) (is_forbidden invariant Repeat) from (node_at h new.top.stop) (node_at h new.top.stop) new.top.next new.top.next path path (x ∷ over) _
          refl refl refl (sym (reverse_push (node_at h) old.done.items new.done.items old.top.stop done)) left;
    }
  where
    last_of : (P : Frame → Type 0) (frames : List Frame) (frame : Frame) → All P (frames ++ frame ∷ []) → P frame
    last_of P [] frame all = all 0 frame (omega arith)
    last_of P (f ∷ frames) frame all = last_of P frames frame (λ k d within. all (suc k) d (omega (arith, within)))

    front_of : (P : Frame → Type 0) (frames : List Frame) (frame : Frame) → All P (frames ++ frame ∷ []) → All P frames
    front_of P [] frame all = All-nil P
    front_of P (f ∷ frames) frame all = All-cons P f frames (all 0 f (omega arith)) (front_of P frames frame (λ k d within. all (suc k) d (omega (arith, within))))

pub turned_over : (net : NetState) (invariant : Invariant) (class : Class) (old new : Search) → old.below.items ≡ []
    → ((h : Header) → IsTrue (in_cell class.cell h) → (q : ℕ) → old.top.next ≤ q
    → (EndsBadly net invariant (node_at h old.top.stop) q → ⊥) × ((z : Node) → GoesOn net (node_at h old.top.stop) q z → ⊥))
    → IsTurned net invariant class old new Over
turned_over net invariant class old new below past = record {
  held = λ e. absurd (cc e);
  smaller = λ e. absurd (cc e);
  at = λ h from inside s.
      let x = node_at h old.top.stop in
      found_none net invariant from x old.top.next (reverse (map (node_at h) old.done.items))
      (search_same (GoesOn net) (EndsBadly net invariant) (is_forbidden invariant Repeat) from x x old.top.next old.top.next _ [] _ _ refl refl
      (ap (λ (frames : List Frame). reverse (map (step_at h) frames)) below) refl s) (past h inside);
}
