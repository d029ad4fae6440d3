-- What is undone stands as it stood before.
use Rattle.std.proofs.Common.{◌≡◌, ◌∙◌, ◌==◌, ◌||◌, ◌<◌, ℕ, List, map, [], ◌∷◌, Bool, true, false, cond, not, All, Option, Some, None, BTreeMap, nat_cmp, option_map, unwrap_or, ap, arith, inl, inr, refl, sym, subst}
use Rattle.std.proofs.lemmas.Bool.{cases_eq, cases_order, eq-eqb, le-ltb, lt-ltb, ne_eqb, or_right}
use Rattle.std.proofs.lemmas.List.Elements.{All-head, All-tail}
use Rattle.std.proofs.lemmas.Map.Keys.{sorted_tail}
use Rattle.std.specs.BTreeMap.{WritesThrough, is_at}
use Rattle.std.specs.BTreeMap as tree
use Rattle.std.specs.BTreeSet.{insert_key}
use Rattle.std.specs.Cmp.{nat_cmp_total}
use Rattle.std.specs.FinMap.{FinMap, empty, from_entries, get, insert, remove, get-insert, get-remove, nat_cmp-IsAntisymmetric, same_map}
use Rattle.std.specs.List.{list_any}
use Rattle.std.specs.List.Sorted.{IsStrictlySortedBy}
use Rattle.std.specs.Ordering.{eq_by_cmp}
use Rattle.std.specs.Set.{remove_key}
use Rattle.controller_api.specs.Reaction.{Reaction}
use Rattle.of10_messages.specs.declared.message.Message.{Message}
use Rattle.controller_apps.specs.Firewall.{IsWall, Wall, at_features, denial, has_joined, rules_of, unmoved, with_joined}
use Rattle.controller_apps.specs.Ports.{AtSwitch, Ports, entry_at, with_port}
use Rattle.controller_apps.proofs.Joined.{all_above, inserted, joins, same_test}
use Rattle.controller_apps.proofs.Tables.{apart, switch_written, there, ties_itself}

-- ---- one entry of a map

-- a new entry is taken out again
pub removed_again : {X : Type 0} (m : FinMap nat_cmp X) (k : ℕ) (v : X) → None ≡ get m k → remove (insert m k v) k ≡ m
removed_again m k v none =
    same_map nat_cmp_total nat_cmp-IsAntisymmetric _ _ (λ q.
    get-remove nat_cmp_total (insert m k v) k q ∙ ap (λ o. cond (eq_by_cmp nat_cmp q k) None o) (get-insert nat_cmp_total m k v q) ∙ elim (cases_eq q k) [
      | inl same ↦ subst (λ n. cond (eq_by_cmp nat_cmp n k) None (cond (eq_by_cmp nat_cmp n k) (Some v) (get m n)) ≡ get m n) (sym same) (ap (λ b. cond b None (cond b (Some v) (get m k))) (ties_itself k) ∙ none)
      | inr not ↦ ap (λ b. cond b None (cond b (Some v) (get m q))) (apart q k not)
    ])

-- an entry has its value again
pub put_again : {X : Type 0} (m : FinMap nat_cmp X) (k : ℕ) (v w : X) → Some w ≡ get m k → insert (insert m k v) k w ≡ m
put_again m k v w is =
    same_map nat_cmp_total nat_cmp-IsAntisymmetric _ _ (λ q.
    get-insert nat_cmp_total (insert m k v) k w q ∙ ap (λ o. cond (eq_by_cmp nat_cmp q k) (Some w) o) (get-insert nat_cmp_total m k v q) ∙ elim (cases_eq q k) [
      | inl same ↦ subst (λ n. cond (eq_by_cmp nat_cmp n k) (Some w) (cond (eq_by_cmp nat_cmp n k) (Some v) (get m n)) ≡ get m n) (sym same) (ap (λ b. cond b (Some w) (cond b (Some v) (get m k))) (ties_itself k) ∙ is)
      | inr not ↦ ap (λ b. cond b (Some w) (cond b (Some v) (get m q))) (apart q k not)
    ])

get_put : {X : Type 0} (m : FinMap nat_cmp X) (k : ℕ) (v : X) → get (insert m k v) k ≡ Some v
get_put m k v = get-insert nat_cmp_total m k v k ∙ ap (λ b. cond b (Some v) (get m k)) (ties_itself k)

-- what was put is there
pub was_put : {X : Type 0} (m : BTreeMap ℕ X) (now before : FinMap nat_cmp X) (k : ℕ) (v : X) → from_entries {R = nat_cmp} m.entries ≡ now → None ≡ tree.get nat_cmp m k → now ≡ insert before k v → ⊥
was_put m now before k v view none is = let e : None ≡ Some v = there m now k None view none ∙ ap (λ all. get all k) is ∙ get_put before k v in cc

-- ---- what is known

pub unknown : (o : Option AtSwitch) (address : ℕ) → None ≡ option_map (λ at. get at address) o → None ≡ o
unknown None address none = refl
unknown (Some at) address none = cc

put_back_there : (m n : BTreeMap ℕ AtSwitch) (now ports : Ports) (s address port : ℕ) (before : Option ℕ) (mid after : AtSwitch) (o : Option AtSwitch)
    → from_entries {R = nat_cmp} m.entries ≡ now → Some mid ≡ tree.get nat_cmp m s → WritesThrough nat_cmp (nat_cmp s) m after n
    → ((at : AtSwitch) (p : ℕ) → mid ≡ insert at address p → before ≡ get at address → after ≡ at)
    → now ≡ with_port s address port ports → Some before ≡ option_map (λ at. get at address) o → get ports s ≡ o → from_entries {R = nat_cmp} n.entries ≡ ports
put_back_there m n now ports s address port before mid after None view is written back put entry o_is = cc
put_back_there m n now ports s address port before mid after (Some at) view is written back put entry o_is =
    let found : Some mid ≡ Some (insert at address port) =
    there m now s (Some mid) view is ∙ ap (λ all. get all s) put ∙ get_put ports s (insert (unwrap_or (get ports s) empty) address port) ∙ ap (λ o. Some (insert (unwrap_or o empty) address port)) o_is in
    let mid_is : mid ≡ insert at address port = cc in
    let before_is : before ≡ get at address = cc in
    switch_written m n now s mid after view is written ∙ ap (insert now s) (back at port mid_is before_is) ∙ ap (λ all. insert all s at) put
    ∙ put_again ports s (insert (unwrap_or (get ports s) empty) address port) at (sym o_is)

-- at a switch of which something was known the address has its port again, or none
pub switch_put_back : (m n : BTreeMap ℕ AtSwitch) (now ports : Ports) (s address port : ℕ) (before : Option ℕ) (mid after : AtSwitch)
    → from_entries {R = nat_cmp} m.entries ≡ now → Some mid ≡ tree.get nat_cmp m s → WritesThrough nat_cmp (nat_cmp s) m after n
    → ((at : AtSwitch) (p : ℕ) → mid ≡ insert at address p → before ≡ get at address → after ≡ at)
    → now ≡ with_port s address port ports → Some before ≡ entry_at s address ports → from_entries {R = nat_cmp} n.entries ≡ ports
switch_put_back m n now ports s address port before mid after view is written back put entry =
    put_back_there m n now ports s address port before mid after (get ports s) view is written back put entry refl

-- ---- the switches that have joined

none_below : (s : ℕ) (xs : List ℕ) → All (λ y. s < y) xs → list_any (λ t. t == s) xs ≡ false
none_below s [] all = refl
none_below s (x ∷ xs) all = let less = All-head (λ y. s < y) x xs all in rw (ne_eqb x s (λ e. omega arith), none_below s xs (All-tail (λ y. s < y) x xs all)) refl

-- one that is there is not put again
insert_present : (s : ℕ) (xs : List ℕ) → IsStrictlySortedBy nat_cmp xs → list_any (λ t. t == s) xs ≡ true → insert_key nat_cmp xs s ≡ xs
insert_present s [] sorted any = cc
insert_present s (x ∷ xs) sorted any =
    elim (cases_order s x) [
      | inl same ↦ rw (le-ltb s x (omega arith), eq-eqb s x same) refl
      | inr (inl less) ↦
          let above = all_above x xs sorted in
          let none : list_any (λ t. t == s) xs ≡ false = none_below s xs (λ k d within. let more = above k d within in omega arith) in
          let not_here : (x == s) ≡ false = ne_eqb x s (λ e. omega arith) in
          absurd (let e : false ≡ true = sym (ap (λ (b : Bool). b || list_any (λ t. t == s) xs) not_here ∙ none) ∙ any in cc)
      | inr (inr more) ↦
          let not_here : (x == s) ≡ false = ne_eqb x s (λ e. omega arith) in
          rw (le-ltb s x (omega arith), ne_eqb s x (λ e. omega arith)) (ap (λ ys. x ∷ ys) (insert_present s xs (sorted_tail nat_cmp x xs sorted) (sym (ap (λ (b : Bool). b || list_any (λ t. t == s) xs) not_here) ∙ any)))
    ]

-- one that was not there is taken out again
insert_removed : (s : ℕ) (xs : List ℕ) → list_any (λ t. t == s) xs ≡ false → remove_key (is_at (nat_cmp s)) (insert_key nat_cmp xs s) ≡ xs
insert_removed s [] none = rw (same_test s s, eq-eqb s s refl) refl
insert_removed s (x ∷ xs) none =
    elim (cases_order s x) [
      | inl same ↦ absurd (let e : false ≡ true = sym none ∙ ap (λ (b : Bool). b || list_any (λ t. t == s) xs) (eq-eqb x s (sym same)) in cc)
      | inr (inl less) ↦ rw (lt-ltb s x less) (ap (λ b. cond b (x ∷ xs) (s ∷ remove_key (is_at (nat_cmp s)) (x ∷ xs))) (same_test s s ∙ eq-eqb s s refl))
      | inr (inr more) ↦
          let not_here : (x == s) ≡ false = ne_eqb x s (λ e. omega arith) in
          rw (le-ltb s x (omega arith), ne_eqb s x (λ e. omega arith)) (
          ap (λ b. cond b (insert_key nat_cmp xs s) (x ∷ remove_key (is_at (nat_cmp s)) (insert_key nat_cmp xs s))) (same_test s x ∙ not_here)
          ∙ ap (λ ys. x ∷ ys) (insert_removed s xs (sym (ap (λ (b : Bool). b || list_any (λ t. t == s) xs) not_here) ∙ none))
          )
    ]

-- a switch that had joined before stays
pub stayed : (s : ℕ) (wall : Wall) → IsWall wall → has_joined wall s ≡ true → (at_features s wall).state ≡ wall
stayed s wall is joined =
    let same : with_joined s wall ≡ wall = ap (λ (keys : List ℕ). record wall { joined = keys }) (sym (inserted s wall.joined is.ascending) ∙ insert_present s wall.joined is.ascending joined) in
    elim (wall.reinstall || not (has_joined wall s)) as (λ b. (cond b (record { state = with_joined s wall; sent = map {B = ℕ × Message} (λ rule. (s, denial rule)) (rules_of wall) }) (unmoved wall)).state ≡ wall) [ true ↦ same | false ↦ refl ]

-- a switch that had not joined before leaves
pub left : (s : ℕ) (wall inside now : Wall) (keys : List ℕ) → inside ≡ now → now ≡ (at_features s wall).state → has_joined wall s ≡ false → IsWall wall
    → keys ≡ remove_key (is_at (nat_cmp s)) inside.joined → record inside { joined = keys } ≡ wall
left s wall inside now keys view state joined is removed =
    let test : (wall.reinstall || not (has_joined wall s)) ≡ true = or_right wall.reinstall (not (has_joined wall s)) (ap not joined) in
    let at : inside ≡ with_joined s wall = view ∙ state ∙ ap (λ (r : Reaction Wall). r.state) (joins s wall test) in
    ap (λ (all : List ℕ). record inside { joined = all }) removed
    ∙ ap (λ (w : Wall). record w { joined = remove_key (is_at (nat_cmp s)) w.joined }) at
    ∙ ap (λ (all : List ℕ). record wall { joined = remove_key (is_at (nat_cmp s)) all }) (sym (inserted s wall.joined is.ascending))
    ∙ ap (λ (all : List ℕ). record wall { joined = all }) (insert_removed s wall.joined joined)
