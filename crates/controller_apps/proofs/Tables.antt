-- Entries in order as finite maps, and what is known after a change.
use Rattle.std.proofs.Common.{◌≡◌, ◌≢◌, ◌∙◌, ◌==◌, ℕ, true, false, List, [], ◌∷◌, cond, Option, Some, None, IsSome, BTreeMap, nat_cmp, is_eq, unwrap_or, option_and_then, ap, arith, inl, inr, refl, sym, subst}
use Rattle.std.proofs.lemmas.Bool.{cases_eq, cases_order, eq-eqb, le-ltb, lt-ltb, ne_eqb}
use Rattle.std.specs.BTreeMap.{UpdatesBy, WritesThrough, is_at}
use Rattle.std.specs.BTreeMap as tree
use Rattle.std.specs.Cmp.{eq_by_cmp_equiv, nat_cmp_total}
use Rattle.std.specs.FinMap.{FinMap, empty, find, from_entries, get, insert, remove, get-empty, get-from_entries, get-insert, get-remove, nat_cmp-IsAntisymmetric, same_map}
use Rattle.std.specs.Map.{lookup}
use Rattle.std.specs.Ordering.{eq_by_cmp}
use Rattle.controller_apps.specs.Ports.{AtSwitch, Ports, port_at, with_port, without_switch}

-- ---- numbers as keys

-- two numbers tie where they are the same
ties : (q k : ℕ) → eq_by_cmp nat_cmp q k ≡ (q == k)
ties q k =
    elim (cases_order q k) [
      | inl same ↦ rw (le-ltb q k (omega arith), eq-eqb q k same) refl
      | inr (inl less) ↦ rw (lt-ltb q k less, ne_eqb q k (λ e. omega arith)) refl
      | inr (inr more) ↦ rw (le-ltb q k (omega arith), ne_eqb q k (λ e. omega arith)) refl
    ]

pub ties_itself : (k : ℕ) → eq_by_cmp nat_cmp k k ≡ true
ties_itself k = ties k k ∙ eq-eqb k k refl

pub apart : (q k : ℕ) → q ≢ k → eq_by_cmp nat_cmp q k ≡ false
apart q k not = ties q k ∙ ne_eqb q k not

-- ---- entries

find_lookup : {X : Type 0} (q : ℕ) (es : List (ℕ × X)) → find nat_cmp q es ≡ lookup (is_at (nat_cmp q)) es
find_lookup q [] = refl
find_lookup q (e ∷ es) = ap (cond (is_eq (nat_cmp q e.0)) (Some e.1)) (find_lookup q es)

-- the map of entries has at a key what a look-up finds
pub get_view : {X : Type 0} (es : List (ℕ × X)) (q : ℕ) → get (from_entries {R = nat_cmp} es) q ≡ lookup (is_at (nat_cmp q)) es
get_view es q = get-from_entries nat_cmp_total es q ∙ find_lookup q es

-- a value is put
pub view_updated : {X : Type 0} (old new : BTreeMap ℕ X) (k : ℕ) (v : X) → UpdatesBy nat_cmp (nat_cmp k) old new (Some v)
    → from_entries {R = nat_cmp} new.entries ≡ insert (from_entries {R = nat_cmp} old.entries) k v
view_updated {X} old new k v updates =
    same_map nat_cmp_total nat_cmp-IsAntisymmetric _ _ (λ q.
    get_view new.entries q ∙ updates.0 q ∙ ap (λ b. cond b (Some v) (tree.get nat_cmp old q)) ((eq_by_cmp_equiv nat_cmp_total).symm k q)
    ∙ ap (cond (eq_by_cmp nat_cmp q k) (Some v)) (sym (get_view old.entries q)) ∙ sym (get-insert nat_cmp_total (from_entries old.entries) k v q))

-- a key is taken out
pub view_removed : {X : Type 0} (old new : BTreeMap ℕ X) (k : ℕ) → UpdatesBy nat_cmp (nat_cmp k) old new None
    → from_entries {R = nat_cmp} new.entries ≡ remove (from_entries {R = nat_cmp} old.entries) k
view_removed {X} old new k updates =
    same_map nat_cmp_total nat_cmp-IsAntisymmetric _ _ (λ q.
    get_view new.entries q ∙ updates.0 q ∙ ap (λ b. cond b None (tree.get nat_cmp old q)) ((eq_by_cmp_equiv nat_cmp_total).symm k q)
    ∙ ap (cond (eq_by_cmp nat_cmp q k) None) (sym (get_view old.entries q)) ∙ sym (get-remove nat_cmp_total (from_entries old.entries) k q))

-- to put again what stands there changes nothing
pub insert_same : {X : Type 0} (m : FinMap nat_cmp X) (k : ℕ) (v : X) → get m k ≡ Some v → insert m k v ≡ m
insert_same m k v is =
    same_map nat_cmp_total nat_cmp-IsAntisymmetric _ _ (λ q. get-insert nat_cmp_total m k v q ∙ elim (cases_eq q k) [
      | inl same ↦ subst (λ n. cond (eq_by_cmp nat_cmp n k) (Some v) (get m n) ≡ get m n) (sym same) (ap (λ b. cond b (Some v) (get m k)) (ties_itself k) ∙ sym is)
      | inr not ↦ ap (λ b. cond b (Some v) (get m q)) (apart q k not)
    ])

-- ---- what is known

-- at a switch of which nothing is known no address is known
known_there : (there : Option AtSwitch) (address : ℕ) → get (unwrap_or there empty) address ≡ option_and_then (λ at. get at address) there
known_there None address = get-empty nat_cmp address
known_there (Some at) address = refl

-- what is known at a switch where an address was learnt
pub port_at_same : (s address port other : ℕ) (ports : Ports) → port_at s other (with_port s address port ports) ≡ cond (other == address) (Some port) (port_at s other ports)
port_at_same s address port other ports =
    let before = unwrap_or (get ports s) empty in
    ap (option_and_then (λ at. get at other)) (get-insert nat_cmp_total ports s (insert before address port) s ∙ ap (λ b. cond b (Some (insert before address port)) (get ports s)) (ties_itself s))
    ∙ get-insert nat_cmp_total before address port other ∙ ap (λ b. cond b (Some port) (get before other)) (ties other address)
    ∙ ap (cond (other == address) (Some port)) (known_there (get ports s) other)

-- and at another switch
pub port_at_other : (s t address port other : ℕ) (ports : Ports) → t ≢ s → port_at t other (with_port s address port ports) ≡ port_at t other ports
port_at_other s t address port other ports not =
    let before = unwrap_or (get ports s) empty in
    ap (option_and_then (λ at. get at other)) (get-insert nat_cmp_total ports s (insert before address port) t ∙ ap (λ b. cond b (Some (insert before address port)) (get ports t)) (apart t s not))

-- what is known once a switch is forgotten
pub port_at_forgotten : (s other : ℕ) (ports : Ports) → port_at s other (without_switch s ports) ≡ None
port_at_forgotten s other ports = ap (option_and_then (λ at. get at other)) (get-remove nat_cmp_total ports s s ∙ ap (λ b. cond b None (get ports s)) (ties_itself s))

pub port_at_kept : (s t other : ℕ) (ports : Ports) → t ≢ s → port_at t other (without_switch s ports) ≡ port_at t other ports
port_at_kept s t other ports not = ap (option_and_then (λ at. get at other)) (get-remove nat_cmp_total ports s t ∙ ap (λ b. cond b None (get ports t)) (apart t s not))

-- where a packet goes once its source is learnt: home, if it goes to its own source, else where that was known
pub way_home : (s source port other : ℕ) (ports : Ports) → other ≡ source → Some port ≡ port_at s other (with_port s source port ports)
way_home s source port other ports same = sym (port_at_same s source port other ports ∙ ap (λ b. cond b (Some port) (port_at s other ports)) (eq-eqb other source same))

pub way_known : (s source port other : ℕ) (ports : Ports) → other ≢ source → port_at s other ports ≡ port_at s other (with_port s source port ports)
way_known s source port other ports not = sym (port_at_same s source port other ports ∙ ap (λ b. cond b (Some port) (port_at s other ports)) (ne_eqb other source not))

-- ---- the table of all switches

-- what a table finds at a switch, as entries and as a map
pub there : {X : Type 0} (m : BTreeMap ℕ X) (ports : FinMap nat_cmp X) (s : ℕ) (o : Option X) → from_entries {R = nat_cmp} m.entries ≡ ports → o ≡ tree.get nat_cmp m s → o ≡ get ports s
there m ports s o view is = is ∙ sym (get_view m.entries s) ∙ ap (λ all. get all s) view

-- a value that is in the table is written
pub switch_written : {X : Type 0} (m n : BTreeMap ℕ X) (ports : FinMap nat_cmp X) (s : ℕ) (before after : X) → from_entries {R = nat_cmp} m.entries ≡ ports → Some before ≡ tree.get nat_cmp m s
    → WritesThrough nat_cmp (nat_cmp s) m after n → from_entries {R = nat_cmp} n.entries ≡ insert ports s after
switch_written m n ports s before after view is written = view_updated m n s after (written.3 (subst IsSome is refl)) ∙ ap (λ all. insert all s after) view

-- an address is learnt at a switch that is in the table
pub learnt_there : (m n : BTreeMap ℕ AtSwitch) (ports : Ports) (s address port : ℕ) (before after : AtSwitch) → from_entries {R = nat_cmp} m.entries ≡ ports → Some before ≡ tree.get nat_cmp m s
    → WritesThrough nat_cmp (nat_cmp s) m after n → after ≡ insert before address port → from_entries {R = nat_cmp} n.entries ≡ with_port s address port ports
learnt_there m n ports s address port before after view is written put =
    switch_written m n ports s before after view is written ∙ ap (insert ports s) put
    ∙ ap (λ o. insert ports s (insert (unwrap_or o empty) address port)) (there m ports s (Some before) view is)

-- nothing was learnt at a switch that is in the table
pub kept_there : (m n : BTreeMap ℕ AtSwitch) (ports : Ports) (s : ℕ) (before after : AtSwitch) → from_entries {R = nat_cmp} m.entries ≡ ports → Some before ≡ tree.get nat_cmp m s
    → WritesThrough nat_cmp (nat_cmp s) m after n → after ≡ before → from_entries {R = nat_cmp} n.entries ≡ ports
kept_there m n ports s before after view is written same =
    switch_written m n ports s before after view is written ∙ ap (insert ports s) same ∙ insert_same ports s before (sym (there m ports s (Some before) view is))

-- an address is learnt at a switch that was not in the table
pub learnt_first : (m n : BTreeMap ℕ AtSwitch) (ports : Ports) (s address port : ℕ) (after : AtSwitch) → from_entries {R = nat_cmp} m.entries ≡ ports → None ≡ tree.get nat_cmp m s
    → UpdatesBy nat_cmp (nat_cmp s) m n (Some after) → after ≡ insert empty address port → from_entries {R = nat_cmp} n.entries ≡ with_port s address port ports
learnt_first m n ports s address port after view none updates put =
    view_updated m n s after updates ∙ ap (λ all. insert all s after) view ∙ ap (insert ports s) put
    ∙ ap (λ o. insert ports s (insert (unwrap_or o empty) address port)) (there m ports s None view none)
