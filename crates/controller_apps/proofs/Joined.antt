-- The switches that have joined a firewall, and how much it sends.
use Rattle.std.proofs.Common.{◌≡◌, ◌∙◌, ◌+◌, ◌<◌, ◌≤◌, ◌^◌, ◌==◌, ◌||◌, ℕ, List, [], ◌∷◌, ◌++◌, Bool, true, false, cond, All, filter, length, map, nat_lt, nat_cmp, not, suc, Result, Ok, Err, OnOk, OnErr, ap, arith, inl, inr, refl, sym, subst}
use Rattle.std.proofs.lemmas.Bool.{cases_order, eq-eqb, le-ltb, lt-ltb, ne_eqb}
use Rattle.std.proofs.lemmas.List.{length-append, length-map}
use Rattle.std.proofs.lemmas.List.Elements.{All-append, All-cons, All-head, All-nil, All-push, All-tail}
use Rattle.std.proofs.lemmas.Map.Keys.{below_from_sorted, sorted_tail}
use Rattle.std.specs.BTreeMap.{is_at}
use Rattle.std.specs.BTreeSet.{insert_key}
use Rattle.std.specs.List.Sorted.{IsStrictlySortedBy}
use Rattle.controller_api.specs.Reaction.{Reaction}
use Rattle.controller_api.specs.declared.item.UpItem.{UpItem}
use Rattle.controller_api.specs.declared.item.UpItem.TheVariants.{FromSwitch, Gone, Policy}
use Rattle.controller_apps.specs.Firewall.{IsWall, Wall, at_features, denial, guarding, has_joined, rules_of, unmoved, with_joined}
use Rattle.of10_match.specs.Match.{IsValidMatch}
use Rattle.of10_match.specs.declared.matches.Match.{Match}
use Rattle.of10_messages.specs.declared.message.Message.TheVariants.{FeaturesReply}

-- ---- filters

filter_every : {X : Type 0} (p : X → Bool) (xs : List X) → All (λ x. p x ≡ true) xs → filter p xs ≡ xs
filter_every p [] all = refl
filter_every p (x ∷ xs) all = rw (All-head (λ y. p y ≡ true) x xs all) (ap (λ ys. x ∷ ys) (filter_every p xs (All-tail (λ y. p y ≡ true) x xs all)))

filter_no : {X : Type 0} (p : X → Bool) (xs : List X) → All (λ x. p x ≡ false) xs → filter p xs ≡ []
filter_no p [] all = refl
filter_no p (x ∷ xs) all = rw (All-head (λ y. p y ≡ false) x xs all) (filter_no p xs (All-tail (λ y. p y ≡ false) x xs all))

-- what holds of each element holds of those that a filter keeps
all_kept : {X : Type 0} (P : X → Type 0) (p : X → Bool) (xs : List X) → All P xs → All P (filter p xs)
all_kept P p [] all = All-nil P
all_kept P p (x ∷ xs) all =
    let rest = all_kept P p xs (All-tail P x xs all) in
    elim (p x) as (λ b. All P (cond b (x ∷ filter p xs) (filter p xs))) [ true ↦ All-cons P x (filter p xs) (All-head P x xs all) rest | false ↦ rest ]

-- ---- switches in ascending order

pub all_above : (x : ℕ) (xs : List ℕ) → IsStrictlySortedBy nat_cmp (x ∷ xs) → All (λ y. x < y) xs
all_above x xs sorted = λ k d within. below_from_sorted (x ∷ xs) 0 (suc k) d sorted (omega arith) (omega arith)

-- where a number is put among ascending ones, those below it stand before it and those above it after it
pub inserted : (s : ℕ) (xs : List ℕ) → IsStrictlySortedBy nat_cmp xs → insert_key nat_cmp xs s ≡ filter (λ t. nat_lt t s) xs ++ s ∷ filter (λ t. nat_lt s t) xs
inserted s [] sorted = refl
inserted s (x ∷ xs) sorted =
    let above = all_above x xs sorted in
    elim (cases_order s x) [
      | inl same ↦
          let none : filter (λ t. nat_lt t s) xs ≡ [] = filter_no (λ t. nat_lt t s) xs (λ k d within. let more = above k d within in le-ltb _ s (omega arith)) in
          let every : filter (λ t. nat_lt s t) xs ≡ xs = filter_every (λ t. nat_lt s t) xs (λ k d within. let more = above k d within in lt-ltb s _ (omega arith)) in
          rw (le-ltb s x (omega arith), le-ltb x s (omega arith), eq-eqb s x same, none, every) (ap (λ y. y ∷ xs) (sym same))
      | inr (inl less) ↦
          let none : filter (λ t. nat_lt t s) xs ≡ [] = filter_no (λ t. nat_lt t s) xs (λ k d within. let more = above k d within in le-ltb _ s (omega arith)) in
          let every : filter (λ t. nat_lt s t) xs ≡ xs = filter_every (λ t. nat_lt s t) xs (λ k d within. let more = above k d within in lt-ltb s _ (omega arith)) in
          rw (lt-ltb s x less, le-ltb x s (omega arith), none, every) refl
      | inr (inr more) ↦ rw (le-ltb s x (omega arith), lt-ltb x s more, ne_eqb s x (λ e. omega arith)) (ap (λ ys. x ∷ ys) (inserted s xs (sorted_tail nat_cmp x xs sorted)))
    ]

-- whether a switch is among them
pub same_test : (s t : ℕ) → is_at (nat_cmp s) t ≡ (t == s)
same_test s t =
    elim (cases_order s t) [
      | inl same ↦ rw (le-ltb s t (omega arith), eq-eqb s t same, eq-eqb t s (sym same)) refl
      | inr (inl less) ↦ rw (lt-ltb s t less, ne_eqb t s (λ e. omega arith)) refl
      | inr (inr more) ↦ rw (le-ltb s t (omega arith), ne_eqb s t (λ e. omega arith), ne_eqb t s (λ e. omega arith)) refl
    ]

-- ascending numbers below a bound are no more than the bound
fit_between : (x : ℕ) (xs : List ℕ) (bound : ℕ) → IsStrictlySortedBy nat_cmp (x ∷ xs) → All (λ y. y < bound) (x ∷ xs) → x + length (x ∷ xs) ≤ bound
fit_between x [] bound sorted all = let below = All-head (λ y. y < bound) x [] all in omega arith
fit_between x (y ∷ ys) bound sorted all =
    let rest = fit_between y ys bound (sorted_tail nat_cmp x (y ∷ ys) sorted) (All-tail (λ z. z < bound) x (y ∷ ys) all) in
    let less = All-head (λ z. x < z) y ys (all_above x (y ∷ ys) sorted) in
    omega arith

few_joined : (xs : List ℕ) (bound : ℕ) → IsStrictlySortedBy nat_cmp xs → All (λ y. y < bound) xs → length xs ≤ bound
few_joined [] bound sorted all = omega arith
few_joined (x ∷ xs) bound sorted all = let all_of = fit_between x xs bound sorted all in omega arith

-- ---- the firewall

-- a switch of 16 bits has joined too
pub wall_joined : (s : ℕ) (wall : Wall) → s < 2 ^ 16 → IsStrictlySortedBy nat_cmp (with_joined s wall).joined → IsWall wall → IsWall (with_joined s wall)
wall_joined s wall below sorted is = record {
  few = is.few;
  first = is.first;
  later = is.later;
  ascending = sorted;
  narrow = All-append (λ t. t < 2 ^ 16) (filter (λ t. nat_lt t s) wall.joined) (s ∷ filter (λ t. nat_lt s t) wall.joined) (all_kept (λ t. t < 2 ^ 16) (λ t. nat_lt t s) wall.joined is.narrow)
      (All-cons (λ t. t < 2 ^ 16) s (filter (λ t. nat_lt s t) wall.joined) below (all_kept (λ t. t < 2 ^ 16) (λ t. nat_lt s t) wall.joined is.narrow));
}

-- the same of the switches as they are kept
pub joined_is : (s : ℕ) (wall : Wall) (keys : List ℕ) → IsWall wall → keys ≡ insert_key nat_cmp wall.joined s → record wall { joined = keys } ≡ with_joined s wall
joined_is s wall keys is put = ap (λ (joined : List ℕ). record wall { joined = joined }) (put ∙ inserted s wall.joined is.ascending)

pub wall_inserted : (s : ℕ) (wall : Wall) (keys : List ℕ) → s < 2 ^ 16 → IsWall wall → keys ≡ insert_key nat_cmp wall.joined s → IsStrictlySortedBy nat_cmp keys → IsWall (record wall { joined = keys })
wall_inserted s wall keys below is put sorted =
    let all = put ∙ inserted s wall.joined is.ascending in
    subst IsWall (sym (joined_is s wall keys is put)) (wall_joined s wall below (subst (IsStrictlySortedBy nat_cmp) all sorted) is)

-- a switch that has not joined, or to which the rules are put again, joins
pub joins : (s : ℕ) (wall : Wall) → (wall.reinstall || not (has_joined wall s)) ≡ true → at_features s wall ≡ record { state = with_joined s wall; sent = map (λ rule. (s, denial rule)) (rules_of wall) }
joins s wall test = rw test refl

pub joined_state : (s : ℕ) (wall now : Wall) (keys : List ℕ) → wall ≡ now → IsWall wall → (wall.reinstall || not (has_joined wall s)) ≡ true → keys ≡ insert_key nat_cmp wall.joined s
    → record wall { joined = keys } ≡ (at_features s now).state
joined_state s wall now keys view is test put = joined_is s wall keys is put ∙ ap (λ (r : Reaction Wall). r.state) (sym (joins s wall test)) ∙ ap (λ (w : Wall). (at_features s w).state) view

-- a valid policy is kept, or none
pub policy_kept : {E : Type 0} (result : Result (Unit {0}) E) (rules new : List Match) (deny : Match) → OnOk result (new ≡ rules ++ deny ∷ []) → OnErr result (new ≡ rules)
    → All IsValidMatch rules → IsValidMatch deny → All IsValidMatch new
policy_kept (Ok done) rules new deny put same valid one = subst (All IsValidMatch) (sym put) (All-push IsValidMatch rules deny valid one)
policy_kept (Err error) rules new deny put same valid one = subst (All IsValidMatch) (sym same) valid

-- ---- how much is sent

short_map : {A B : Type 0} (f : A → B) (xs : List A) (bound : ℕ) → length xs < bound → length (map f xs) < bound
short_map f xs bound less = rw (length-map xs f) less

few_rules : (b : Bool) (s : ℕ) (wall : Wall) → IsWall wall → length wall.policies < 2 ^ 24
    → length (cond b (record { state = with_joined s wall; sent = map (λ rule. (s, denial rule)) (rules_of wall) }) (unmoved wall)).sent < 2 ^ 25
few_rules true s wall is policies =
    short_map (λ (rule : Match). (s, denial rule)) (rules_of wall) (2 ^ 25)
    (let both : length (rules_of wall) ≡ length wall.made + length wall.policies = length-append wall.made wall.policies in let few = is.few in omega arith)
few_rules false s wall is policies = omega arith

-- at an item few messages are sent
pub few_sent : (wall : Wall) (item : UpItem) → IsWall wall → length wall.policies < 2 ^ 24 → length (guarding wall item).sent < 2 ^ 25
few_sent wall (FromSwitch s (FeaturesReply xid features)) is policies = few_rules _ s wall is policies
few_sent wall (FromSwitch s _) is policies = omega arith
few_sent wall (Gone s) is policies = omega arith
few_sent wall (Policy deny) is policies = short_map (λ (s : ℕ). (s, denial deny)) wall.joined (2 ^ 25) (let few = few_joined wall.joined (2 ^ 16) is.ascending is.narrow in omega arith)
