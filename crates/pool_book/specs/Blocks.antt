-- What stands where in the list of all names, part by part.
use Rattle.std.proofs.Common.{◌≡◌, ◌∙◌, ◌⊎◌, ℕ, ◌+◌, ◌-◌, ◌*◌, ◌<◌, ◌≤◌, List, [], ◌∷◌, ◌++◌, length, map, take, get_or, slice_get, Some, zero, suc, sum, add-one, ap, arith, inl, inr, refl, sym}
use Rattle.std.specs.Prelude.{flat_map, slice_index_or}
use Rattle.std.specs.List.{enumerate_from, range_with_len}
use Rattle.std.proofs.lemmas.List.{append-nil, append_assoc, length-append}
use Rattle.std.proofs.lemmas.List.FromFn.{length-map-range_with_len, map-range_with_len_more}
use Rattle.std.proofs.lemmas.List.Sums.{sum_by-cons}
use Rattle.pool_book.specs.declared.name.PoolName.{PoolName}
use Rattle.pool_book.specs.declared.name.PoolName.TheVariants.{Pkt, App}

-- ---- lists put together

pub at_left : {A : Type 0} (xs ys : List A) (k : ℕ) (x : A) → slice_get xs k ≡ Some x → slice_get (xs ++ ys) k ≡ Some x
at_left [] ys k x e = absurd cc
at_left (y ∷ xs) ys zero x e = e
at_left (y ∷ xs) ys (suc k) x e = at_left xs ys k x e

pub at_right : {A : Type 0} (xs ys : List A) (n j k : ℕ) → length xs ≡ n → k ≡ n + j → slice_get (xs ++ ys) k ≡ slice_get ys j
at_right [] ys n j k long e = ap (slice_get ys) (omega arith)
at_right (y ∷ xs) ys n j zero long e = absurd (omega arith)
at_right (y ∷ xs) ys n j (suc k) long e = at_right xs ys (length xs) j k refl (omega arith)

-- where an element of two lists that are put together stands
pub which_part : {A : Type 0} (xs ys : List A) (n k : ℕ) (x : A) → length xs ≡ n → slice_get (xs ++ ys) k ≡ Some x → (slice_get xs k ≡ Some x) ⊎ ((j : ℕ) × (k ≡ n + j) × (slice_get ys j ≡ Some x))
which_part [] ys n k x long e = inr (k, omega arith, e)
which_part (y ∷ xs) ys n zero x long e = inl e
which_part (y ∷ xs) ys n (suc k) x long e =
    elim (which_part xs ys (length xs) k x refl e) [
      | inl here ↦ inl here
      | inr (j, at, there) ↦ inr (j, omega arith, there)
    ]

-- ---- one name for each number of a range

pub at_range : {A : Type 0} (f : ℕ → A) (a n i j : ℕ) → i < n → a + i ≡ j → slice_get (map f (range_with_len a n)) i ≡ Some (f j)
at_range f a zero i j lt e = absurd (omega arith)
at_range f a (suc n) zero j lt e = let same : a ≡ j = omega arith in ap (λ m. Some (f m)) same
at_range f a (suc n) (suc i) j lt e = at_range f (a + 1) n i j (omega arith) (omega arith)

pub in_range : {A : Type 0} (f : ℕ → A) (a n k j : ℕ) (x : A) → a + k ≡ j → slice_get (map f (range_with_len a n)) k ≡ Some x → (k < n) × (x ≡ f j)
in_range f a zero k j x at e = absurd cc
in_range f a (suc n) zero j x at e = let same : a ≡ j = omega arith in let here : x ≡ f a = cc in (omega arith, here ∙ ap f same)
in_range f a (suc n) (suc k) j x at e =
    let below = in_range f (a + 1) n k j x (omega arith) e in
    (omega (arith, below.0), below.1)

-- ---- the ports of all switches

-- the names of the pools at the ports, where switches are numbered from one on
abbrev pub port_names : ℕ → List ℕ → List PoolName
port_names first ports = flat_map (λ switch. map (Pkt switch.0) (range_with_len 1 switch.1)) (enumerate_from first ports)

pub length_port_names : (first : ℕ) (ports : List ℕ) → length (port_names first ports) ≡ sum ports
length_port_names first [] = refl
length_port_names first (count ∷ ports) =
    length-append (map (Pkt first) (range_with_len 1 count)) (port_names (first + 1) ports)
    ∙ (let one = length-map-range_with_len (Pkt first) 1 count in let rest = length_port_names (first + 1) ports in let all = sum_by-cons (λ (x : ℕ). x) count ports in omega arith)

pub at_port : (first : ℕ) (ports : List ℕ) (s t p k : ℕ) → first + s ≡ t → 0 < p → p ≤ slice_index_or ports s 0 → k ≡ sum (take s ports) + (p - 1) → slice_get (port_names first ports) k ≡ Some (Pkt t p)
at_port first [] s t p k e above within at = absurd (omega arith)
at_port first (count ∷ ports) zero t p k e above within at =
    let same : first ≡ t = omega arith in
    at_left (map (Pkt first) (range_with_len 1 count)) (port_names (first + 1) ports) k (Pkt t p) (at_range (Pkt first) 1 count k p (omega arith) (omega arith) ∙ ap (λ r. Some (Pkt r p)) same)
at_port first (count ∷ ports) (suc s) t p k e above within at =
    let all = sum_by-cons (λ (x : ℕ). x) count (take s ports) in
    at_right (map (Pkt first) (range_with_len 1 count)) (port_names (first + 1) ports) count (sum (take s ports) + (p - 1)) k (length-map-range_with_len (Pkt first) 1 count) (omega arith)
    ∙ at_port (first + 1) ports s t p (sum (take s ports) + (p - 1)) (omega arith) above within refl

pub in_ports : (first : ℕ) (ports : List ℕ) (k : ℕ) (name : PoolName) → slice_get (port_names first ports) k ≡ Some name → (s : ℕ) × (t : ℕ) × (p : ℕ) × (first + s ≡ t) × (name ≡ Pkt t p) × (0 < p) × (p ≤ slice_index_or ports s 0) × (k ≡ sum (take s ports) + (p - 1))
in_ports first [] k name e = absurd cc
in_ports first (count ∷ ports) k name e =
    elim (which_part (map (Pkt first) (range_with_len 1 count)) (port_names (first + 1) ports) count k name (length-map-range_with_len (Pkt first) 1 count) e) [
      | inl here ↦ let at = in_range (Pkt first) 1 count k (1 + k) name refl here in let below = at.0 in (0, first, 1 + k, omega arith, at.1, omega arith, omega arith, omega arith)
      | inr (j, at, there) ↦
          let rest = in_ports (first + 1) ports j name there in
          let all = sum_by-cons (λ (x : ℕ). x) count (take rest.0 ports) in
          (suc rest.0, rest.1, rest.2, omega (arith, rest.3), rest.4, rest.5, rest.6, omega (arith, rest.7))
    ]

-- ---- the messages to all controllers

-- the names of the pools of messages to controllers, where those are numbered from one on
abbrev pub app_names : ℕ → ℕ → ℕ → List PoolName
app_names first switches controllers = flat_map (λ c. map (App c) (range_with_len 0 switches)) (range_with_len first controllers)

pub length_app_names : (first switches controllers : ℕ) → length (app_names first switches controllers) ≡ controllers * switches
length_app_names first switches zero = omega arith
length_app_names first switches (suc controllers) =
    length-append (map (App first) (range_with_len 0 switches)) (app_names (first + 1) switches controllers)
    ∙ (let one = length-map-range_with_len (App first) 0 switches in let rest = length_app_names (first + 1) switches controllers in omega arith)

pub at_app : (first switches controllers c t s k : ℕ) → first + c ≡ t → c < controllers → s < switches → k ≡ c * switches + s → slice_get (app_names first switches controllers) k ≡ Some (App t s)
at_app first switches zero c t s k e below within at = absurd (omega arith)
at_app first switches (suc controllers) zero t s k e below within at =
    let same : first ≡ t = omega arith in
    at_left (map (App first) (range_with_len 0 switches)) (app_names (first + 1) switches controllers) k (App t s) (at_range (App first) 0 switches k s (omega arith) (omega arith) ∙ ap (λ r. Some (App r s)) same)
at_app first switches (suc controllers) (suc c) t s k e below within at =
    at_right (map (App first) (range_with_len 0 switches)) (app_names (first + 1) switches controllers) switches (c * switches + s) k (length-map-range_with_len (App first) 0 switches) (omega arith)
    ∙ at_app (first + 1) switches controllers c t s (c * switches + s) (omega arith) (omega arith) within refl

pub in_apps : (first switches controllers k : ℕ) (name : PoolName) → slice_get (app_names first switches controllers) k ≡ Some name → (c : ℕ) × (t : ℕ) × (s : ℕ) × (first + c ≡ t) × (name ≡ App t s) × (c < controllers) × (s < switches) × (k ≡ c * switches + s)
in_apps first switches zero k name e = absurd cc
in_apps first switches (suc controllers) k name e =
    elim (which_part (map (App first) (range_with_len 0 switches)) (app_names (first + 1) switches controllers) switches k name (length-map-range_with_len (App first) 0 switches) e) [
      | inl here ↦ let at = in_range (App first) 0 switches k k name (omega arith) here in (0, first, k, omega arith, at.1, omega arith, at.0, omega arith)
      | inr (j, at, there) ↦
          let rest = in_apps (first + 1) switches controllers j name there in
          (suc rest.0, rest.1, rest.2, omega (arith, rest.3), rest.4, omega (arith, rest.5), rest.6, omega (arith, rest.7))
    ]

-- ---- one part more

next_ports : (first : ℕ) (ports : List ℕ) (s t : ℕ) (d : ℕ) → s < length ports → first + s ≡ t → port_names first (take (suc s) ports) ≡ port_names first (take s ports) ++ map (Pkt t) (range_with_len 1 (get_or ports s d))
next_ports first [] s t d below e = absurd (omega arith)
next_ports first (count ∷ ports) zero t d below e = let same : first ≡ t = omega arith in append-nil (map (Pkt first) (range_with_len 1 count)) ∙ ap (λ r. map (Pkt r) (range_with_len 1 count)) same
next_ports first (count ∷ ports) (suc s) t d below e =
    ap (λ rest. map (Pkt first) (range_with_len 1 count) ++ rest) (next_ports (first + 1) ports s t d (omega arith) (omega arith))
    ∙ sym (append_assoc (map (Pkt first) (range_with_len 1 count)) (port_names (first + 1) (take s ports)) (map (Pkt t) (range_with_len 1 (get_or ports s d))))

pub port_names_more : (before now after : List PoolName) (ports : List ℕ) (s : ℕ) → s < length ports → now ≡ before ++ port_names 0 (take s ports) → after ≡ now ++ map (Pkt s) (range_with_len 1 (get_or ports s 0)) → after ≡ before ++ port_names 0 (take (s + 1) ports)
port_names_more before now after ports s below e more =
    more ∙ ap (λ xs. xs ++ map (Pkt s) (range_with_len 1 (get_or ports s 0))) e ∙ append_assoc before (port_names 0 (take s ports)) (map (Pkt s) (range_with_len 1 (get_or ports s 0)))
    ∙ ap (λ xs. before ++ xs) (sym (next_ports 0 ports s s 0 below (omega arith)))
    ∙ ap (λ m. before ++ port_names 0 (take m ports)) (sym (add-one s))

next_apps : (first switches controllers t : ℕ) → first + controllers ≡ t → app_names first switches (suc controllers) ≡ app_names first switches controllers ++ map (App t) (range_with_len 0 switches)
next_apps first switches zero t e = let same : first ≡ t = omega arith in append-nil (map (App first) (range_with_len 0 switches)) ∙ ap (λ r. map (App r) (range_with_len 0 switches)) same
next_apps first switches (suc controllers) t e =
    ap (λ rest. map (App first) (range_with_len 0 switches) ++ rest) (next_apps (first + 1) switches controllers t (omega arith))
    ∙ sym (append_assoc (map (App first) (range_with_len 0 switches)) (app_names (first + 1) switches controllers) (map (App t) (range_with_len 0 switches)))

pub app_names_more : (before now after : List PoolName) (switches c : ℕ) → now ≡ before ++ app_names 0 switches c → after ≡ now ++ map (App c) (range_with_len 0 switches) → after ≡ before ++ app_names 0 switches (c + 1)
app_names_more before now after switches c e more =
    more ∙ ap (λ xs. xs ++ map (App c) (range_with_len 0 switches)) e ∙ append_assoc before (app_names 0 switches c) (map (App c) (range_with_len 0 switches))
    ∙ ap (λ xs. before ++ xs) (sym (next_apps 0 switches c c (omega arith)))
    ∙ ap (λ m. before ++ app_names 0 switches m) (sym (add-one c))

-- one name more at the end of names that were there
pub range_more : {A : Type 0} (f : ℕ → A) (before now after : List A) (a n j : ℕ) → now ≡ before ++ map f (range_with_len a n) → after ≡ now ++ f j ∷ [] → a + n ≡ j → after ≡ before ++ map f (range_with_len a (n + 1))
range_more f before now after a n j e push at =
    push ∙ ap (λ xs. xs ++ f j ∷ []) e ∙ append_assoc before (map f (range_with_len a n)) (f j ∷ []) ∙ ap (λ xs. before ++ xs) (sym (map-range_with_len_more f a n j at))
