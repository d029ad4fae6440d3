-- A search in depth of the walks from a node, as far as it has come. Its nodes are of any kind; `goes` tells where one comes to by
-- the output at a place, `ends` which outputs end a walk so that it is forbidden, and `loop` whether it is forbidden to come back.
use Rattle.std.specs.Prelude.{◌≡◌, ◌<◌, ◌⊎◌, ◌-◌, ◌++◌, ℕ, Bool, true, false, List, [], ◌∷◌, map}

-- a thing is one of a list
abbrev pub In : {A : Type 0} → A → List A → Type 0
In x [] = ⊥
In x (y ∷ ys) = (x ≡ y) ⊎ In x ys

-- no thing stands twice
abbrev pub Differ : {A : Type 0} → List A → Type 0
Differ [] = Unit {0}
Differ (x ∷ xs) = (In x xs → ⊥) × Differ xs

-- one list of places comes before another
abbrev pub Before : List ℕ → List ℕ → Type 0
Before [] [] = ⊥
Before [] (y ∷ ys) = Unit {0}
Before (x ∷ xs) [] = ⊥
Before (x ∷ xs) (y ∷ ys) = (x < y) ⊎ ((x ≡ y) × Before xs ys)

-- A forbidden walk from a node by outputs at these places, where some nodes were seen before: it comes to new nodes alone, and its
-- last output ends it, or comes back where that is forbidden.
abbrev pub Forbidden : {N : Type 0} → (N → ℕ → N → Type 0) → (N → ℕ → Type 0) → Bool → List N → N → List ℕ → Type 0
Forbidden goes ends loop seen x [] = ⊥
Forbidden goes ends loop seen x (q ∷ []) = ends x q ⊎ ((loop ≡ true) × ((y : _) × goes x q y × In y (x ∷ seen)))
Forbidden goes ends loop seen x (q ∷ r ∷ qs) = (y : _) × goes x q y × (In y (x ∷ seen) → ⊥) × Forbidden goes ends loop (x ∷ seen) y (r ∷ qs)

-- the nodes of a path, the last one first, each with the place of the output that is to be tried next
abbrev pub nodes_of : {N : Type 0} → List (N × ℕ) → List N
nodes_of path = map (λ step. step.0) path

-- the places of the outputs that lead along a path
abbrev pub places_of : {N : Type 0} → List (N × ℕ) → List ℕ
places_of [] = []
places_of (step ∷ path) = places_of path ++ (step.1 - 1) ∷ []

-- A path, the last node first, leads from a node to another.
abbrev pub Leads : {N : Type 0} → (N → ℕ → N → Type 0) → N → N → List (N × ℕ) → Type 0
Leads goes from to [] = to ≡ from
Leads goes from to (step ∷ path) = (0 < step.1) × goes step.0 (step.1 - 1) to × Leads goes from step.0 path

-- The output at a place ends no walk so that it is forbidden, and leads to finished nodes alone, or back to one of all where that is
-- not forbidden.
pub record Tried {N : Type 0} (goes : N → ℕ → N → Type 0) (ends : N → ℕ → Type 0) (loop : Bool) (all finished : List N) (x : N) (q : ℕ) : Type 0 where
  pub free : ends x q → ⊥
  pub leads : (y : N) → goes x q y → In y finished ⊎ ((loop ≡ false) × In y all)

-- Of each node of a path the outputs before the next one are tried, and lead to nodes finished or later on the path.
abbrev pub AllTried : {N : Type 0} → (N → ℕ → N → Type 0) → (N → ℕ → Type 0) → Bool → List N → List N → List (N × ℕ) → Type 0
AllTried goes ends loop all finished [] = Unit {0}
AllTried goes ends loop all finished (step ∷ path) =
    ((q : ℕ) → q < step.1 → Tried goes ends loop all finished step.0 q) × AllTried goes ends loop all (step.0 ∷ finished) path

-- Of each node of a list, the last one first, all outputs are tried, and lead to nodes finished before.
abbrev pub AllDone : {N : Type 0} → (N → ℕ → N → Type 0) → (N → ℕ → Type 0) → Bool → List N → List N → Type 0
AllDone goes ends loop all [] = Unit {0}
AllDone goes ends loop all (x ∷ done) = ((q : ℕ) → Tried goes ends loop all done x q) × AllDone goes ends loop all done

-- A search from a node has come to a node x, whose outputs before the place n are tried, by a path; the done nodes are left again.
pub record IsSearch {N : Type 0} (goes : N → ℕ → N → Type 0) (ends : N → ℕ → Type 0) (loop : Bool) (from x : N) (n : ℕ) (path : List (N × ℕ)) (done : List N) : Type 0 where
  pub leads : Leads goes from x path
  pub differ : Differ (x ∷ nodes_of path ++ done)
  pub tried : AllTried goes ends loop (x ∷ nodes_of path ++ done) done ((x, n) ∷ path)
  pub finished : AllDone goes ends loop (x ∷ nodes_of path ++ done) done
  pub none : (places : List ℕ) → Forbidden goes ends loop [] from places → Before places (places_of path ++ n ∷ []) → ⊥
