-- Links get numbers for their switches, one after another.
use Rattle.std.proofs.Common.{◌≡◌, ◌∙◌, ℕ, ◌+◌, ◌<◌, List, [], ◌∷◌, ◌++◌, All, Contains, get_or, length, map, take, ap, sym}
use Rattle.std.proofs.lemmas.List.{map_push, take_more}
use Rattle.std.proofs.lemmas.List.Elements.{All-more, All-weaker}
use Rattle.route_app.specs.Table.{named}

abbrev pub Link : Type 0
Link = ℕ × ℕ × ℕ × ℕ

-- both ends of a link are in a list
abbrev pub HasEnds : List ℕ → Link → Type 0
HasEnds xs link = Contains xs link.0 × Contains xs link.2

pub ends_more : (links : List Link) (i : ℕ) (xs ys zs : List ℕ) → i < length links → All (HasEnds xs) (take i links)
    → Contains ys (get_or links i (0, 0, 0, 0)).0 → ((t : ℕ) → Contains xs t → Contains ys t) → Contains zs (get_or links i (0, 0, 0, 0)).2 → ((t : ℕ) → Contains ys t → Contains zs t)
    → All (HasEnds zs) (take (i + 1) links)
ends_more links i xs ys zs within before first one second two =
    All-more (HasEnds zs) links i (0, 0, 0, 0) within
    (All-weaker (HasEnds xs) (HasEnds zs) (λ link both. (two link.0 (one link.0 both.0), two link.2 (one link.2 both.1))) (take i links) before)
    (two (get_or links i (0, 0, 0, 0)).0 first, second)

pub named_more : (switches : List ℕ) (links wires new : List Link) (wire : Link) (i : ℕ) → i < length links → new ≡ wires ++ wire ∷ [] → map (named switches) wires ≡ take i links
    → named switches wire ≡ get_or links i (0, 0, 0, 0) → map (named switches) new ≡ take (i + 1) links
named_more switches links wires new wire i within is before here =
    ap (map (named switches)) is ∙ map_push (named switches) wires wire ∙ ap (λ (xs : List Link). xs ++ named switches wire ∷ []) before
    ∙ ap (λ (link : Link). take i links ++ link ∷ []) here ∙ sym (take_more links i (0, 0, 0, 0) within)
