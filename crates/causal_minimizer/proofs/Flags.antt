-- Flags that are set at the positions of atoms are those of the lines that the atoms keep.
use Rattle.std.proofs.Common.{◌≡◌, ◌∙◌, ℕ, ◌<◌, ◌==◌, ◌||◌, zero, suc, List, [], ◌∷◌, length, replicate, get_or, slice_set, slice_index_or, Bool, true, false, refl, sym, ap, arith}
use Rattle.std.specs.List.{list_any}
use Rattle.std.proofs.lemmas.Grind.{common_steps}
use Rattle.std.proofs.lemmas.List.{same_lists, length-set, length-replicate, get_or-replicate}
use Rattle.std.proofs.lemmas.List.FromFn.{length-map-range_with_len, get_or-map-range_with_len}
use Rattle.causal_minimizer.specs.Failing.{atoms_with, has_position, kept_with}
use Rattle.causal_minimizer.specs.Marking.{marked, marked_all}

or_false : (b : Bool) → b ≡ (b || false)
or_false true = refl
or_false false = refl

or_assoc : (a b c : Bool) → ((a || b) || c) ≡ (a || (b || c))
or_assoc true b c = refl
or_assoc false b c = refl

-- a flag after one is set
flag_set : (keep : List Bool) (position i : ℕ) (d : Bool) → i < length keep → get_or (slice_set keep position true) i d ≡ (get_or keep i d || (position == i))
flag_set [] position i d within = absurd (omega arith)
flag_set (b ∷ keep) zero zero d within = grind (arith, common_steps)
flag_set (b ∷ keep) zero (suc i) d within = grind (arith, common_steps)
flag_set (b ∷ keep) (suc position) zero d within = grind (arith, common_steps)
flag_set (b ∷ keep) (suc position) (suc i) d within = flag_set keep position i d (omega arith) ∙ grind (arith, common_steps)

length_marked : (atom : List ℕ) (keep : List Bool) → length (marked atom keep) ≡ length keep
length_marked [] keep = refl
length_marked (position ∷ atom) keep = length_marked atom (slice_set keep position true) ∙ length-set keep position true

flag_marked : (atom : List ℕ) (keep : List Bool) (i : ℕ) (d : Bool) → i < length keep → get_or (marked atom keep) i d ≡ (get_or keep i d || has_position atom i)
flag_marked [] keep i d within = or_false (get_or keep i d)
flag_marked (position ∷ atom) keep i d within =
    let long = length-set keep position true in
    flag_marked atom (slice_set keep position true) i d (omega arith) ∙ ap (λ b. b || has_position atom i) (flag_set keep position i d within) ∙ or_assoc (get_or keep i d) (position == i) (has_position atom i)

length_marked_all : (atoms : List (List ℕ)) (numbers : List ℕ) (keep : List Bool) → length (marked_all atoms numbers keep) ≡ length keep
length_marked_all atoms [] keep = refl
length_marked_all atoms (number ∷ numbers) keep = length_marked_all atoms numbers (marked (slice_index_or atoms number []) keep) ∙ length_marked (slice_index_or atoms number []) keep

flag_marked_all : (atoms : List (List ℕ)) (numbers : List ℕ) (keep : List Bool) (i : ℕ) (d : Bool) → i < length keep → get_or (marked_all atoms numbers keep) i d ≡ (get_or keep i d || list_any (λ atom. has_position atom i) (atoms_with atoms numbers))
flag_marked_all atoms [] keep i d within = or_false (get_or keep i d)
flag_marked_all atoms (number ∷ numbers) keep i d within =
    let atom = slice_index_or atoms number [] in
    let long = length_marked atom keep in
    flag_marked_all atoms numbers (marked atom keep) i d (omega arith) ∙ ap (λ b. b || list_any (λ atom. has_position atom i) (atoms_with atoms numbers)) (flag_marked atom keep i d within)
    ∙ or_assoc (get_or keep i d) (has_position atom i) (list_any (λ atom. has_position atom i) (atoms_with atoms numbers))

-- from flags of which none is set
pub all_marked : (atoms : List (List ℕ)) (numbers : List ℕ) (lines : ℕ) → marked_all atoms numbers (replicate lines false) ≡ kept_with lines (atoms_with atoms numbers)
all_marked atoms numbers lines =
    let some : ℕ → Bool = λ position. list_any (λ atom. has_position atom position) (atoms_with atoms numbers) in
    let long = length_marked_all atoms numbers (replicate lines false) in
    let none = length-replicate lines false in
    let whole = length-map-range_with_len some 0 lines in
    same_lists (marked_all atoms numbers (replicate lines false)) (kept_with lines (atoms_with atoms numbers)) (omega arith) (λ k d within.
    flag_marked_all atoms numbers (replicate lines false) k d (omega arith) ∙ ap (λ b. b || some k) (get_or-replicate lines k false d (omega arith)) ∙ sym (get_or-map-range_with_len some 0 lines k k d (omega arith) (omega arith)))

-- as many as there are lines
pub length_kept : (lines : ℕ) (atoms : List (List ℕ)) → length (kept_with lines atoms) ≡ lines
length_kept lines atoms = length-map-range_with_len (λ position. list_any (λ atom. has_position atom position) atoms) 0 lines
