-- Lists whose elements are moved or changed one after the other, and tables that stay valid.
use Rattle.std.proofs.Common.{◌≡◌, ◌∙◌, ◌+◌, ◌<◌, ◌≤◌, ◌^◌, ◌&&◌, ◌||◌, ℕ, zero, suc, Bool, true, false, not, List, [], ◌∷◌, ◌++◌, length, map, filter, count_by, take, drop, get_or, slice_set, nat_le, nat_lt, if◌then◌else◌, append_assoc, add-one, length-append, length-set, refl, ap, sym, arith, inl, inr}
use Rattle.std.specs.List.{list_any}
use Rattle.std.proofs.lemmas.Bool.{and_cases, leb-false, lt-ltb, ltb-true, not-false}
use Rattle.std.proofs.lemmas.Grind.{common_steps}
use Rattle.std.proofs.lemmas.List.{length-map, nil_from_length}
use Rattle.std.proofs.lemmas.List.Elements.{All-filter, All-map, All-push, All-set, All-weaker}
use Rattle.std.proofs.lemmas.List.Filters.{length-filter_both}
use Rattle.std.proofs.lemmas.List.Sums.{count_by-le-length, length-filter, sum_by-cons}
use Rattle.of10_messages.specs.Valid.{IsValidFlowMod}
use Rattle.of10_messages.specs.declared.action.Action.{Action}
use Rattle.of10_messages.specs.declared.message.FlowMod.{FlowMod}
use Rattle.flow_table.specs.Command.{is_full_for, is_named, with_actions, without}
use Rattle.flow_table.specs.Entry.{IsTable, IsValidEntry, counted}
use Rattle.flow_table.specs.declared.command.Command.{Command}
use Rattle.flow_table.specs.declared.command.Command.TheVariants.{Add}
use Rattle.flow_table.specs.declared.entry.Entry.{Entry}

-- ---- what is left of a list that is taken apart from the front

-- an element that passes comes first
passing : {A : Type 0} (p : A → Bool) (x : A) (xs : List A) → p x ≡ true → filter p (x ∷ xs) ≡ x ∷ filter p xs
passing p x xs holds = rw holds refl

-- an element that fails is left out
failing : {A : Type 0} (p : A → Bool) (x : A) (xs : List A) → p x ≡ false → filter p (x ∷ xs) ≡ filter p xs
failing p x xs breaks = rw breaks refl

-- an element that passes was moved
pub moved_one : {A : Type 0} (p : A → Bool) (all done out left more : List A) (x : A) → done ++ filter p left ≡ all → left ≡ x ∷ more → p x ≡ true → out ≡ done ++ x ∷ [] → out ++ filter p more ≡ all
moved_one p all done out left more x h e holds pushed =
    rw (pushed, append_assoc) (ap (λ rest. done ++ rest) (sym (ap (filter p) e ∙ passing p x more holds)) ∙ h)

-- an element that fails was not
pub left_one : {A : Type 0} (p : A → Bool) (all done left more : List A) (x : A) → done ++ filter p left ≡ all → left ≡ x ∷ more → p x ≡ false → done ++ filter p more ≡ all
left_one p all done left more x h e breaks = ap (λ rest. done ++ rest) (sym (ap (filter p) e ∙ failing p x more breaks)) ∙ h

-- it was counted
pub counted_one : {A : Type 0} (p : A → Bool) (left more : List A) (x : A) → left ≡ x ∷ more → p x ≡ true → count_by p left ≡ 1 + count_by p more
counted_one {A = A} p left more x e holds =
    let step = sum_by-cons (λ (y : A). if p y then 1 else 0) x more in
    ap (count_by p) e ∙ step ∙ rw holds refl

-- one that fails was not
pub uncounted_one : {A : Type 0} (p : A → Bool) (left more : List A) (x : A) → left ≡ x ∷ more → p x ≡ false → count_by p left ≡ count_by p more
uncounted_one {A = A} p left more x e breaks =
    let step = sum_by-cons (λ (y : A). if p y then 1 else 0) x more in
    ap (count_by p) e ∙ step ∙ rw breaks (omega arith)

-- an element was changed, and moved
pub mapped_one : {A B : Type 0} (f : A → B) (all done out : List B) (left more : List A) (x : A) → done ++ map f left ≡ all → left ≡ x ∷ more → out ≡ done ++ f x ∷ [] → out ++ map f more ≡ all
mapped_one f all done out left more x h e pushed = rw (pushed, append_assoc) (ap (λ rest. done ++ rest) (sym (ap (map f) e)) ∙ h)

-- ---- what the count of those that pass says

-- some element passes where their count isn't 0
pub any_counted : {A : Type 0} (p : A → Bool) (xs : List A) → list_any p xs ≡ nat_lt 0 (count_by p xs)
any_counted p [] = refl
any_counted p (x ∷ xs) = first (p x) refl (any_counted p xs) where
  first : (b : Bool) → p x ≡ b → list_any p xs ≡ nat_lt 0 (count_by p xs) → list_any p (x ∷ xs) ≡ nat_lt 0 (count_by p (x ∷ xs))
  first true holds others =
      let one = counted_one p (x ∷ xs) xs x refl holds in
      ap (λ b. b || list_any p xs) holds ∙ sym (lt-ltb 0 (count_by p (x ∷ xs)) (omega arith))
  first false breaks others =
      let same = uncounted_one p (x ∷ xs) xs x refl breaks in
      ap (λ b. b || list_any p xs) breaks ∙ others ∙ ap (λ n. nat_lt 0 n) (sym same)

-- where none passes, none is picked
pub none_pass : {A : Type 0} (p : A → Bool) (xs : List A) → count_by p xs ≡ 0 → filter p xs ≡ []
none_pass p xs none = nil_from_length _ (length-filter p xs ∙ none)

-- and those that fail are all
pub all_fail : {A : Type 0} (p : A → Bool) (xs : List A) → count_by p xs ≡ 0 → filter (λ x. not (p x)) xs ≡ xs
all_fail p [] none = refl
all_fail {A = A} p (x ∷ xs) none = first (p x) refl (all_fail p xs) where
  first : (b : Bool) → p x ≡ b → (count_by p xs ≡ 0 → filter (λ (y : A). not (p y)) xs ≡ xs) → filter (λ (y : A). not (p y)) (x ∷ xs) ≡ x ∷ xs
  first true holds others = let one = counted_one p (x ∷ xs) xs x refl holds in absurd (omega arith)
  first false breaks others = rw breaks (ap (λ ys. x ∷ ys) (others (sym (uncounted_one p (x ∷ xs) xs x refl breaks) ∙ none)))

-- where some pass, those that fail are fewer
pub some_fail : {A : Type 0} (p : A → Bool) (xs : List A) → 0 < count_by p xs → length (filter (λ x. not (p x)) xs) < length xs
some_fail p xs some =
    let both = length-filter_both p (λ x. not (p x)) (λ x. refl) xs in
    let passed = length-filter p xs in
    omega arith

-- ---- entries that get other actions

-- an entry that is named gets the actions
pub given : (how : Command) (mods : FlowMod) (e : Entry) (actions : List Action) → is_named how mods e ≡ true → actions ≡ mods.actions → record e { actions = actions } ≡ with_actions how mods e
given how mods e actions named same = rw (named, same) refl

-- one that isn't stays
pub not_given : (how : Command) (mods : FlowMod) (e : Entry) → is_named how mods e ≡ false → e ≡ with_actions how mods e
not_given how mods e other = rw other refl

-- what stands behind the entries that have been changed stood there before
pub behind_changed : {A : Type 0} (f : A → A) (xs : List A) (i : ℕ) (d : A) → i < length xs → get_or (map f (take i xs) ++ drop i xs) i d ≡ get_or xs i d
behind_changed f [] i d lt = absurd (omega arith)
behind_changed f (z ∷ zs) zero d lt = refl
behind_changed f (z ∷ zs) (suc i) d lt = behind_changed f zs i d (omega arith)

-- after one more entry was changed
pub changed_one : {A : Type 0} (f : A → A) (xs ys zs : List A) (i : ℕ) (d y : A) → ys ≡ map f (take i xs) ++ drop i xs → i < length xs
    → zs ≡ slice_set ys i y → y ≡ f (get_or ys i d) → zs ≡ map f (take (i + 1) xs) ++ drop (i + 1) xs
changed_one f xs ys zs i d y so_far lt put e =
    let here = ap (λ l. get_or l i d) so_far ∙ behind_changed f xs i d lt in
    put ∙ ap (λ l. slice_set l i y) so_far ∙ rw add-one (steps f xs i d y lt (e ∙ ap f here))
  where
    steps : {A : Type 0} (f : A → A) (xs : List A) (i : ℕ) (d y : A) → i < length xs → y ≡ f (get_or xs i d)
        → slice_set (map f (take i xs) ++ drop i xs) i y ≡ map f (take (suc i) xs) ++ drop (suc i) xs
    steps f [] i d y lt e = absurd (omega arith)
    steps f (z ∷ zs) zero d y lt e = ap (λ w. w ∷ zs) e
    steps f (z ∷ zs) (suc i) d y lt e = ap (λ ws. f z ∷ ws) (steps f zs i d y (omega arith) e)

-- a slice of a whole vector was changed, and is as long as before
pub whole_changed : {A : Type 0} (xs ys : List A) (n : ℕ) → n ≡ length xs → length ys ≡ length xs → take n (ys ++ drop (length ys) xs) ≡ ys
whole_changed xs ys n long same = grind (arith, common_steps)

-- ---- tables that stay valid

-- a count up to the greatest number, and a time of 32 bits
pub valid_counted : (now : ℕ) (e : Entry) → now < 2 ^ 32 → IsValidEntry e → IsValidEntry (counted now e)
valid_counted now e fits v = record {
  matches = v.matches;
  priority = v.priority;
  cookie = v.cookie;
  idle = v.idle;
  hard = v.hard;
  flags = v.flags;
  actions = v.actions;
  added = v.added;
  hit = fits;
  packets = omega arith;
  bytes = omega arith;
}

-- a valid entry was put in the place of another one
pub table_set : (entries : List Entry) (place : ℕ) (e : Entry) → IsTable entries → IsValidEntry e → IsTable (slice_set entries place e)
table_set entries place e t v = record {
  valid = All-set IsValidEntry entries place e v t.valid;
  few = rw length-set t.few;
}

-- the entries that a command doesn't name stay
pub table_filter : (p : Entry → Bool) (entries : List Entry) → IsTable entries → IsTable (filter p entries)
table_filter p entries t = record {
  valid = All-filter p IsValidEntry entries t.valid;
  few = let some = count_by-le-length p entries in let long = length-filter p entries in let few = t.few in omega arith;
}

-- after the entry is added there are at most 1,024
room_made : (p : Entry → Bool) (entries : List Entry) → length entries ≤ 1024 → (not (list_any p entries) && nat_le 1024 (length entries)) ≡ false
    → length (filter (λ e. not (p e)) entries) < 1024
room_made p entries few room = elim (and_cases (not (list_any p entries)) (nat_le 1024 (length entries)) room) [
  | inl some ↦
      let counted : 0 < count_by p entries = ltb-true _ _ (sym (any_counted p entries) ∙ not-false _ some) in
      let fewer = some_fail p entries counted in
      omega arith
  | inr short ↦
      let less = leb-false _ _ short in
      let both = length-filter_both p (λ x. not (p x)) (λ x. refl) entries in
      omega arith
]

-- a table stays one after an entry is added
pub table_added : (entries : List Entry) (mods : FlowMod) (e : Entry) → IsTable entries → IsValidEntry e → is_full_for entries mods ≡ false
    → IsTable (without Add mods entries ++ e ∷ [])
table_added entries mods e t v room =
    let others = without Add mods entries in
    let less = room_made (is_named Add mods) entries t.few room in
    let long = length-append others (e ∷ []) in
    record {
      valid = All-push IsValidEntry others e (All-filter (λ other. not (is_named Add mods other)) IsValidEntry entries t.valid) v;
      few = omega arith;
    }

-- an entry stays valid with the actions of a valid FLOW_MOD
valid_given : (how : Command) (mods : FlowMod) (e : Entry) → IsValidFlowMod mods → IsValidEntry e → IsValidEntry (with_actions how mods e)
valid_given how mods e m v = cases (is_named how mods e) refl where
  cases : (b : Bool) → is_named how mods e ≡ b → IsValidEntry (with_actions how mods e)
  cases true named = rw named (record {
    matches = v.matches;
    priority = v.priority;
    cookie = v.cookie;
    idle = v.idle;
    hard = v.hard;
    flags = v.flags;
    actions = m.actions;
    added = v.added;
    hit = v.hit;
    packets = v.packets;
    bytes = v.bytes;
  })
  cases false other = rw other v

-- a table stays one with other actions
pub table_given : (how : Command) (mods : FlowMod) (entries : List Entry) → IsValidFlowMod mods → IsTable entries → IsTable (map (with_actions how mods) entries)
table_given how mods entries m t = record {
  valid = All-map IsValidEntry (with_actions how mods) entries (All-weaker IsValidEntry (λ e. IsValidEntry (with_actions how mods e)) (λ e v. valid_given how mods e m v) entries t.valid);
  few = rw length-map t.few;
}
