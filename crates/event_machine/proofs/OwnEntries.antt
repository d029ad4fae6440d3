-- What the entries of one actor make of it.
use Rattle.std.proofs.Common.{◌≡◌, ◌≢◌, ◌∙◌, ◌⊎◌, ℕ, ◌+◌, ◌<◌, ◌≤◌, zero, suc, List, [], ◌∷◌, length, map, take, drop, filter_map, fold, zip, slice_get, slice_index, get_or, Option, Some, None, option_map, ap, arith, inl, inr, refl, subst, sym}
use Rattle.std.specs.List.{enumerate_from}
use Rattle.std.specs.Option.{option_map_or}
use Rattle.std.proofs.lemmas.Bool.{cases_eq, cases_lt}
use Rattle.std.proofs.lemmas.List.{length-drop, length-map}
use Rattle.std.proofs.lemmas.List.FromFn.{length-enumerate_from}
use Rattle.std.proofs.lemmas.Option.{same_Some, slice_get-get_or, slice_get-map, slice_get_within}
use Rattle.std.proofs.lemmas.Slice.Zip.{length-zip}
use Rattle.controller_api.specs.Reaction.{Reaction}
use Rattle.controller_api.specs.declared.item.UpItem.{UpItem}
use Rattle.machine_setup.specs.Setup.{IsValidSetup}
use Rattle.machine_setup.specs.declared.preset.Preset.{Preset}
use Rattle.machine_setup.specs.declared.setup.Setup.{Setup}
use Rattle.pool_book.specs.declared.actor.Actor.TheVariants.{Controller, Switch}
use Rattle.switch_core.specs.State.{fresh}
use Rattle.switch_core.specs.declared.state.State.{State}
use Rattle.event_world.specs.World.{Situation, next, start, switch_at_start, switches_at_start}
use Rattle.event_world.specs.declared.event.Event.{Event}
use Rattle.event_machine.specs.Actors.{BeginsAt, IsLastBeginning, IsLossAt, all_taken_by, controller_through, lost_at, switch_through, taken_by}
use Rattle.event_machine.specs.Legal.{TakeHeads, world_before}
use Rattle.event_machine.specs.declared.trace.Entry.{Entry}
use Rattle.event_machine.proofs.Histories.{world_more}
use Rattle.event_machine.proofs.OneStep.{controller_after, controller_next, count_next, switch_after, switch_lost, switch_next}

-- ---- a walk along a list

-- what is taken of a list that is longer by one at its front
fold_taken : {A B S : Type 0} (pick : A → Option B) (step : S → B → S) (x : A) (xs : List A) (state : S) (picked : Option B) → pick x ≡ picked → fold step state (filter_map pick (x ∷ xs)) ≡ fold step (option_map_or (step state) picked state) (filter_map pick xs)
fold_taken pick step x xs state None e = rw e refl
fold_taken pick step x xs state (Some y) e = rw e refl

-- a state that each element of a list takes one step further, if something is picked of it, comes to the fold of what is picked
walked_all : {A B S : Type 0} (pick : A → Option B) (step : S → B → S) (at : ℕ → Option S) (xs : List A) (from : ℕ) (state : S) → at from ≡ Some state
    → ((k : ℕ) (x : A) (state : S) → slice_get xs k ≡ Some x → at (from + k) ≡ Some state → at (from + k + 1) ≡ Some (option_map_or (step state) (pick x) state))
    → at (from + length xs) ≡ Some (fold step state (filter_map pick xs))
walked_all pick step at [] from state here goes = let same : from + 0 ≡ from = omega arith in ap at same ∙ here
walked_all {A} {B} {S} pick step at (x ∷ xs) from state here goes =
    let after : S = option_map_or (step state) (pick x) state in
    let none : from + 0 ≡ from = omega arith in
    let more : from + 1 ≡ from + 0 + 1 = omega arith in
    let first : at (from + 1) ≡ Some after = ap at more ∙ goes 0 x state refl (ap at none ∙ here) in
    let rest = walked_all pick step at xs (from + 1) after first (λ k y later there now.
    let one : from + 1 + k ≡ from + suc k = omega arith in
    let two : from + suc k + 1 ≡ from + 1 + k + 1 = omega arith in
    ap at (sym two) ∙ goes (suc k) y later there (ap at (sym one) ∙ now)) in
    let all : from + length (x ∷ xs) ≡ from + 1 + length xs = omega arith in
    ap at all ∙ rest ∙ ap Some (sym (fold_taken pick step x xs state (pick x) refl))

-- an element of the rest of a list
get_drop : {A : Type 0} (xs : List A) (n k : ℕ) → slice_get (drop n xs) k ≡ slice_get xs (n + k)
get_drop xs zero k = let same : k ≡ 0 + k = omega arith in ap (slice_get xs) same
get_drop [] (suc n) k = refl
get_drop (x ∷ xs) (suc n) k = let same : suc (n + k) ≡ suc n + k = omega arith in get_drop xs n k ∙ ap (slice_get (x ∷ xs)) same

-- the same from a place of the list on
walked : {A B S : Type 0} (pick : A → Option B) (step : S → B → S) (at : ℕ → Option S) (xs : List A) (from : ℕ) (state : S) → from ≤ length xs → at from ≡ Some state
    → ((n : ℕ) (x : A) (state : S) → from ≤ n → slice_get xs n ≡ Some x → at n ≡ Some state → at (n + 1) ≡ Some (option_map_or (step state) (pick x) state))
    → at (length xs) ≡ Some (fold step state (filter_map pick (drop from xs)))
walked pick step at xs from state within here goes =
    let cut = length-drop from xs in
    let all : length xs ≡ from + length (drop from xs) = omega arith in
    ap at all ∙ walked_all pick step at (drop from xs) from state here (λ k x now there. goes (from + k) x now (omega arith) (sym (get_drop xs from k) ∙ there))

-- ---- all switches at the start

count_start : (ports : List ℕ) (presets : List (List Preset)) → length presets ≡ length ports → length (switches_at_start ports presets) ≡ length ports
count_start ports presets same =
    let all = length-map (enumerate_from 0 (zip ports presets)) (λ (switch : ℕ × (ℕ × List Preset)). switch_at_start switch.0 switch.1.0 switch.1.1) in
    let numbered = length-enumerate_from 0 (zip ports presets) in
    let both = length-zip ports presets in
    omega arith

-- something that is one number or not
is_or_not : (found : Option ℕ) (s : ℕ) → (found ≡ Some s) ⊎ (found ≢ Some s)
is_or_not None s = inr (λ e. cc)
is_or_not (Some t) s = elim (cases_eq t s) [
  | inl same ↦ inl (ap Some same)
  | inr apart ↦ inr (λ e. apart (same_Some t s e))
]

module _ {C : Type 0} (react : C → UpItem → Reaction C) (first : C → C) where
  -- events keep the number of switches
  count_after : (setup : Setup C) (events : List Event) (world : Situation C) → length (fold (next react setup) world events).switches ≡ length world.switches
  count_after setup [] world = refl
  count_after setup (event ∷ events) world = count_after setup events (next react setup world event) ∙ count_next react setup world event

  -- each switch of a setup is there at all times
  count_before : (setup : Setup C) (entries : List Entry) (at : ℕ) → IsValidSetup setup → length (world_before react first setup entries at).switches ≡ length setup.topology.ports
  count_before setup entries at valid = count_after setup (map (λ (entry : Entry). entry.event) (take at entries)) (start first setup) ∙ count_start setup.topology.ports setup.presets valid.starts.lists

  -- ---- a switch

  -- the state of a switch before the entry at a place
  abbrev switch_before : Setup C → List Entry → ℕ → ℕ → Option State
  switch_before setup entries s at = slice_get (world_before react first setup entries at).switches s

  -- it begins with the state that it has there, and that place lies within the history
  begins : (setup : Setup C) (entries : List Entry) (s from : ℕ) (state : State) → IsValidSetup setup → s < length setup.topology.ports → BeginsAt react first setup entries s from state → (switch_before setup entries s from ≡ Some state) × (from ≤ length entries)
  begins setup entries s from state valid below (inl h) = (ap (switch_before setup entries s) h.0 ∙ h.1, omega (arith, h.0))
  begins setup entries s from state valid below (inr h) =
      let place : ℕ = h.0 in
      let entry : Entry = h.2.0 in
      let within = slice_get_within entries place entry h.2.1 in
      let count = count_before setup entries place valid in
      let lost = switch_lost react setup (world_before react first setup entries place) entry.event s h.2.2 (omega arith) in
      let here : switch_before setup entries s from ≡ Some state =
      ap (switch_before setup entries s) h.1
      ∙ ap (λ (world : Situation C). slice_get world.switches s) (world_more react first setup entries place entry h.2.1)
      ∙ lost ∙ ap Some (sym h.3) in
      (here, omega (arith, h.1))

  -- it goes on by an entry that does not make it lose its state
  switch_goes : (setup : Setup C) (entries : List Entry) (s at : ℕ) (entry : Entry) (state : State) → TakeHeads react first setup entries → (IsLossAt react first setup entries s at → ⊥) → slice_get entries at ≡ Some entry → switch_before setup entries s at ≡ Some state
      → switch_before setup entries s (at + 1) ≡ Some (option_map_or (switch_after state) (taken_by (Switch s) entry) state)
  switch_goes setup entries s at entry state takes keeps here is =
      ap (λ (world : Situation C). slice_get world.switches s) (world_more react first setup entries at entry here)
      ∙ switch_next react setup (world_before react first setup entries at) entry.event entry.item s state (takes at entry here) (λ lost. keeps (entry, here, lost)) is

  -- A switch has come to what the items make of it that it took itself since its last beginning.
  pub switch_made : (setup : Setup C) (entries : List Entry) (s from : ℕ) (state : State) → IsValidSetup setup → TakeHeads react first setup entries → s < length setup.topology.ports → IsLastBeginning react first setup entries s from state
      → slice_get (world_before react first setup entries (length entries)).switches s ≡ Some (switch_through (all_taken_by (Switch s) (drop from entries)) state)
  switch_made setup entries s from state valid takes below last =
      let known = begins setup entries s from state valid below last.0 in
      walked (taken_by (Switch s)) switch_after (switch_before setup entries s) entries from state known.1 known.0 (λ at entry now low here is. switch_goes setup entries s at entry now takes (last.1 at low) here is)

  -- a place makes a switch lose its state or not
  loses_or_not : (setup : Setup C) (entries : List Entry) (s at : ℕ) (here : Option Entry) → slice_get entries at ≡ here → IsLossAt react first setup entries s at ⊎ (IsLossAt react first setup entries s at → ⊥)
  loses_or_not setup entries s at None e = inr (λ loss. let there = loss.1 in cc)
  loses_or_not setup entries s at (Some entry) e = elim (is_or_not (lost_at setup (world_before react first setup entries at) entry.event) s) [
    | inl lost ↦ inl (entry, e, lost)
    | inr stays ↦ inr (λ loss.
        let same : loss.0 ≡ entry = same_Some loss.0 entry (sym loss.1 ∙ e) in
        stays (subst (λ (x : Entry). lost_at setup (world_before react first setup entries at) x.event ≡ Some s) same loss.2))
  ]

  -- the beginning that counts before the entry at a place
  record Begun (setup : Setup C) (entries : List Entry) (s place : ℕ) : Type 0 where
    pub from : ℕ
    pub state : State
    pub begins : BeginsAt react first setup entries s from state
    pub keeps : (at : ℕ) → from ≤ at → at < place → IsLossAt react first setup entries s at → ⊥

  -- there always is one: the last loss, or the start
  begun : (setup : Setup C) (entries : List Entry) (s place : ℕ) → IsValidSetup setup → s < length setup.topology.ports → Begun setup entries s place
  begun setup entries s zero valid below =
      let count = count_before setup entries 0 valid in
      let all : List State = (start first setup).switches in
      let some : State = fresh 0 0 in
      record { from = 0; state = get_or all s some; begins = inl (refl, slice_get-get_or all s some (omega arith)); keeps = λ at low high. absurd (omega arith) }
  begun setup entries s (suc place) valid below = elim (loses_or_not setup entries s place (slice_get entries place) refl) [
    | inl loss ↦ record {
      from = place + 1;
      state = fresh s (slice_index setup.topology.ports s);
      begins = inr (place, refl, loss, refl);
      keeps = λ at low high. absurd (omega arith);
    }
    | inr stays ↦
        let before = begun setup entries s place valid below in
        record {
          from = before.from;
          state = before.state;
          begins = before.begins;
          keeps = λ at low high. elim (cases_lt at place) [
            | inl earlier ↦ before.keeps at low earlier
            | inr later ↦ let same : at ≡ place = omega arith in subst (λ (n : ℕ). IsLossAt react first setup entries s n → ⊥) (sym same) stays
          ];
        }
  ]

  -- Each switch has a last beginning.
  pub last_beginning : (setup : Setup C) (entries : List Entry) (s : ℕ) → IsValidSetup setup → s < length setup.topology.ports → (from : ℕ) × (state : State) × IsLastBeginning react first setup entries s from state
  last_beginning setup entries s valid below =
      let last = begun setup entries s (length entries) valid below in
      (last.from, last.state, (last.begins, λ at low loss. last.keeps at low (slice_get_within entries at loss.0 loss.1) loss))

  -- ---- a controller

  -- the state of a controller before the entry at a place
  abbrev controller_before : Setup C → List Entry → ℕ → ℕ → Option C
  controller_before setup entries c at = slice_get (world_before react first setup entries at).controllers c

  -- it goes on by an entry
  controller_goes : (setup : Setup C) (entries : List Entry) (c at : ℕ) (entry : Entry) (state : C) → TakeHeads react first setup entries → slice_get entries at ≡ Some entry → controller_before setup entries c at ≡ Some state
      → controller_before setup entries c (at + 1) ≡ Some (option_map_or (controller_after react state) (taken_by (Controller c) entry) state)
  controller_goes setup entries c at entry state takes here is =
      ap (λ (world : Situation C). slice_get world.controllers c) (world_more react first setup entries at entry here)
      ∙ controller_next react setup (world_before react first setup entries at) entry.event entry.item c state (takes at entry here) is

  -- A controller has come to what the items make of it that it took itself since the start.
  pub controller_made : (setup : Setup C) (entries : List Entry) (c : ℕ) (controller : C) → TakeHeads react first setup entries → slice_get setup.controllers c ≡ Some controller
      → slice_get (world_before react first setup entries (length entries)).controllers c ≡ Some (controller_through react (all_taken_by (Controller c) entries) (first controller))
  controller_made setup entries c controller takes there =
      walked (taken_by (Controller c)) (controller_after react) (controller_before setup entries c) entries 0 (first controller) (omega arith) (slice_get-map first setup.controllers c ∙ ap (option_map first) there)
      (λ at entry now low here is. controller_goes setup entries c at entry now takes here is)
