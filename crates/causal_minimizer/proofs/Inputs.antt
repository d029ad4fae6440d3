-- The inputs of a legal run are the lines that it has taken, and stand in its atoms.
use Rattle.std.proofs.Common.{◌≡◌, ◌∙◌, ℕ, ◌+◌, ◌<◌, ◌≤◌, ◌==◌, ◌⊎◌, inl, inr, zero, suc, List, [], length, take, slice_get, slice_index_or, get_or, Bool, true, Option, Some, None, refl, ap, subst, arith}
use Rattle.std.specs.List.{Contains, filter_map, list_any, range_with_len}
use Rattle.std.proofs.lemmas.Bool.{eq-eqb}
use Rattle.std.proofs.lemmas.List.{get_or_default, length-take, same_lists}
use Rattle.std.proofs.lemmas.List.Folds.{list_any_at}
use Rattle.std.proofs.lemmas.List.FromFn.{length-map-range_with_len, get_or-map-range_with_len}
use Rattle.std.proofs.lemmas.Option.{get_or_from_slice_get, slice_get-get_or, slice_get_within}
use Rattle.controller_api.specs.Reaction.{Reaction}
use Rattle.controller_api.specs.declared.item.UpItem.{UpItem}
use Rattle.machine_setup.specs.declared.script.Line.{Line}
use Rattle.machine_setup.specs.declared.setup.Setup.{Setup}
use Rattle.event_world.specs.Events.{input_count, number_of}
use Rattle.event_world.specs.World.{Situation}
use Rattle.event_world.specs.declared.event.Event.{Event}
use Rattle.event_world.specs.declared.event.Event.TheVariants.{In}
use Rattle.event_machine.specs.Legal.{IsLegalEvent, IsSoundTo, world_before}
use Rattle.event_machine.specs.declared.trace.Entry.{Entry}
use Rattle.event_machine.proofs.FirstEvents.{is_due}
use Rattle.event_machine.proofs.Histories.{along, next_inputs, world_more}
use Rattle.input_atoms.specs.Atoms.{atom_at, atoms_of}
use Rattle.causal_minimizer.specs.Failing.{atoms_with, has_position, kept_with}

module _ {C : Type 0} (react : C → UpItem → Reaction C) (first : C → C) where
  -- how many inputs there were before an entry
  abbrev inputs_before : Setup C → List Entry → ℕ → ℕ
  inputs_before setup entries at = (world_before react first setup entries at).shared.inputs

  -- with each entry there are as many or one more
  inputs_more : (setup : Setup C) (entries : List Entry) (at : ℕ) (entry : Entry) → slice_get entries at ≡ Some entry → inputs_before setup entries (at + 1) ≡ inputs_before setup entries at + input_count entry.event
  inputs_more setup entries at entry here =
      ap (λ (world : Situation C). world.shared.inputs) (world_more react first setup entries at entry here) ∙ next_inputs react setup (world_before react first setup entries at) entry.event

  -- an input of a sound history is one of the lines that it has taken
  pub taken_line : (setup : Setup C) (entries : List Entry) (at position : ℕ) (entry : Entry) → IsSoundTo react first setup entries (length entries) → slice_get entries at ≡ Some entry → entry.event ≡ In position → position < inputs_before setup entries (length entries)
  taken_line setup entries at position entry sound here is =
      let world = world_before react first setup entries at in
      let within = slice_get_within entries at entry here in
      let legal = subst (λ (event : Event). IsLegalEvent setup world event entry.item) is (sound at entry within here).0.1 in
      let due = is_due setup.script world.shared (In position) legal.0 in
      let place : world.shared.inputs ≡ position = ap number_of due.input in
      let more = inputs_more setup entries at entry here in
      let one : input_count entry.event ≡ 1 = ap input_count is in
      along (λ n. position < inputs_before setup entries n) entries (at + 1) (omega arith) (omega arith) (λ n other low there now.
      let goes = inputs_more setup entries n other there in omega arith)

-- a flag of the lines that atoms keep
pub flag_kept : (lines : ℕ) (atoms : List (List ℕ)) (position : ℕ) → position < lines → slice_get (kept_with lines atoms) position ≡ Some (list_any (λ atom. has_position atom position) atoms)
flag_kept lines atoms position within =
    let some : ℕ → Bool = λ position. list_any (λ atom. has_position atom position) atoms in
    let long = length-map-range_with_len some 0 lines in
    slice_get-get_or (kept_with lines atoms) position true (omega arith) ∙ ap Some (get_or-map-range_with_len some 0 lines position position true within (omega arith))

-- an atom that contains a position is kept there
atom_keeps : (atoms : List (List ℕ)) (k : ℕ) (atom : List ℕ) (position : ℕ) → slice_get atoms k ≡ Some atom → Contains atom position → list_any (λ atom. has_position atom position) atoms ≡ true
atom_keeps atoms k atom position here has =
    let own : has_position atom position ≡ true = list_any_at (λ own. own == position) atom has.0 position has.1 (eq-eqb (get_or atom has.0 position) position has.2) in
    list_any_at (λ atom. has_position atom position) atoms k atom (slice_get_within atoms k atom here) (ap (λ atom. has_position atom position) (get_or_from_slice_get atoms k atom atom here) ∙ own)

-- all atoms are those with all numbers
pub all_atoms : (atoms : List (List ℕ)) → atoms_with atoms (range_with_len 0 (length atoms)) ≡ atoms
all_atoms atoms =
    let pick : ℕ → List ℕ = λ number. slice_index_or atoms number [] in
    let long = length-map-range_with_len pick 0 (length atoms) in
    same_lists (atoms_with atoms (range_with_len 0 (length atoms))) atoms (omega arith) (λ k d within.
    get_or-map-range_with_len pick 0 (length atoms) k k d (omega arith) (omega arith) ∙ get_or_default atoms k [] d (omega arith))

-- that every line of a script stands in an atom
abbrev pub AllStand : Type 0
AllStand = (script : List Line) (at : ℕ) → at < length script → (k : ℕ) × (atom : List ℕ) × (slice_get (atoms_of script) k ≡ Some atom) × Contains atom at

-- so all atoms of the first lines of a script keep each of these lines
pub all_keep : AllStand → (script : List Line) (inputs position : ℕ) → inputs ≤ length script → position < inputs
    → slice_get (kept_with (length script) (atoms_with (atoms_of (take inputs script)) (range_with_len 0 (length (atoms_of (take inputs script)))))) position ≡ Some true
all_keep stand script inputs position few below =
    let lines = take inputs script in
    let atoms = atoms_of lines in
    let cut = length-take inputs script in
    let stands = stand lines position (omega arith) in
    flag_kept (length script) (atoms_with atoms (range_with_len 0 (length atoms))) position (omega arith)
    ∙ ap Some (ap (λ (all : List (List ℕ)). list_any (λ atom. has_position atom position) all) (all_atoms atoms) ∙ atom_keeps atoms stands.0 stands.1 position stands.2 stands.3)

option_cases : {X : Type 0} (o : Option X) → (o ≡ None) ⊎ ((x : X) × (o ≡ Some x))
option_cases None = inl refl
option_cases (Some x) = inr (x, refl)

-- a list that is made along a range has no more elements
few_made : (h : ℕ → Option (List ℕ)) (from n : ℕ) → length (filter_map h (range_with_len from n)) ≤ n
few_made h from zero = omega arith
few_made h from (suc n) = let rest = few_made h (from + 1) n in elim (option_cases (h from)) [ inl none ↦ rw none (omega arith) | inr made ↦ rw made.1 (omega arith) ]

-- there are no more atoms than lines
pub few_atoms : (script : List Line) → length (atoms_of script) ≤ length script
few_atoms script = few_made (atom_at script) 0 (length script)
