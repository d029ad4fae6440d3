-- Atoms: the lines of a script that are dropped or kept together. The rule is this project's own.
use Rattle.std.specs.Prelude.{ℕ, ◌+◌, ◌-◌, ◌==◌, List, ◌∷◌, length, slice_get, Bool, false, ◌&&◌, ◌||◌, not, Option, Some, None}
use Rattle.std.specs.List.{filter_map, find, list_any, range_with_len, slice_range}
use Rattle.std.specs.Option.{option_to_list}
use Rattle.machine_setup.specs.declared.script.Input.{Input}
use Rattle.machine_setup.specs.declared.script.Input.TheVariants.{LinkDown, LinkUp, SwitchFail, SwitchUp, ControlDown, ControlUp}
use Rattle.machine_setup.specs.declared.script.Line.{Line}
use Rattle.input_atoms.specs.declared.thing.Thing.{Thing}
use Rattle.input_atoms.specs.declared.thing.Thing.TheVariants.{Link, Switch, Control}

-- what an input fails
abbrev pub thing_failed : Input → Option Thing
thing_failed (LinkDown link) = Some (Link link)
thing_failed (SwitchFail s) = Some (Switch s)
thing_failed (ControlDown s) = Some (Control s)
thing_failed _ = None

-- what an input brings back
abbrev pub thing_recovered : Input → Option Thing
thing_recovered (LinkUp link) = Some (Link link)
thing_recovered (SwitchUp s) = Some (Switch s)
thing_recovered (ControlUp s) = Some (Control s)
thing_recovered _ = None

-- whether the two are one thing
abbrev pub is_same : Thing → Thing → Bool
is_same (Link one) (Link two) = one == two
is_same (Switch one) (Switch two) = one == two
is_same (Control one) (Control two) = one == two
is_same _ _ = false

-- whether the other, if there is one, is the thing
abbrev pub is_it : Thing → Option Thing → Bool
is_it thing None = false
is_it thing (Some other) = is_same thing other

-- whether a line brings the thing back
abbrev pub brings_back : Thing → Line → Bool
brings_back thing line = is_it thing (thing_recovered line.input)

-- whether a line fails the thing or brings it back
abbrev pub is_about : Thing → Line → Bool
is_about thing line = is_it thing (thing_failed line.input) || is_it thing (thing_recovered line.input)

-- whether the second line brings back what the first one fails, and no line between them is about the same thing
abbrev pub is_pair : Option Thing → List Line → Option Line → Bool
is_pair None between line = false
is_pair (Some thing) between None = false
is_pair (Some thing) between (Some line) = brings_back thing line && not (list_any (is_about thing) between)

-- what the line at a place fails
abbrev pub failed_by : Option Line → Option Thing
failed_by None = None
failed_by (Some line) = thing_failed line.input

-- whether the lines at two places are a failure and its recovery
abbrev pub are_one : List Line → ℕ → ℕ → Bool
are_one script first later = is_pair (failed_by (slice_get script first)) (slice_range script (first + 1) later) (slice_get script later)

-- the place of the failure of which the line at a place is the recovery
abbrev pub failure_of : List Line → ℕ → Option ℕ
failure_of script later = find (λ first. are_one script first later) (range_with_len 0 later)

-- the place of the recovery of the failure at a place
abbrev pub recovery_of : List Line → ℕ → Option ℕ
recovery_of script first = find (are_one script first) (range_with_len (first + 1) (length script - (first + 1)))

-- the atom of a line that is no recovery of a failure: its place, and that of its recovery if it has one
abbrev pub atom_from : Option ℕ → ℕ → Option ℕ → Option (List ℕ)
atom_from (Some failure) at recovery = None
atom_from None at recovery = Some (at ∷ option_to_list recovery)

-- the atom that begins at a place, if one does
abbrev pub atom_at : List Line → ℕ → Option (List ℕ)
atom_at script at = atom_from (failure_of script at) at (recovery_of script at)

-- the atoms, in the order of their first places
abbrev pub atoms_of : List Line → List (List ℕ)
atoms_of script = filter_map (atom_at script) (range_with_len 0 (length script))
