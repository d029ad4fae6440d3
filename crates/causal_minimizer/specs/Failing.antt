-- Which inputs of a run are enough for a violation.
use Rattle.std.specs.Prelude.{◌≡◌, ℕ, ◌==◌, List, [], length, map, slice_index_or, take, Bool, true, false}
use Rattle.std.specs.List.{list_any, range_with_len}
use Rattle.controller_api.specs.Reaction.{Reaction}
use Rattle.controller_api.specs.declared.item.UpItem.{UpItem}
use Rattle.machine_setup.specs.declared.setup.Setup.{Setup}
use Rattle.topology.specs.declared.invariant.Invariant.{Invariant}
use Rattle.event_world.specs.Answers.{network_of}
use Rattle.event_world.specs.World.{Situation}
use Rattle.event_machine.specs.Legal.{world_after}
use Rattle.event_machine.specs.declared.trace.Trace.{Trace}
use Rattle.causal_replay.specs.Replay.{IsReplay}
use Rattle.causal_replay.specs.declared.replayed.Taken.{Taken}
use Rattle.invariant_check.specs.Verdict.{IsVerdict, is_violated}
use Rattle.invariant_check.specs.declared.walk.Verdict.{Verdict}
use Rattle.input_atoms.specs.Atoms.{atoms_of}
use Rattle.input_atoms.specs.Ddmin.{IsReduced}

-- whether the position is one of an atom's
abbrev pub has_position : List ℕ → ℕ → Bool
has_position atom position = list_any (λ own. own == position) atom

-- which lines of a script of so many are kept with some atoms: those at the atoms' positions
abbrev pub kept_with : ℕ → List (List ℕ) → List Bool
kept_with lines atoms = map (λ position. list_any (λ atom. has_position atom position) atoms) (range_with_len 0 lines)

-- the atoms with these numbers; a number past the last one stands for no line
abbrev pub atoms_with : List (List ℕ) → List ℕ → List (List ℕ)
atoms_with atoms numbers = map (λ number. slice_index_or atoms number []) numbers

module _ {C : Type 0} (react : C → UpItem → Reaction C) (first : C → C) (setup : Setup C) where
  -- whether an invariant is violated in a world
  pub record IsFound (invariant : Invariant) (world : Situation C) (violated : Bool) : Type 0 where
    pub verdict : Verdict
    pub judged : IsVerdict (network_of setup.topology world) invariant verdict
    pub told : is_violated verdict ≡ violated

  module _ (trace : Trace) (invariant : Invariant) where
    -- the atoms of a run: those of the lines that it has taken
    abbrev pub atoms_of_run : List (List ℕ)
    atoms_of_run = atoms_of (take (world_after react first setup trace).shared.inputs setup.script)

    -- the replay of the run that keeps the lines of some atoms
    abbrev pub IsReplayWith : List (List ℕ) → List Taken → List ℕ → Situation C → Type 0
    IsReplayWith atoms run absent world = IsReplay react first setup trace.entries (kept_with (length setup.script) atoms) run absent world

    -- whether the replay that keeps the lines of the atoms with these numbers ends in a violation
    pub record Fails (numbers : List ℕ) (failed : Bool) : Type 0 where
      pub run : List Taken
      pub absent : List ℕ
      pub world : Situation C
      pub replay : IsReplayWith (atoms_with atoms_of_run numbers) run absent world
      pub found : IsFound invariant world failed

    -- The numbers of the atoms to which the run is reduced: none, where nothing kept fails already; else what delta debugging leaves of
    -- all, which it cuts in two first.
    pub data AreEnough : List ℕ → Type 0 where
      nothing : Fails [] true → AreEnough []
      some : (left : List ℕ) → Fails [] false → IsReduced Fails (range_with_len 0 (length atoms_of_run)) 2 left → AreEnough left

    -- the run is reduced to some atoms, and this is its replay with them
    pub record IsReduction (atoms : List (List ℕ)) (of : ℕ) (run : List Taken) (absent : List ℕ) (world : Situation C) : Type 0 where
      pub numbers : List ℕ
      pub enough : AreEnough numbers
      pub kept : atoms ≡ atoms_with atoms_of_run numbers
      pub all : of ≡ length atoms_of_run
      pub replay : IsReplayWith atoms run absent world
      pub violated : IsFound invariant world true
