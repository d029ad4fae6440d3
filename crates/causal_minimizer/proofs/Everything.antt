-- The replay that keeps all lines is one that keeps all atoms of the run.
use Rattle.std.proofs.Common.{◌≡◌, ◌∙◌, ℕ, ◌+◌, ◌≤◌, List, length, map, replicate, take, slice_get, Bool, true, false, Some, All, sym, ap, arith}
use Rattle.std.specs.List.{range_with_len}
use Rattle.std.proofs.lemmas.Bool.{true≢false}
use Rattle.std.proofs.lemmas.List.{take_all, get_or-replicate, length-replicate}
use Rattle.listed.specs.Lists.{all_at}
use Rattle.controller_api.specs.Reaction.{Reaction}
use Rattle.controller_api.specs.declared.item.UpItem.{UpItem}
use Rattle.machine_setup.specs.declared.setup.Setup.{Setup}
use Rattle.topology.specs.declared.invariant.Invariant.{Invariant}
use Rattle.event_world.specs.World.{Situation, after_all}
use Rattle.event_world.specs.declared.event.Event.TheVariants.{In}
use Rattle.event_machine.specs.Legal.{IsLegalRun, world_after, world_before}
use Rattle.event_machine.specs.declared.trace.Entry.{Entry}
use Rattle.event_machine.specs.declared.trace.Trace.{Trace}
use Rattle.causal_replay.specs.Replay.{IsReplay, IsSegment, Kept, Met, Missed, Segment, Skipped, world_at}
use Rattle.causal_replay.specs.declared.replayed.Taken.{Taken}
use Rattle.causal_minimizer.specs.Failing.{Fails, IsFound, atoms_of_run}
use Rattle.causal_minimizer.proofs.Inputs.{AllStand, all_keep, taken_line}

all_true : (n : ℕ) → All (λ kept. kept ≡ true) (replicate n true)
all_true n = λ k d within. let long = length-replicate n true in get_or-replicate n k true d (omega arith)

pub all_true_of : (keep : List Bool) (n : ℕ) → keep ≡ replicate n true → All (λ kept. kept ≡ true) keep
all_true_of keep n is = rw is (all_true n)

module _ {C : Type 0} (react : C → UpItem → Reaction C) where
  -- a segment where all lines are kept is one where the entry's own line is kept
  kept_segment : (setup : Setup C) (keep other : List Bool) (at : ℕ) (world : Situation C) (entry : Entry) (segment : Segment) → All (λ kept. kept ≡ true) keep
      → ((position : ℕ) → entry.event ≡ In position → slice_get other position ≡ Some true) → IsSegment react setup keep at world entry segment → IsSegment react setup other at world entry segment
  kept_segment setup keep other at world entry (Kept position) all given (is, kept) = (is, given position is)
  kept_segment setup keep other at world entry Skipped all given (position, is, skipped) = absurd (true≢false (sym (all_at (λ (kept : Bool). kept ≡ true) keep position false all skipped)))
  kept_segment setup keep other at world entry (Met place extra event) all given met = met
  kept_segment setup keep other at world entry (Missed place extra) all given missed = missed

  module _ (first : C → C) where
    kept_replay : (setup : Setup C) (entries : List Entry) (keep other : List Bool) (run : List Taken) (absent : List ℕ) (world : Situation C) → All (λ kept. kept ≡ true) keep
        → ((at position : ℕ) (entry : Entry) → slice_get entries at ≡ Some entry → entry.event ≡ In position → slice_get other position ≡ Some true)
        → IsReplay react first setup entries keep run absent world → IsReplay react first setup entries other run absent world
    kept_replay setup entries keep other run absent world all given known = record {
      segments = known.segments;
      count = known.count;
      each = λ at entry segment here there. kept_segment setup keep other at _ entry segment all (λ position is. given at position entry here is) (known.each at entry segment here there);
      run_is = known.run_is;
      absent_is = known.absent_is;
      world_is = known.world_is;
    }

    -- where the end of a run is a violation, the replay with all of its atoms fails
    pub all_fail : AllStand → (setup : Setup C) (trace : Trace) (invariant : Invariant) (run : List Taken) (absent : List ℕ) (world : Situation C) → IsLegalRun react first setup trace
        → (world_after react first setup trace).shared.inputs ≤ length setup.script
        → IsReplay react first setup trace.entries (replicate (length setup.script) true) run absent world → IsFound react first setup invariant world true
        → Fails react first setup trace invariant (range_with_len 0 (length (atoms_of_run react first setup trace invariant))) true
    all_fail stand setup trace invariant run absent world legal few known found = record {
      run = run;
      absent = absent;
      world = world;
      replay = kept_replay setup trace.entries (replicate (length setup.script) true) _ run absent world (all_true (length setup.script))
          (λ at position entry here is. all_keep stand setup.script (world_after react first setup trace).shared.inputs position few (taken_line react first setup trace.entries at position entry legal.entries here is)) known;
      found = found;
    }

    -- the world after all of a run, by a law of what it is after each step
    pub end_world : (setup : Setup C) (trace : Trace) (run : List Taken) (world : Situation C) → world ≡ world_at react first setup run
        → ((at : ℕ) → world_at react first setup (take at run) ≡ world_before react first setup trace.entries at) → world ≡ world_after react first setup trace
    end_world setup trace run world is each =
        let at = length run + length trace.entries in
        let whole : take at run ≡ run = take_all at run (omega arith) in
        let entries : take at trace.entries ≡ take (length trace.entries) trace.entries = take_all at trace.entries (omega arith) ∙ sym (take_all (length trace.entries) trace.entries (omega arith)) in
        is ∙ ap (world_at react first setup) (sym whole) ∙ each at ∙ ap (λ (front : List Entry). after_all react first setup (map (λ entry. entry.event) front)) entries
