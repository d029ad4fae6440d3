-- A run is reduced in one way at most.
use Rattle.std.proofs.Common.{◌≡◌, ◌∙◌, ℕ, List, [], length, Bool, true, false, refl, sym, ap, subst}
use Rattle.std.proofs.lemmas.Bool.{true≢false}
use Rattle.controller_api.specs.Reaction.{Reaction}
use Rattle.controller_api.specs.declared.item.UpItem.{UpItem}
use Rattle.machine_setup.specs.declared.setup.Setup.{Setup}
use Rattle.topology.specs.declared.invariant.Invariant.{Invariant}
use Rattle.event_world.specs.Answers.{network_of}
use Rattle.event_world.specs.World.{Situation}
use Rattle.event_world.specs.declared.net_state.NetState.{NetState}
use Rattle.event_machine.specs.declared.trace.Entry.{Entry}
use Rattle.event_machine.specs.declared.trace.Trace.{Trace}
use Rattle.causal_replay.specs.Replay.{IsReplay}
use Rattle.causal_replay.specs.declared.replayed.Taken.{Taken}
use Rattle.invariant_check.specs.Verdict.{IsVerdict, is_violated}
use Rattle.invariant_check.specs.declared.walk.Verdict.{Verdict}
use Rattle.input_atoms.proofs.Minimal.{determined}
use Rattle.causal_minimizer.specs.Failing.{AreEnough, Fails, IsFound, IsReduction, IsReplayWith, atoms_of_run, atoms_with, kept_with}

-- of a network and an invariant there is one verdict
abbrev IsJudgedOnce : Type 0
IsJudgedOnce = (net : NetState) (invariant : Invariant) (one other : Verdict) → IsVerdict net invariant one → IsVerdict net invariant other → one ≡ other

module _ {C : Type 0} (react : C → UpItem → Reaction C) (first : C → C) where
  -- entries have at most one replay for each choice of lines
  abbrev IsReplayedOnce : Type 0
  IsReplayedOnce = (setup : Setup C) (entries : List Entry) (keep : List Bool) (run other_run : List Taken) (absent other_absent : List ℕ) (world other_world : Situation C)
      → IsReplay react first setup entries keep run absent world → IsReplay react first setup entries keep other_run other_absent other_world
      → (run ≡ other_run) × (absent ≡ other_absent) × (world ≡ other_world)

  module _ (replayed : IsReplayedOnce) (judged : IsJudgedOnce) (setup : Setup C) where
    -- whether an invariant is violated in a world has one answer
    one_finding : (invariant : Invariant) (world : Situation C) (one other : Bool) → IsFound react first setup invariant world one → IsFound react first setup invariant world other → one ≡ other
    one_finding invariant world one other a b =
        sym a.told ∙ ap is_violated (judged (network_of setup.topology world) invariant a.verdict b.verdict a.judged b.judged) ∙ b.told

    module _ (trace : Trace) (invariant : Invariant) where
      -- no replay both ends in a violation and does not
      never_both : (numbers : List ℕ) → Fails react first setup trace invariant numbers true → Fails react first setup trace invariant numbers false → ⊥
      never_both numbers ends never =
          let same = replayed setup trace.entries _ ends.run never.run ends.absent never.absent ends.world never.world ends.replay never.replay in
          let found : IsFound react first setup invariant ends.world false = subst (λ (world : Situation C). IsFound react first setup invariant world false) (sym same.2) never.found in
          true≢false (one_finding invariant ends.world true false ends.found found)

      -- the numbers that are enough are determined
      one_enough : (numbers others : List ℕ) → AreEnough react first setup trace invariant numbers → AreEnough react first setup trace invariant others → numbers ≡ others
      one_enough [] [] (AreEnough.nothing fails) (AreEnough.nothing also) = refl
      one_enough [] others (AreEnough.nothing fails) (AreEnough.some left none reduced) = absurd (never_both [] fails none)
      one_enough numbers [] (AreEnough.some left none reduced) (AreEnough.nothing fails) = absurd (never_both [] fails none)
      one_enough numbers others (AreEnough.some left none reduced) (AreEnough.some other also way) =
          determined (Fails react first setup trace invariant) never_both reduced others way

      -- so are the atoms and their replay
      pub one_reduction : (atoms others : List (List ℕ)) (of other_of : ℕ) (run other_run : List Taken) (absent other_absent : List ℕ) (world other_world : Situation C)
          → IsReduction react first setup trace invariant atoms of run absent world → IsReduction react first setup trace invariant others other_of other_run other_absent other_world
          → (atoms ≡ others) × (of ≡ other_of) × (run ≡ other_run) × (absent ≡ other_absent) × (world ≡ other_world)
      one_reduction atoms others of other_of run other_run absent other_absent world other_world a b =
          let numbers : a.numbers ≡ b.numbers = one_enough a.numbers b.numbers a.enough b.enough in
          let same : atoms ≡ others = a.kept ∙ ap (atoms_with (atoms_of_run react first setup trace invariant)) numbers ∙ sym b.kept in
          let replay : IsReplayWith react first setup trace invariant atoms other_run other_absent other_world =
          subst (λ (kept : List (List ℕ)). IsReplayWith react first setup trace invariant kept other_run other_absent other_world) (sym same) b.replay in
          let one = replayed setup trace.entries (kept_with (length setup.script) atoms) run other_run absent other_absent world other_world a.replay replay in
          (same, a.all ∙ sym b.all, one.0, one.1, one.2)
