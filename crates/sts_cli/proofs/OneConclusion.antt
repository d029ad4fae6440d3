-- What is told of the end of a run is determined.
use Rattle.std.proofs.Common.{◌≡◌, ℕ, ◌++◌, List, [], ◌∷◌, slice_get, refl, sym, ◌∙◌, ap, ap₂, subst}
use Rattle.std.specs.Prelude.{Option, Some, None}
use Rattle.std.specs.List.{AllZip}
use Rattle.machine_setup.specs.declared.setup.Setup.{Setup}
use Rattle.topology.specs.declared.invariant.Invariant.{Invariant}
use Rattle.event_world.specs.Answers.{network_of}
use Rattle.event_world.specs.World.{Situation}
use Rattle.event_world.specs.declared.net_state.NetState.{NetState}
use Rattle.event_machine.specs.Legal.{world_after}
use Rattle.event_machine.specs.declared.trace.Trace.{Trace}
use Rattle.controller_host.specs.Hosting.{Hosting, hosting, starting}
use Rattle.scenario_doc.specs.declared.scenario.Scenario.{Scenario}
use Rattle.causal_replay.specs.declared.replayed.Taken.{Taken}
use Rattle.causal_minimizer.specs.Failing.{IsReduction}
use Rattle.invariant_check.specs.Verdict.{IsVerdict}
use Rattle.invariant_check.specs.declared.walk.Verdict.{Verdict}
use Rattle.report_text.specs.Verdicts.{verdicts_text}
use Rattle.sts_cli.specs.Sequences.{IsConclusion, IsJudgement, IsSequence, IsShown, telling_text}
use Rattle.sts_cli.specs.Verdicts.{AreVerdicts, first_violated}
use Rattle.sts_cli.specs.declared.sequence.Telling.{Telling}
use Rattle.sts_cli.specs.declared.sequence.Telling.TheVariants.{Whole}

-- of a network and an invariant there is one verdict
abbrev pub IsJudgedOnce : Type 0
IsJudgedOnce = (net : NetState) (invariant : Invariant) (one other : Verdict) → IsVerdict net invariant one → IsVerdict net invariant other → one ≡ other

-- a run is reduced for an invariant in one way at most
abbrev pub IsReducedOnce : Type 0
IsReducedOnce = (setup : Setup Hosting) (trace : Trace) (invariant : Invariant) (atoms others : List (List ℕ)) (of other_of : ℕ) (run other_run : List Taken)
    (absent other_absent : List ℕ) (world other_world : Situation Hosting)
    → IsReduction hosting starting setup trace invariant atoms of run absent world → IsReduction hosting starting setup trace invariant others other_of other_run other_absent other_world
    → (atoms ≡ others) × (of ≡ other_of) × (run ≡ other_run) × (absent ≡ other_absent) × (world ≡ other_world)

-- ---- verdicts

-- where each element has one partner at most, a list has one list of partners at most
one_list : {A B : Type 0} (P : A → B → Type 0) → ((x : A) (y z : B) → P x y → P x z → y ≡ z) → (xs : List A) (ys zs : List B) → AllZip P xs ys → AllZip P xs zs → ys ≡ zs
one_list P one [] [] [] a b = refl
one_list P one (x ∷ xs) (y ∷ ys) (z ∷ zs) a b = ap₂ (λ v vs. v ∷ vs) (one x y z a.0 b.0) (one_list P one xs ys zs a.1 b.1)
one_list P one [] (y ∷ ys) zs a b = absurd a
one_list P one [] [] (z ∷ zs) a b = absurd b
one_list P one (x ∷ xs) [] zs a b = absurd a
one_list P one (x ∷ xs) (y ∷ ys) [] a b = absurd b

-- a scenario has one list of verdicts in a world
pub verdicts_once : IsJudgedOnce → (scenario : Scenario) (world : Situation Hosting) (verdicts others : List Verdict) → AreVerdicts scenario world verdicts → AreVerdicts scenario world others → verdicts ≡ others
verdicts_once judged scenario world verdicts others a b =
    one_list (λ invariant verdict. IsVerdict (network_of scenario.setup.topology world) invariant verdict) (judged (network_of scenario.setup.topology world)) scenario.invariants verdicts others a b

-- ---- reductions

-- it is one invariant at one place
one_invariant : (invariants : List Invariant) (place : ℕ) (one other : Invariant) → slice_get invariants place ≡ Some one → slice_get invariants place ≡ Some other → one ≡ other
one_invariant invariants place one other a b = cc

-- what is told of a reduction is made of its parts
same_telling : (telling : Telling) (scenario : Scenario) (place : ℕ) (atoms others : List (List ℕ)) (of other_of : ℕ) (run other_run : List Taken) (absent other_absent : List ℕ)
    → atoms ≡ others → of ≡ other_of → run ≡ other_run → absent ≡ other_absent
    → telling_text telling scenario place atoms of run absent ≡ telling_text telling scenario place others other_of other_run other_absent
same_telling telling scenario place atoms others of other_of run other_run absent other_absent same_atoms same_of same_run same_absent =
    ap₂ (λ (a : List (List ℕ)) (n : ℕ). telling_text telling scenario place a n run absent) same_atoms same_of
    ∙ ap₂ (λ (r : List Taken) (l : List ℕ). telling_text telling scenario place others other_of r l) same_run same_absent

module _ (reduced : IsReducedOnce) where
  -- a run that is reduced for the invariant at a place is shown in one way
  shown_once : (telling : Telling) (scenario : Scenario) (trace : Trace) (place : ℕ) (text more : List ℕ) → IsShown telling scenario trace place text → IsShown telling scenario trace place more → text ≡ more
  shown_once telling scenario trace place text more a b =
      let one = a.reduced in
      let two = b.reduced in
      let invariant : two.invariant ≡ one.invariant = one_invariant scenario.invariants place two.invariant one.invariant two.named one.named in
      let other = subst (λ (i : Invariant). IsReduction hosting starting scenario.setup trace i b.atoms b.of b.run b.absent two.world) invariant two.reduced in
      let same = reduced scenario.setup trace one.invariant a.atoms b.atoms a.of b.of a.run b.run a.absent b.absent one.world two.world one.reduced other in
      a.told ∙ same_telling telling scenario place a.atoms b.atoms a.of b.of a.run b.run a.absent b.absent same.0 same.1 same.2 same.3 ∙ sym b.told

  -- from the first invariant that is violated one thing is concluded
  one_conclusion : (telling : Telling) (calm : ℕ) (scenario : Scenario) (trace : Trace) (found again : Option ℕ) (code other : ℕ) (text more : List ℕ) → found ≡ again
      → IsConclusion telling calm scenario trace found code text → IsConclusion telling calm scenario trace again other more → (code ≡ other) × (text ≡ more)
  one_conclusion telling calm scenario trace None None code other text more same a b = (a.0 ∙ sym b.0, a.1 ∙ sym b.1)
  one_conclusion telling calm scenario trace None (Some place) code other text more same a b = absurd (cc)
  one_conclusion telling calm scenario trace (Some place) None code other text more same a b = absurd (cc)
  one_conclusion telling calm scenario trace (Some place) (Some there) code other text more same a b =
      let place_is : there ≡ place = cc in
      (a.0 ∙ sym b.0, shown_once telling scenario trace place text more a.1 (subst (λ (n : ℕ). IsShown telling scenario trace n more) place_is b.1))

  module _ (judged : IsJudgedOnce) where
    -- from the verdicts at the end of a run one sequence comes
    pub one_sequence : (scenario : Scenario) (trace : Trace) (code other : ℕ) (text more : List ℕ) → IsSequence scenario trace code text → IsSequence scenario trace other more → (code ≡ other) × (text ≡ more)
    one_sequence scenario trace code other text more (verdicts, are, is) (others, also, so) =
        let same = verdicts_once judged scenario (world_after hosting starting scenario.setup trace) verdicts others are also in
        one_conclusion Whole 9 scenario trace (first_violated verdicts) (first_violated others) code other text more (ap first_violated same) is so

    -- and one judgement
    pub one_judgement : (telling : Telling) (scenario : Scenario) (trace : Trace) (code other : ℕ) (text more : List ℕ) → IsJudgement telling scenario trace code text → IsJudgement telling scenario trace other more → (code ≡ other) × (text ≡ more)
    one_judgement telling scenario trace code other text more a b =
        let same = verdicts_once judged scenario (world_after hosting starting scenario.setup trace) a.verdicts b.verdicts a.judged b.judged in
        let said = one_conclusion telling 0 scenario trace (first_violated a.verdicts) (first_violated b.verdicts) code other a.rest b.rest (ap first_violated same) a.concluded b.concluded in
        (said.0, a.told ∙ ap₂ (λ (v : List Verdict) (rest : List ℕ). verdicts_text scenario.invariants v ++ rest) same said.1 ∙ sym b.told)
