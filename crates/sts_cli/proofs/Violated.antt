-- The first invariant that is violated.
use Rattle.std.proofs.Common.{◌≡◌, ◌∙◌, ℕ, true, false, List, get_or, slice_get, Some, refl, sym, ap, subst}
use Rattle.std.specs.Prelude.{Option, None, IsSomeAnd, MatchOption}
use Rattle.std.specs.List.{AllZip}
use Rattle.std.proofs.lemmas.List.Quantifiers.{position-Some}
use Rattle.std.proofs.lemmas.Bool.{true≢false}
use Rattle.std.proofs.lemmas.Option.{get_or_from_slice_get, slice_get-get_or}
use Rattle.std.proofs.lemmas.Slice.Zip.{AllZip-right}
use Rattle.topology.specs.declared.invariant.Invariant.{Invariant}
use Rattle.machine_setup.specs.declared.setup.Setup.{Setup}
use Rattle.event_world.specs.Answers.{network_of}
use Rattle.event_world.specs.World.{Situation}
use Rattle.event_world.specs.declared.net_state.NetState.{NetState}
use Rattle.event_machine.specs.Legal.{world_after}
use Rattle.event_machine.specs.declared.trace.Trace.{Trace}
use Rattle.controller_host.specs.Hosting.{Hosting, hosting, starting}
use Rattle.scenario_doc.specs.declared.scenario.Scenario.{Scenario}
use Rattle.invariant_check.specs.Verdict.{IsVerdict, is_violated}
use Rattle.invariant_check.specs.declared.walk.Verdict.{Verdict}
use Rattle.invariant_check.specs.declared.walk.Verdict.TheVariants.{Holds}
use Rattle.causal_minimizer.specs.Failing.{IsFound}
use Rattle.sts_cli.specs.Sequences.{IsViolatedAt}
use Rattle.sts_cli.specs.Verdicts.{AreVerdicts, first_violated}

-- what holds of an option's value
held : {A : Type 0} (P : A → Type 0) (o : Option A) → IsSomeAnd o P → (x : A) × (o ≡ Some x) × P x
held P (Some x) h = (x, refl, h)
held P None h = absurd h

-- the partner of an element of the second list
partner : {A B : Type 0} (R : A → B → Type 0) (xs : List A) (ys : List B) (k : ℕ) (y : B) → AllZip R xs ys → slice_get ys k ≡ Some y
    → (x : A) × (slice_get xs k ≡ Some x) × R x y
partner {A} {B} R xs ys k y zip there =
    held (λ (x : A). R x y) (slice_get xs k)
    (subst (λ (o : Option B). MatchOption o (Unit {0}) (λ (z : B). IsSomeAnd (slice_get xs k) (λ (x : A). R x z))) there (AllZip-right R xs ys zip k))

-- where the first verdict of violation stands, that invariant is violated at the end of the run
pub violated_there : (scenario : Scenario) (trace : Trace) (verdicts : List Verdict) (place : ℕ)
    → AreVerdicts scenario (world_after hosting starting scenario.setup trace) verdicts → first_violated verdicts ≡ Some place
    → IsViolatedAt scenario trace place
violated_there scenario trace verdicts place are first =
    let found = position-Some is_violated verdicts place Holds first in
    let verdict = get_or verdicts place Holds in
    let there : slice_get verdicts place ≡ Some verdict = slice_get-get_or verdicts place Holds found.0 in
    let net = network_of scenario.setup.topology (world_after hosting starting scenario.setup trace) in
    let named = partner (λ (i : Invariant) (v : Verdict). IsVerdict net i v) scenario.invariants verdicts place verdict are there in
    record {
      invariant = named.0;
      named = named.1;
      found = record { verdict = verdict; judged = named.2; told = found.1 };
    }

-- the invariant that a list lends at its place is that one
pub lent_there : (invariants lent : List Invariant) (place : ℕ) (one default : Invariant) → lent ≡ invariants → slice_get invariants place ≡ Some one
    → get_or lent place default ≡ one
lent_there invariants lent place one default same there =
    subst (λ (list : List Invariant). get_or list place default ≡ one) (sym same) (get_or_from_slice_get invariants place one default there)

-- an invariant is not both violated in a world and not
pub never_both : ((net : NetState) (invariant : Invariant) (one other : Verdict) → IsVerdict net invariant one → IsVerdict net invariant other → one ≡ other)
    → (setup : Setup Hosting) (one other : Invariant) (world : Situation Hosting) → other ≡ one
    → IsFound hosting starting setup one world true → IsFound hosting starting setup other world false → ⊥
never_both judged setup one other world same violated holds =
    let here : IsFound hosting starting setup one world false = subst (λ (i : Invariant). IsFound hosting starting setup i world false) same holds in
    let verdict : violated.verdict ≡ here.verdict = judged (network_of setup.topology world) one violated.verdict here.verdict violated.judged here.judged in
    true≢false (sym violated.told ∙ ap is_violated verdict ∙ here.told)
