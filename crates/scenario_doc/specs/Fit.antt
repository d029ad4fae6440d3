-- What holds of a draft that keeps all rules: it is a scenario that can run, under controllers and invariants that it names.
use Rattle.std.specs.Prelude.{ℕ, ◌<◌, ◌≤◌, length, All}
use Rattle.of10_match.specs.Match.{IsValidMatch}
use Rattle.topology.specs.declared.invariant.Invariant.{Invariant}
use Rattle.topology.specs.declared.invariant.Invariant.TheVariants as invariant
use Rattle.machine_setup.specs.Setup.{IsValid}
use Rattle.scenario_doc.specs.declared.draft.Draft.{Draft}
use Rattle.scenario_doc.specs.declared.plans.Plan.{Plan}
use Rattle.scenario_doc.specs.declared.plans.Plan.TheVariants as plan

-- an application: the rules of a firewall are valid matches, at most 64
abbrev pub IsFitPlan : Plan → Type 0
IsFitPlan (plan.Firewall reinstall rules) = (length rules ≤ 64) × All IsValidMatch rules
IsFitPlan other = Unit {0}

-- an invariant names hosts, of so many, and its match is valid
abbrev pub IsFitInvariant : ℕ → Invariant → Type 0
IsFitInvariant hosts (invariant.Forbid src dst matches) = (src < hosts) × (dst < hosts) × IsValidMatch matches
IsFitInvariant hosts other = Unit {0}

-- the whole: the network, the presets, the script and the limits can run under as many controllers as are planned
pub record IsFit (draft : Draft) : Type 0 where
  pub valid : IsValid draft.topology draft.presets (length draft.plans) draft.script draft.limits
  pub plans : All (λ plans. (length plans ≤ 4) × All IsFitPlan plans) draft.plans
  pub few : length draft.invariants ≤ 32
  pub invariants : All (IsFitInvariant (length draft.topology.hosts)) draft.invariants
