-- Matches, invariants and applications that keep their rules.
use Rattle.std.proofs.Common.{ℕ, ◌<◌, ◌≤◌, ◌-◌, ◌^◌, ◌%◌, List, length, All, Option, Some, None, IfSome, eqb}
use Rattle.std.proofs.lemmas.Bool.{eqb-true}
use borrow.Author.Tests.{ltb-true}
use Rattle.of10_match.specs.Field.{IsValidAddress}
use Rattle.of10_match.specs.Match.{IsValidMatch}
use Rattle.of10_match.specs.declared.matches.Match.{Match}
use Rattle.topology.specs.declared.invariant.Invariant.{Invariant}
use Rattle.topology.specs.declared.invariant.Invariant.TheVariants as invariant
use Rattle.topology.specs.declared.network.Topology.{Topology}
use Rattle.scenario_doc.specs.Fit.{IsFitInvariant, IsFitPlan}
use Rattle.scenario_doc.specs.Ranges.{AreWidePlans, IsWideInvariant, IsWideMatch, IsWidePlan, IsWidePrefix}
use Rattle.scenario_doc.specs.Rules.{address_rules, at, each, host_number_rules, invariant_rules, match_rules, plan_rules}
use Rattle.scenario_doc.specs.declared.plans.Plan.{Plan}
use Rattle.scenario_doc.specs.declared.plans.Plan.TheVariants as plan
use Rattle.std.specs.Fmt.{decimal}
use Rattle.doc_forms.specs.Reading.{require}
use Rattle.scenario_doc.proofs.FitReading.{IsKept, all_kept, part_kept, require_kept, under_kept}

pub address_fits : (address : Option (ℕ × ℕ)) → IfSome address IsWidePrefix → IsKept (address_rules address) → IsValidAddress address
address_fits None wide e = tt
address_fits (Some prefix) wide e =
    let test = require_kept 18 (eqb (prefix.0 % 2 ^ (32 - prefix.1)) 0) (under_kept (decimal 0) (require 18 (eqb (prefix.0 % 2 ^ (32 - prefix.1)) 0)) e) in
    record { address = wide.address; some = wide.some; most = wide.most; rest = eqb-true (prefix.0 % 2 ^ (32 - prefix.1)) 0 test }

pub match_fits : (m : Match) → IsWideMatch m → IsKept (match_rules m) → IsValidMatch m
match_fits m wide e =
    let source = part_kept (decimal 8) (address_rules m.nw_src) (at 9 (address_rules m.nw_dst)) e in
    record {
      in_port = wide.in_port;
      dl_src = wide.dl_src;
      dl_dst = wide.dl_dst;
      dl_vlan = wide.dl_vlan;
      dl_vlan_pcp = wide.dl_vlan_pcp;
      dl_type = wide.dl_type;
      nw_tos = wide.nw_tos;
      nw_proto = wide.nw_proto;
      nw_src = address_fits m.nw_src wide.nw_src source.0;
      nw_dst = address_fits m.nw_dst wide.nw_dst (under_kept (decimal 9) (address_rules m.nw_dst) source.1);
      tp_src = wide.tp_src;
      tp_dst = wide.tp_dst;
    }

pub host_number_fits : (network : Topology) (h : ℕ) → IsKept (host_number_rules network h) → h < length network.hosts
host_number_fits network h e = ltb-true h (length network.hosts) (require_kept 17 _ e)

pub invariant_fits : (network : Topology) (one : Invariant) → IsWideInvariant one → IsKept (invariant_rules network one)
    → IsFitInvariant (length network.hosts) one
invariant_fits network (invariant.Forbid src dst matches) wide e =
    let source = part_kept (decimal 1) (host_number_rules network src) _ e in
    let destination = part_kept (decimal 2) (host_number_rules network dst) (at 3 (match_rules matches)) source.1 in (
      host_number_fits network src source.0,
      host_number_fits network dst destination.0,
      match_fits matches wide.2 (under_kept (decimal 3) (match_rules matches) destination.1),
    )
invariant_fits network invariant.LoopFree wide e = tt
invariant_fits network invariant.NoBlackHole wide e = tt

pub plan_fits : (one : Plan) → IsWidePlan one → IsKept (plan_rules one) → IsFitPlan one
plan_fits (plan.Firewall reinstall rules) wide e = (
  wide.0,
  all_kept IsWideMatch IsValidMatch (λ r one. match_rules one) rules wide.1
      (under_kept (decimal 2) (each (λ r one. match_rules one) rules) e) (λ r one. match_fits one),
)
plan_fits (plan.Learning idle) wide e = tt
plan_fits (plan.Routing clear) wide e = tt

pub plans_fit : (plans : List Plan) → AreWidePlans plans → IsKept (each (λ a one. plan_rules one) plans) → (length plans ≤ 4) × All IsFitPlan plans
plans_fit plans wide e = (wide.0, all_kept IsWidePlan IsFitPlan (λ a one. plan_rules one) plans wide.1 e (λ a one. plan_fits one))
