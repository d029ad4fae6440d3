-- A draft that keeps all rules fits.
use Rattle.std.proofs.Common.{◌≡◌, ◌≤◌, length, All, Result, Ok, Err, OnOk, codes}
use Rattle.std.specs.Prelude.{⊤}
use Rattle.machine_setup.specs.Setup.{IsInput}
use Rattle.machine_setup.specs.declared.script.Line.{Line}
use Rattle.doc_forms.specs.Reading.{Gives}
use Rattle.doc_forms.specs.declared.fail.DocFail.{DocFail}
use Rattle.scenario_doc.specs.Fit.{IsFit, IsFitInvariant, IsFitPlan}
use Rattle.scenario_doc.specs.Ranges.{AreWidePlans, IsWideDraft, IsWideInvariant, IsWideLine}
use Rattle.scenario_doc.specs.Rules.{draft_rules, each, host_rules, input_rules, invariant_rules, link_rules, plan_rules, switch_parts_rules}
use Rattle.scenario_doc.specs.declared.draft.Draft.{Draft}
use Rattle.scenario_doc.proofs.FitMatch.{invariant_fits, plans_fit}
use Rattle.scenario_doc.proofs.FitNetwork.{wired}
use Rattle.scenario_doc.proofs.FitPresets.{owners_fit, presets_fit}
use Rattle.scenario_doc.proofs.FitReading.{IsKept, all_kept, part_kept, under_kept}
use Rattle.scenario_doc.proofs.FitScript.{input_fits}

-- each part of a draft keeps its rules
record IsKeptDraft (draft : Draft) : Type 0 where
  controllers : IsKept (each (λ c plans. each (λ a one. plan_rules one) plans) draft.plans)
  hosts : IsKept (each (host_rules draft.topology) draft.topology.hosts)
  invariants : IsKept (each (λ i one. invariant_rules draft.topology one) draft.invariants)
  links : IsKept (each (link_rules draft.topology) draft.topology.links)
  script : IsKept (each (λ k line. input_rules draft.topology (length draft.plans) line.input) draft.script)
  switches : IsKept (each (switch_parts_rules draft) draft.topology.ports)

parts_kept : (draft : Draft) → IsKept (draft_rules draft) → IsKeptDraft draft
parts_kept draft e =
    let controllers = part_kept (codes "controllers") (each (λ c plans. each (λ a one. plan_rules one) plans) draft.plans) _ e in
    let hosts = part_kept (codes "hosts") (each (host_rules draft.topology) draft.topology.hosts) _ controllers.1 in
    let invariants = part_kept (codes "invariants") (each (λ i one. invariant_rules draft.topology one) draft.invariants) _ hosts.1 in
    let links = part_kept (codes "links") (each (link_rules draft.topology) draft.topology.links) _ invariants.1 in
    let script = part_kept (codes "script") (each (λ k line. input_rules draft.topology (length draft.plans) line.input) draft.script) _ links.1 in
    record {
      controllers = controllers.0;
      hosts = hosts.0;
      invariants = invariants.0;
      links = links.0;
      script = script.0;
      switches = under_kept (codes "switches") (each (switch_parts_rules draft) draft.topology.ports) script.1;
    }

pub fits : (draft : Draft) → IsWideDraft draft → draft_rules draft ≡ Ok tt → IsFit draft
fits draft wide e = let parts = parts_kept draft e in record {
  valid = record {
    network = record {
      switches = record {
        count = wide.few_switches;
        ports = wide.ports;
        owners = wide.owners;
        owned = owners_fit draft wide.owners parts.switches;
      };
      links = wide.few_links;
      hosts = wide.few_hosts;
      wired = wired draft.topology wide.hosts parts.hosts parts.links;
    };
    few = wide.few_plans;
    starts = presets_fit draft wide.lists wide.presets parts.switches;
    lines = wide.few_lines;
    inputs = all_kept IsWideLine (λ (line : Line). IsInput draft.topology (length draft.plans) line.input)
        (λ k line. input_rules draft.topology (length draft.plans) line.input) draft.script wide.lines parts.script
        (λ k line. input_fits draft.topology (length draft.plans) line.input);
    bounds = wide.limits;
  };
  plans = all_kept AreWidePlans (λ plans. (length plans ≤ 4) × All IsFitPlan plans) (λ c plans. each (λ a one. plan_rules one) plans)
      draft.plans wide.plans parts.controllers (λ c plans. plans_fit plans);
  few = wide.few_invariants;
  invariants = all_kept IsWideInvariant (IsFitInvariant (length draft.topology.hosts)) (λ i one. invariant_rules draft.topology one)
      draft.invariants wide.invariants parts.invariants (λ i one. invariant_fits draft.topology one);
}

-- an answer that gives what the rules give, where it is that they are kept
pub fits_if_ok : (draft : Draft) (r : Result ⊤ DocFail) → Gives r (draft_rules draft) → OnOk r (IsWideDraft draft → IsFit draft)
fits_if_ok draft (Ok x) gives = λ wide. fits draft wide gives
fits_if_ok draft (Err why) gives = tt
