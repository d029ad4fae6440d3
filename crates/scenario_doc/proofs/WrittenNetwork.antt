-- Switches, links, hosts and invariants read back.
use Rattle.std.proofs.Common.{◌≡◌, ℕ, ◌≤◌, ◌<◌, ◌^◌, ◌-◌, All, Option, Some, None, Ok, refl, arith, rules}
use Rattle.std.specs.Prelude.{IfSome}
use Rattle.topology.specs.declared.invariant.Invariant.{Invariant}
use Rattle.topology.specs.declared.invariant.Invariant.TheVariants as invariant
use Rattle.doc_forms.specs.Forms.{list, name}
use Rattle.doc_forms.specs.Written.{list_data, nullable_data, number_data}
use Rattle.scenario_doc.specs.Flows.{preset_of}
use Rattle.scenario_doc.specs.Network.{host_of, invariant_of, link_of, switch_of}
use Rattle.scenario_doc.specs.Packets.{nullable}
use Rattle.scenario_doc.specs.Ranges.{IsWideHost, IsWideInvariant, IsWidePreset, IsWideSwitch}
use Rattle.scenario_doc.specs.Written.{HasNarrowPorts, IsNarrow, IsNarrowHost, IsNarrowInvariant, IsNarrowLink, host_data, invariant_data, link_data, preset_data, switch_data}
use Rattle.scenario_doc.specs.declared.network.SwitchDraft.{SwitchDraft}
use Rattle.scenario_doc.proofs.WrittenFlows.{preset_reads}
use Rattle.scenario_doc.proofs.WrittenForms.{All-both, below_power, list_reads, name_reads, narrow, nullable_reads, number_reads}
use Rattle.scenario_doc.proofs.WrittenPackets.{match_reads}

pub owner_reads : (owner : Option ℕ) → IfSome owner IsNarrow → nullable name (nullable_data number_data owner) ≡ Ok owner
owner_reads None h = refl
owner_reads (Some c) h = nullable_reads name number_data (λ x. refl) (Some c) (name_reads c h)

pub presets_read : (switch : SwitchDraft) → IsWideSwitch switch → All HasNarrowPorts switch.presets
    → list preset_of 64 (list_data preset_data switch.presets) ≡ Ok switch.presets
presets_read switch w n = list_reads preset_of preset_data 64 switch.presets w.few
    (All-both IsWidePreset HasNarrowPorts (λ p. preset_of (preset_data p) ≡ Ok p) preset_reads switch.presets w.presets n)

-- the names in a switch
pub record IsNarrowSwitch (switch : SwitchDraft) : Type 0 where
  pub owner : IfSome switch.owner IsNarrow
  pub presets : All HasNarrowPorts switch.presets

pub switch_reads : (switch : SwitchDraft) → IsWideSwitch switch → IsNarrowSwitch switch → switch_of (switch_data switch) ≡ Ok switch
switch_reads switch w n = rw (number_reads 1 48 switch.ports w.ports.0 w.ports.1, owner_reads switch.owner n.owner, presets_read switch w n.presets)

pub link_reads : (link : ℕ × ℕ × ℕ × ℕ) → IsNarrowLink link → link_of (link_data link) ≡ Ok link
link_reads link n = rw (narrow link.0 n.0, narrow link.1 n.1, narrow link.2 n.2, narrow link.3 n.3)

pub host_reads : (host : ℕ × ℕ × ℕ) → IsWideHost host → IsNarrowHost host → host_of (host_data host) ≡ Ok host
host_reads host w n = rw (narrow host.0 n.0, narrow host.1 n.1, number_reads 1 (2 ^ 48 - 1) host.2 w.0 (below_power 48 host.2 w.1))

pub invariant_reads : (one : Invariant) → IsWideInvariant one → IsNarrowInvariant one → invariant_of (invariant_data one) ≡ Ok one
invariant_reads invariant.LoopFree w n = refl
invariant_reads invariant.NoBlackHole w n = refl
invariant_reads (invariant.Forbid src dst matches) w n = rw (narrow src n.0, narrow dst n.1, match_reads matches w.2)
