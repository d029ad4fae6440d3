-- Actions and presets read back.
use Rattle.std.proofs.Common.{◌≡◌, ℕ, ◌≤◌, ◌<◌, ◌^◌, All, Ok, refl, arith, rules}
use Rattle.std.proofs.lemmas.List.Elements.{All-weaker}
use Rattle.of10_messages.specs.declared.action.Action.{Action}
use Rattle.of10_messages.specs.declared.action.Action.TheVariants as action
use Rattle.machine_setup.specs.declared.preset.Preset.{Preset}
use Rattle.doc_forms.specs.Forms.{list}
use Rattle.doc_forms.specs.Written.{list_data}
use Rattle.scenario_doc.specs.Flows.{action_of, preset_of}
use Rattle.scenario_doc.specs.Ranges.{IsWideAction, IsWidePreset}
use Rattle.scenario_doc.specs.Written.{HasNarrowPort, HasNarrowPorts, action_data, preset_data}
use Rattle.scenario_doc.proofs.WrittenForms.{All-both, bits_reads, list_reads, narrow, number_reads}
use Rattle.scenario_doc.proofs.WrittenPackets.{match_reads}

pub action_reads : (a : Action) → IsWideAction a → HasNarrowPort a → action_of (action_data a) ≡ Ok a
action_reads (action.Output port max_len) w n = rw (narrow port n, bits_reads 16 max_len w.1)
action_reads (action.SetVlanVid vlan) w n = rw (number_reads 0 4095 vlan (omega arith) w)
action_reads (action.SetVlanPcp pcp) w n = rw (number_reads 0 7 pcp (omega arith) w)
action_reads action.StripVlan w n = refl
action_reads (action.SetDlSrc address) w n = rw (bits_reads 48 address w)
action_reads (action.SetDlDst address) w n = rw (bits_reads 48 address w)
action_reads (action.SetNwSrc address) w n = rw (bits_reads 32 address w)
action_reads (action.SetNwDst address) w n = rw (bits_reads 32 address w)
action_reads (action.SetNwTos tos) w n = rw (bits_reads 8 tos w)
action_reads (action.SetTpSrc port) w n = rw (bits_reads 16 port w)
action_reads (action.SetTpDst port) w n = rw (bits_reads 16 port w)
action_reads (action.Other type body) w n = absurd w

pub actions_read : (preset : Preset) → IsWidePreset preset → HasNarrowPorts preset
    → list action_of 16 (list_data action_data preset.actions) ≡ Ok preset.actions
actions_read preset w n = list_reads action_of action_data 16 preset.actions w.few
    (All-both IsWideAction HasNarrowPort (λ a. action_of (action_data a) ≡ Ok a) action_reads preset.actions w.actions n)

pub preset_reads : (preset : Preset) → IsWidePreset preset → HasNarrowPorts preset → preset_of (preset_data preset) ≡ Ok preset
preset_reads preset w n = rw (
  match_reads preset.matches w.matches,
  bits_reads 16 preset.priority w.priority,
  actions_read preset w n,
  bits_reads 16 preset.idle w.idle,
  bits_reads 16 preset.hard w.hard,
  number_reads 0 1 preset.flags (omega arith) w.flags,
  bits_reads 64 preset.cookie w.cookie,
)
