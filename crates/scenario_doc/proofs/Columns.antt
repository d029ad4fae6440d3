-- The parts of switches that were read, side by side.
use Rattle.std.proofs.Common.{◌≡◌, ◌≤◌, ℕ, List, length, map, sym, ◌∙◌}
use Rattle.std.specs.Prelude.{All, Option}
use Rattle.std.proofs.lemmas.List.{length-map}
use Rattle.std.proofs.lemmas.List.Elements.{All-map, All-weaker}
use Rattle.machine_setup.specs.declared.preset.Preset.{Preset}
use Rattle.scenario_doc.specs.Ranges.{IsWidePreset, IsWideSwitch}
use Rattle.scenario_doc.specs.declared.network.SwitchDraft.{SwitchDraft}

-- the switches: at most 64, with the ports, the controller and the presets of each
pub record AreWideSwitches (counts : List ℕ) (controllers : List (Option ℕ)) (entries : List (List Preset)) : Type 0 where
  pub few : length counts ≤ 64
  pub ports : All (λ ports. (1 ≤ ports) × (ports ≤ 48)) counts
  pub owners : length controllers ≡ length counts
  pub lists : length entries ≡ length counts
  pub presets : All (λ presets. (length presets ≤ 64) × All IsWidePreset presets) entries

-- what holds of each part of each switch
pub wide_columns : (switches : List SwitchDraft) (ports : List ℕ) (owner : List (Option ℕ)) (presets : List (List Preset))
    → ports ≡ map (λ s. s.ports) switches → owner ≡ map (λ s. s.owner) switches → presets ≡ map (λ s. s.presets) switches
    → length switches ≤ 64 → All IsWideSwitch switches → AreWideSwitches ports owner presets
wide_columns switches ports owner presets p o l few wide = rw (p, o, l) (record {
  few = rw (length-map switches (λ s. s.ports)) few;
  ports = All-map (λ count. (1 ≤ count) × (count ≤ 48)) (λ s. s.ports) switches (All-weaker IsWideSwitch (λ s. (1 ≤ s.ports) × (s.ports ≤ 48)) (λ s w. w.ports) switches wide);
  owners = length-map switches (λ s. s.owner) ∙ sym (length-map switches (λ s. s.ports));
  lists = length-map switches (λ s. s.presets) ∙ sym (length-map switches (λ s. s.ports));
  presets = All-map (λ list. (length list ≤ 64) × All IsWidePreset list) (λ s. s.presets) switches (All-weaker IsWideSwitch (λ s. (length s.presets ≤ 64) × All IsWidePreset s.presets) (λ s w. (w.few, w.presets)) switches wide);
})
