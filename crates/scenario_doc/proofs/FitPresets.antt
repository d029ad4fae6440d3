-- Switches whose presets and controller keep their rules.
use Rattle.std.proofs.Common.{arith, ◌≡◌, ℕ, ◌<◌, ◌≤◌, ◌⊎◌, List, length, take, get_or, slice_get, Bool, true, false, ◌||◌, not, eqb, refl, ap, inl, inr, All, Option, Some, None}
use Rattle.std.specs.List.{list_any}
use Rattle.std.specs.Option.{option_eq}
use Rattle.std.specs.Fmt.{decimal}
use Rattle.std.proofs.lemmas.Bool.{eq-eqb, eqb-true, ltb-true}
use Rattle.std.proofs.lemmas.Option.{get_or_from_slice_get, slice_get-get_or, slice_get_within}
use Rattle.flow_table.specs.Outcome.{is_port}
use Rattle.of10_match.specs.Field.{same_prefix}
use Rattle.of10_match.specs.Match.{same}
use Rattle.of10_match.specs.declared.matches.Match.{Match}
use Rattle.of10_messages.specs.declared.action.Action.{Action}
use Rattle.of10_messages.specs.declared.action.Action.TheVariants as action
use Rattle.machine_setup.specs.Setup.{IsOwner, IsPreset, IsPresetAction, IsPresetPort, IsPresets, IsPresetsAt, key_of}
use Rattle.machine_setup.specs.declared.preset.Preset.{Preset}
use Rattle.scenario_doc.specs.Ranges.{IsWideAction, IsWidePreset}
use Rattle.scenario_doc.specs.Rules.{action_rules, at, each, is_preset_port, match_rules, owner_at, owner_rules, preset_rules, presets_at, same_key, switch_parts_rules}
use Rattle.scenario_doc.specs.declared.draft.Draft.{Draft}
use Rattle.doc_forms.specs.Reading.{require}
use Rattle.scenario_doc.proofs.FitMatch.{match_fits}
use Rattle.scenario_doc.proofs.FitReading.{IsKept, all_kept, both_kept, differ_before, each_kept, part_kept, require_kept, require_not_kept, under_kept}

-- ---- ports of actions

or_cases : (a b : Bool) → (a || b) ≡ true → (a ≡ true) ⊎ (b ≡ true)
or_cases true b e = inl refl
or_cases false b e = inr e

preset_port_fits : (ports port : ℕ) → is_preset_port ports port ≡ true → IsPresetPort ports port
preset_port_fits ports port e =
    let own = is_port ports port in
    let in_port = eqb port 65528 in
    let flood = eqb port 65531 in
    let all = eqb port 65532 in
    elim (or_cases (((own || in_port) || flood) || all) (eqb port 65533) e) [
      | inr last ↦ inr (inr (inr (inr (eqb-true port 65533 last))))
      | inl four ↦ elim (or_cases ((own || in_port) || flood) all four) [
        | inr fourth ↦ inr (inr (inr (inl (eqb-true port 65532 fourth))))
        | inl three ↦ elim (or_cases (own || in_port) flood three) [
          | inr third ↦ inr (inr (inl (eqb-true port 65531 third)))
          | inl two ↦ elim (or_cases own in_port two) [
            | inr second ↦ inr (inl (eqb-true port 65528 second))
            | inl first ↦ inl first
          ]
        ]
      ]
    ]

action_fits : (ports : ℕ) (one : Action) → IsWideAction one → IsKept (action_rules ports one) → IsPresetAction ports one
action_fits ports (action.Output port max_len) wide e =
    (preset_port_fits ports port (require_kept 19 _ (under_kept (decimal 1) (require 19 (is_preset_port ports port)) e)), wide.1)
action_fits ports (action.SetVlanVid vlan) wide e = wide
action_fits ports (action.SetVlanPcp pcp) wide e = wide
action_fits ports action.StripVlan wide e = wide
action_fits ports (action.SetDlSrc address) wide e = wide
action_fits ports (action.SetDlDst address) wide e = wide
action_fits ports (action.SetNwSrc address) wide e = wide
action_fits ports (action.SetNwDst address) wide e = wide
action_fits ports (action.SetNwTos tos) wide e = wide
action_fits ports (action.SetTpSrc port) wide e = wide
action_fits ports (action.SetTpDst port) wide e = wide
action_fits ports (action.Other kind body) wide e = wide

-- ---- keys of presets

number_itself : (x : Option ℕ) → option_eq eqb x x ≡ true
number_itself None = refl
number_itself (Some x) = eq-eqb x x refl

prefix_itself : (x : Option (ℕ × ℕ)) → option_eq same_prefix x x ≡ true
prefix_itself None = refl
prefix_itself (Some (address, bits)) = rw (eq-eqb address address refl, eq-eqb bits bits refl) refl

match_itself : (m : Match) → same m m ≡ true
unfolding same
match_itself m = rw (
  number_itself m.in_port,
  number_itself m.dl_src,
  number_itself m.dl_dst,
  number_itself m.dl_vlan,
  number_itself m.dl_vlan_pcp,
  number_itself m.dl_type,
  number_itself m.nw_tos,
  number_itself m.nw_proto,
  prefix_itself m.nw_src,
  prefix_itself m.nw_dst,
  number_itself m.tp_src,
  number_itself m.tp_dst,
) refl

same_key_fits : (x y : Preset) → key_of x ≡ key_of y → same_key y x ≡ true
same_key_fits x y e =
    let matches : x.matches ≡ y.matches = ap (λ (key : Match × ℕ). key.0) e in
    let priority : x.priority ≡ y.priority = ap (λ (key : Match × ℕ). key.1) e in
    rw (matches, priority, match_itself y.matches, eq-eqb y.priority y.priority refl) refl

-- ---- presets

-- what the rules of a preset show
record PresetFits (ports : ℕ) (presets : List Preset) (index : ℕ) (preset : Preset) : Type 0 where
  alone : list_any (same_key preset) (take index presets) ≡ false
  matches : IsKept (match_rules preset.matches)
  actions : IsKept (each (λ k one. action_rules ports one) preset.actions)

preset_parts : (ports : ℕ) (presets : List Preset) (index : ℕ) (preset : Preset) → IsKept (preset_rules ports presets index preset)
    → PresetFits ports presets index preset
preset_parts ports presets index preset e =
    let alone = both_kept (require 20 (not (list_any (same_key preset) (take index presets)))) _ e in
    let matches = part_kept (decimal 0) (match_rules preset.matches) (at 2 (each (λ k one. action_rules ports one) preset.actions)) alone.1 in
    record {
      alone = require_not_kept 20 _ alone.0;
      matches = matches.0;
      actions = under_kept (decimal 2) (each (λ k one. action_rules ports one) preset.actions) matches.1;
    }

preset_fits : (ports : ℕ) (presets : List Preset) (index : ℕ) (preset : Preset) → IsWidePreset preset
    → IsKept (preset_rules ports presets index preset) → IsPreset ports preset
preset_fits ports presets index preset wide e = let parts = preset_parts ports presets index preset e in record {
  matches = match_fits preset.matches wide.matches parts.matches;
  priority = wide.priority;
  few = wide.few;
  actions = all_kept IsWideAction (IsPresetAction ports) (λ k one. action_rules ports one) preset.actions wide.actions parts.actions
      (λ k one. action_fits ports one);
  idle = wide.idle;
  hard = wide.hard;
  flags = wide.flags;
  cookie = wide.cookie;
}

presets_at_fit : (ports : ℕ) (presets : List Preset) → length presets ≤ 64 → All IsWidePreset presets
    → IsKept (each (preset_rules ports presets) presets) → IsPresetsAt ports presets
presets_at_fit ports presets few wide e = record {
  few = few;
  each = all_kept IsWidePreset (IsPreset ports) (preset_rules ports presets) presets wide e (preset_fits ports presets);
  differ = differ_before key_of same_key presets same_key_fits
      (λ j d h. (preset_parts ports presets j (get_or presets j d) (each_kept (preset_rules ports presets) presets e j d h)).alone);
}

-- ---- switches

owner_fits : (controllers : ℕ) (owner : Option ℕ) → IsKept (owner_rules controllers owner) → IsOwner controllers owner
owner_fits controllers None e = tt
owner_fits controllers (Some c) e = ltb-true c controllers (require_kept 15 _ e)

-- what the rules of a switch show
switch_parts : (draft : Draft) → IsKept (each (switch_parts_rules draft) draft.topology.ports) → (s d : ℕ) → s < length draft.topology.ports
    → IsKept (owner_rules (length draft.plans) (owner_at draft.topology.owner s))
    × IsKept (each (preset_rules (get_or draft.topology.ports s d) (presets_at draft.presets s)) (presets_at draft.presets s))
switch_parts draft e s d h =
    let presets = presets_at draft.presets s in
    let parts = part_kept (decimal 1) (owner_rules (length draft.plans) (owner_at draft.topology.owner s)) _
    (each_kept (switch_parts_rules draft) draft.topology.ports e s d h) in
    (parts.0, under_kept (decimal 2) (each (preset_rules (get_or draft.topology.ports s d) presets) presets) parts.1)

pub owners_fit : (draft : Draft) → length draft.topology.owner ≡ length draft.topology.ports
    → IsKept (each (switch_parts_rules draft) draft.topology.ports) → All (IsOwner (length draft.plans)) draft.topology.owner
owners_fit draft same e = λ s d h.
    let found : slice_get draft.topology.owner s ≡ Some (get_or draft.topology.owner s d) = slice_get-get_or draft.topology.owner s d h in
    owner_fits (length draft.plans) (get_or draft.topology.owner s d) (rw found at (switch_parts draft e s 0 (omega arith)).0)

pub presets_fit : (draft : Draft) → length draft.presets ≡ length draft.topology.ports
    → All (λ presets. (length presets ≤ 64) × All IsWidePreset presets) draft.presets
    → IsKept (each (switch_parts_rules draft) draft.topology.ports) → IsPresets draft.topology.ports draft.presets
presets_fit draft same wide e = record {
  lists = same;
  each = λ s list found.
      let within = slice_get_within draft.presets s list found in
      let is_list : get_or draft.presets s list ≡ list = get_or_from_slice_get draft.presets s list list found in
      let ranges : (length list ≤ 64) × All IsWidePreset list = rw is_list at (wide s list within) in
      presets_at_fit (get_or draft.topology.ports s 0) list ranges.0 ranges.1 (rw found at (switch_parts draft e s 0 (omega arith)).1);
}
