-- Switches, one after another from three lists.
use Rattle.std.proofs.Common.{◌≡◌, ℕ, zero, suc, ◌≤◌, ◌<◌, ◌+◌, min, List, [], ◌∷◌, ◌++◌, map, take, length, get_or, Option, None, refl, sym, ap, ap₂, ◌∙◌, add-one, arith, rules}
use Rattle.std.proofs.lemmas.List.{map-append, take_all}
use Rattle.serde_json.specs.View.{view}
use Rattle.serde_json.specs.declared.value.Value.{Value}
use Rattle.machine_setup.specs.declared.preset.Preset.{Preset}
use Rattle.scenario_doc.specs.Written.{switch_data, switches_beside}
use Rattle.scenario_doc.specs.declared.network.SwitchDraft.{SwitchDraft}

pub length-switches_beside : (ports : List ℕ) (owners : List (Option ℕ)) (presets : List (List Preset))
    → length (switches_beside ports owners presets) ≡ min (min (length ports) (length owners)) (length presets)
length-switches_beside [] owners presets = omega arith
length-switches_beside (p ∷ ports) [] presets = omega arith
length-switches_beside (p ∷ ports) (o ∷ owners) [] = omega arith
length-switches_beside (p ∷ ports) (o ∷ owners) (x ∷ presets) = omega (arith, length-switches_beside ports owners presets)

-- the switch at a place
switch_after : (ports : List ℕ) (owners : List (Option ℕ)) (presets : List (List Preset)) (s : ℕ) (d : ℕ) (e : Option ℕ) (x : List Preset)
    → s < length ports → s < length owners → s < length presets → x ≡ get_or presets s x
    → take (suc s) (switches_beside ports owners presets)
    ≡ take s (switches_beside ports owners presets) ++ record { ports = get_or ports s d; owner = get_or owners s e; presets = x } ∷ []
switch_after [] owners presets s d e x a b c is = absurd (omega arith)
switch_after (p ∷ ports) [] presets s d e x a b c is = absurd (omega arith)
switch_after (p ∷ ports) (o ∷ owners) [] s d e x a b c is = absurd (omega arith)
switch_after (p ∷ ports) (o ∷ owners) (y ∷ presets) zero d e x a b c is = ap (λ z. record { ports = p; owner = o; presets = z } ∷ []) (sym is)
switch_after (p ∷ ports) (o ∷ owners) (y ∷ presets) (suc s) d e x a b c is =
    ap (λ zs. record { ports = p; owner = o; presets = y } ∷ zs) (switch_after ports owners presets s d e x (omega arith) (omega arith) (omega arith) is)

pub switch_more : (ports : List ℕ) (owners : List (Option ℕ)) (presets : List (List Preset)) (s : ℕ) (d : ℕ) (e : Option ℕ) (x : List Preset)
    → s < min (min (length ports) (length owners)) (length presets) → x ≡ get_or presets s x
    → take (s + 1) (switches_beside ports owners presets)
    ≡ take s (switches_beside ports owners presets) ++ record { ports = get_or ports s d; owner = get_or owners s e; presets = x } ∷ []
switch_more ports owners presets s d e x below is =
    rw add-one (switch_after ports owners presets s d e x (omega arith) (omega arith) (omega arith) is)

pub switches_all : (ports : List ℕ) (owners : List (Option ℕ)) (presets : List (List Preset)) (s : ℕ)
    → min (min (length ports) (length owners)) (length presets) ≤ s → take s (switches_beside ports owners presets) ≡ switches_beside ports owners presets
switches_all ports owners presets s past =
    take_all s (switches_beside ports owners presets) (omega (arith, length-switches_beside ports owners presets))

-- one more switch is written
pub switch_written : (ports : List ℕ) (owners : List (Option ℕ)) (presets : List (List Preset)) (s : ℕ) (x : List Preset) (done after : List Value) (value : Value)
    → s < min (min (length ports) (length owners)) (length presets) → x ≡ get_or presets s x
    → map view done ≡ map switch_data (take s (switches_beside ports owners presets)) → after ≡ done ++ value ∷ []
    → view value ≡ switch_data (record { ports = get_or ports s 0; owner = get_or owners s None; presets = x })
    → map view after ≡ map switch_data (take (s + 1) (switches_beside ports owners presets))
switch_written ports owners presets s x done after value below is so_far pushed written =
    let this : SwitchDraft = record { ports = get_or ports s 0; owner = get_or owners s None; presets = x } in
    let before : List SwitchDraft = take s (switches_beside ports owners presets) in
    ap (map view) pushed ∙ map-append view done (value ∷ []) ∙ ap₂ (λ xs y. xs ++ y ∷ []) so_far written
    ∙ sym (map-append switch_data before (this ∷ [])) ∙ ap (map switch_data) (sym (switch_more ports owners presets s 0 None x below is))
