-- Ports that stand one after the other.
use Rattle.std.proofs.Common.{◌≡◌, ◌+◌, ◌-◌, ◌*◌, ◌<◌, ◌∙◌, ℕ, suc, List, ◌∷◌, drop, refl, ap, arith}
use Rattle.std.proofs.lemmas.List.{drop-drop}
use Rattle.of10_messages.specs.Reading.{port_of, ports_of}

-- what is left begins with the next port
pub next_port : (count at : ℕ) (bytes : List ℕ) → at < count
    → ports_of (count - at) (drop (48 * at) bytes) ≡ port_of (drop (48 * at) bytes) ∷ ports_of (count - (at + 1)) (drop (48 * (at + 1)) bytes)
next_port count at bytes more =
    let n = count - (at + 1) in
    let left : count - at ≡ suc n = omega arith in
    let place : 48 * at + 48 ≡ 48 * (at + 1) = omega arith in
    let moved : drop 48 (drop (48 * at) bytes) ≡ drop (48 * (at + 1)) bytes = drop-drop 48 (48 * at) bytes ∙ ap (λ (k : ℕ). drop k bytes) place in
    let step : ports_of (suc n) (drop (48 * at) bytes) ≡ port_of (drop (48 * at) bytes) ∷ ports_of n (drop 48 (drop (48 * at) bytes)) = refl in
    ap (λ (k : ℕ). ports_of k (drop (48 * at) bytes)) left ∙ step ∙ ap (λ (rest : List ℕ). port_of (drop (48 * at) bytes) ∷ ports_of n rest) moved
