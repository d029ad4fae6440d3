-- What is told of ports, of the whole and of the ends.
use Rattle.std.proofs.Common.{◌≡◌, ◌∙◌, ℕ, Bool, List, ap}
use Rattle.of10_messages.specs.declared.port.PortDesc.{PortDesc}
use Rattle.route_app.specs.Routing.{Router, all_told_ends, says_down, told, told_all, told_ends}

-- the state after a switch has listed its ports
pub told_state : (s : ℕ) (ports : List PortDesc) (router now : Router) (links : List (ℕ × ℕ × ℕ × ℕ)) (down : List (Bool × Bool)) → router ≡ now → links ≡ router.map.links
    → down ≡ all_told_ends s ports links router.down → record router { down = down } ≡ told_all s ports now
told_state s ports router now links down view same is =
    ap (λ (d : List (Bool × Bool)). record router { down = d }) (is ∙ ap (λ (ls : List (ℕ × ℕ × ℕ × ℕ)). all_told_ends s ports ls router.down) same)
    ∙ ap (told_all s ports) view

-- the state after it has told of one
pub told_one : (s : ℕ) (port : PortDesc) (router now : Router) (links : List (ℕ × ℕ × ℕ × ℕ)) (down : List (Bool × Bool)) → router ≡ now → links ≡ router.map.links
    → down ≡ told_ends s port.port_no (says_down port) links router.down → record router { down = down } ≡ told s port.port_no (says_down port) now
told_one s port router now links down view same is =
    ap (λ (d : List (Bool × Bool)). record router { down = d }) (is ∙ ap (λ (ls : List (ℕ × ℕ × ℕ × ℕ)). told_ends s port.port_no (says_down port) ls router.down) same)
    ∙ ap (told s port.port_no (says_down port)) view
