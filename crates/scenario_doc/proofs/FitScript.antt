-- Inputs that keep their rules.
use Rattle.std.proofs.Common.{ℕ, ◌<◌, length}
use Rattle.std.specs.Fmt.{decimal}
use Rattle.std.proofs.lemmas.Bool.{ltb-true}
use Rattle.topology.specs.Network.{ends_of}
use Rattle.topology.specs.declared.network.Topology.{Topology}
use Rattle.machine_setup.specs.Setup.{IsInput}
use Rattle.machine_setup.specs.declared.script.Input.{Input}
use Rattle.machine_setup.specs.declared.script.Input.TheVariants as input
use Rattle.scenario_doc.specs.Ranges.{IsWideInput}
use Rattle.scenario_doc.specs.Rules.{at, free_rules, host_number_rules, input_rules, match_rules, port_rules, switch_rules}
use Rattle.scenario_doc.proofs.FitMatch.{host_number_fits, match_fits}
use Rattle.scenario_doc.proofs.FitNetwork.{none_is, port_fits}
use Rattle.scenario_doc.proofs.FitReading.{IsKept, both_kept, part_kept, require_kept, require_not_kept, under_kept}

switch_fits : (network : Topology) (s : ℕ) → IsKept (at 2 (switch_rules network s)) → s < length network.ports
switch_fits network s e = ltb-true s (length network.ports) (require_kept 10 _ (under_kept (decimal 2) (switch_rules network s) e))

pub input_fits : (network : Topology) (controllers : ℕ) (one : Input) → IsWideInput one → IsKept (input_rules network controllers one)
    → IsInput network controllers one
input_fits network controllers (input.Inject host packet) wide e =
    (host_number_fits network host (under_kept (decimal 2) (host_number_rules network host) e), wide)
input_fits network controllers (input.LinkDown link) wide e = ltb-true link (length network.links) (require_kept 16 _ (under_kept (decimal 2) _ e))
input_fits network controllers (input.LinkUp link) wide e = ltb-true link (length network.links) (require_kept 16 _ (under_kept (decimal 2) _ e))
input_fits network controllers (input.SwitchFail s) wide e = switch_fits network s e
input_fits network controllers (input.SwitchUp s) wide e = switch_fits network s e
input_fits network controllers (input.ControlDown s) wide e = switch_fits network s e
input_fits network controllers (input.ControlUp s) wide e = switch_fits network s e
input_fits network controllers (input.HostMove host s p) wide e =
    let moved = part_kept (decimal 2) (host_number_rules network host) _ e in
    let there = part_kept (decimal 3) (switch_rules network s) _ moved.1 in
    let port = both_kept (port_rules network s p) (free_rules (ends_of network.links) s p) (under_kept (decimal 4) _ there.1) in
    (host_number_fits network host moved.0, (port_fits network s p there.0 port.0, none_is s p (ends_of network.links) (require_not_kept 12 _ port.1)))
input_fits network controllers (input.Policy c deny) wide e =
    let controller = part_kept (decimal 2) _ (at 3 (match_rules deny)) e in
    (ltb-true c controllers (require_kept 15 _ controller.0), match_fits deny wide (under_kept (decimal 3) (match_rules deny) controller.1))
input_fits network controllers (input.Seconds n) wide e = wide
