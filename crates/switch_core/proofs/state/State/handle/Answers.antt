-- The parts of a valid message are no longer than it, and the ports of a switch are few.
use Rattle.std.proofs.Common.{length, ap, arith}
use Rattle.std.proofs.lemmas.List.FromFn.{length-map-range_with_len}
use Rattle.of10_messages.specs.declared.message.Features.{Features}
use Rattle.switch_core.specs.Ports.{port_desc}
use Rattle.switch_core.proofs.Stays.{actions_fit, parts_fit}
use Rattle.switch_core.proofs.state.State.handle.Goals as goal

pub echo_reply-requires : goal.echo_reply-requires
echo_reply-requires c =
    let fits = rw c.in-EchoRequest.is at (parts_fit c.args.message.now c.lengths_of_messages.ensures c.requires.message) in
    let copied = ap length c.in_ok-copy-in-EchoRequest.ensures in
    omega arith

pub features_reply-requires-clause-fits : goal.features_reply-requires-clause-fits
features_reply-requires-clause-fits c =
    let s = c.args.self.now in
    let ports = ap (λ (f : Features). length f.ports) c.in_ok-features-in-FeaturesRequest.ensures.features in
    let long = length-map-range_with_len (port_desc s) 1 s.ports in
    let most = c.requires.state.most in
    omega arith

pub flow_mod-requires-clause-small : goal.flow_mod-requires-clause-small
flow_mod-requires-clause-small c =
    let fits = rw c.in-FlowMod.is at (parts_fit c.args.message.now c.lengths_of_messages.ensures c.requires.message) in
    let valid = rw c.in-FlowMod.is at c.requires.message.body in
    actions_fit c.in-FlowMod.mods.actions valid.actions fits
