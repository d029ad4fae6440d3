-- The lengths of the bodies whose parts have lengths of their own.
use Rattle.std.proofs.Common.{arith, length-append}
use Rattle.of10_messages.proofs.Sizes.{length_features, length_flow_mod, length_match, length_port}
use Rattle.of10_messages.specs.Wire.{removal_fields}
use Rattle.of10_messages.proofs.lengths.body_len.Goals as goal

pub returns-in-FlowRemoved : goal.returns-in-FlowRemoved
unfolding removal_fields
returns-in-FlowRemoved c = rw c.in-FlowRemoved.is (simp length-append (omega (arith, length_match c.in-FlowRemoved.matches)))

pub returns-in-PortStatus : goal.returns-in-PortStatus
returns-in-PortStatus c =
    let valid = rw c.in-PortStatus.is at c.requires in
    rw c.in-PortStatus.is (omega (arith, length_port c.in-PortStatus.port valid.1.name_length))

pub returns-in-FeaturesReply : goal.returns-in-FeaturesReply
returns-in-FeaturesReply c =
    let valid = rw c.in-FeaturesReply.is at c.requires in
    rw c.in-FeaturesReply.is (omega (arith, length_features c.in-FeaturesReply.features valid.ports))

pub returns-in-FlowMod : goal.returns-in-FlowMod
returns-in-FlowMod c =
    let actions = rw c.as_slice.ensures at c.actions_len.ensures.bytes in
    rw c.in-FlowMod.is (omega (arith, actions, length_flow_mod c.in-FlowMod.mods))
