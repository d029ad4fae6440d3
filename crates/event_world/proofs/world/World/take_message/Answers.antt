-- The first item is a valid message to a switch of the network.
use Rattle.std.proofs.Common.{ℕ, ◌<◌, length, subst, sym, rules}
use Rattle.event_world.proofs.Steps.{message_waits, message_within}
use Rattle.event_world.proofs.world.World.take_message.Goals as goal

pub plan_message-requires-clause-switch : goal.plan_message-requires-clause-switch
plan_message-requires-clause-switch g c =
    let setup = c.args.setup.now in
    let within : c.args.s < length c.args.self.now.switches =
    subst (λ (n : ℕ). c.args.s < n) (sym c.requires.fits.switches)
    (message_within setup.topology (length setup.controllers) c.args.s c.args.self.now.shared c.requires.fits.shared (message_waits setup.topology (length setup.controllers) c.args.s c.args.self.now.shared c.requires.fits.shared c.requires.head)) in
    λ κs lives. within

pub plan_message-requires-clause-head : goal.plan_message-requires-clause-head
plan_message-requires-clause-head g c = let setup = c.args.setup.now in let head = message_waits setup.topology (length setup.controllers) c.args.s c.args.self.now.shared c.requires.fits.shared c.requires.head in search rules
