-- The first item is a valid packet at a switch of the network, and what is planned is a plan for it.
use Rattle.std.proofs.Common.{ℕ, ◌<◌, length, rules, subst, sym}
use Rattle.event_world.proofs.Steps.{packet_plan, packet_there, packet_valid, packet_within, place_within, stands}
use Rattle.event_world.proofs.world.World.take_packet.Goals as goal

pub first_packet-packet-requires-after_bounds : goal.first_packet-packet-requires-after_bounds
first_packet-packet-requires-after_bounds g c =
    let setup = c.args.setup.now in
    let there = packet_there setup.topology (length setup.controllers) c.args.s c.args.p c.args.self.now.shared c.requires.fits.shared c.requires.head in
    search rules

pub bounds-deref-from : goal.bounds-deref-from
bounds-deref-from g c =
    let setup = c.args.setup.now in
    let switches = c.args.self.now.switches in
    let within : c.args.s < length switches = subst (λ (n : ℕ). c.args.s < n) (sym c.requires.fits.switches) (packet_within setup.topology (length setup.controllers) c.args.s c.args.p c.args.self.now.shared c.requires.fits.shared c.requires.head) in
    place_within c.deref.result.now switches c.from.result c.args.s (cc) c.from.ensures within

pub plan_packet-requires : goal.plan_packet-requires
plan_packet-requires g c =
    let setup = c.args.setup.now in
    packet_valid setup.topology (length setup.controllers) c.args.s c.args.p c.first_packet-packet.result c.args.self.now.shared c.requires.fits.shared c.first_packet-packet.ensures

pub carry_out-requires-clause-plan : goal.carry_out-requires-clause-plan
carry_out-requires-clause-plan g c =
    let setup = c.args.setup.now in
    let switches = c.args.self.now.switches in
    let plan = c.in_ok-planned.ensures in
    let within : c.args.s < length switches = subst (λ (n : ℕ). c.args.s < n) (sym c.requires.fits.switches) (packet_within setup.topology (length setup.controllers) c.args.s c.args.p c.args.self.now.shared c.requires.fits.shared c.requires.head) in
    let there = stands c.deref.result.now switches c.from.result c.args.s c.index-deref-from.result (cc) c.from.ensures within c.index-deref-from.is in
    let ready = packet_plan c.args.s c.args.p c.first_packet-packet.result c.args.self.now.shared switches c.index-deref-from.result c.in_ok-planned.planned c.first_packet-packet.ensures there plan.step plan.fits plan.valid plan.few in
    search rules
