-- Data of 36 bytes are a packet, to which the actions are applied.
use Rattle.std.proofs.Common.{◌≡◌, true, None, sym}
use Rattle.switch_core.specs.Refusal.{actions_refusal}
use Rattle.switch_core.proofs.Stays.{is_applied}
use Rattle.switch_core.proofs.state.State.plan_packet_out.Goals as goal

pub returns-clause-step : goal.returns-clause-step
returns-clause-step c =
    let s = c.args.self.now in
    let bytes = c.in-Some-first_chunk.record.now in
    let accepted : actions_refusal true s.ports c.args.actions.now ≡ None = cc in
    let applies = is_applied s c.args.request.now c.args.in_port c.args.actions.now c.args.content.now bytes accepted c.if-content-ne36.false
    c.in-Some-first_chunk.ensures.cases.same in
    rw (applies, sym c.from_record.ensures.packet) c.plan_actions.ensures.step
