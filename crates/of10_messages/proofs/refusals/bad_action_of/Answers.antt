-- The actions lie within the message.
use Rattle.std.proofs.Common.{arith}
use Rattle.of10_messages.proofs.Bodies.{least_of, out_room}
use Rattle.of10_messages.proofs.refusals.bad_action_of.Goals as goal

pub u16_at-requires : goal.u16_at-requires
u16_at-requires c = omega (arith, out_room c.args.bytes.now c.requires.body c.in-13.is)

pub rest_at-requires : goal.rest_at-requires
rest_at-requires c = omega (arith, out_room c.args.bytes.now c.requires.body c.in-13.is)

pub front_of-requires : goal.front_of-requires
front_of-requires c = omega (arith, out_room c.args.bytes.now c.requires.body c.in-13.is)

pub rest_at-requires-in-14 : goal.rest_at-requires-in-14
rest_at-requires-in-14 c = least_of c.args.bytes.now 14 c.requires.body c.in-14.is
