-- What holds of bytes that are not refused.
use Rattle.of10_messages.proofs.Accepted.{accepted}
use Rattle.of10_messages.proofs.Bodies.{least, mods_good, out_good, out_room}
use Rattle.of10_messages.proofs.RoundTripBodies.{not_refused}
use Rattle.of10_messages.proofs.laws.what_is_not_refused.Goals as goal

pub returns-clause-parts : goal.returns-clause-parts
returns-clause-parts c = accepted

pub returns-clause-only : goal.returns-clause-only
returns-clause-only c = not_refused

pub returns-clause-least : goal.returns-clause-least
returns-clause-least c = λ bytes fine. least bytes fine.body

pub returns-clause-room : goal.returns-clause-room
returns-clause-room c = λ bytes fine is. out_room bytes fine.body is

pub returns-clause-packet_out : goal.returns-clause-packet_out
returns-clause-packet_out c = out_good

pub returns-clause-flow_mod : goal.returns-clause-flow_mod
returns-clause-flow_mod c = mods_good
