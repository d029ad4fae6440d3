-- The actions of a FLOW_MOD are no longer than its body.
use Rattle.std.proofs.Common.{arith}
use Rattle.of10_messages.proofs.Sizes.{length_flow_mod}
use Rattle.of10_messages.proofs.writing.put_body.Goals as goal

pub put_flow_mod-requires-clause-fits : goal.put_flow_mod-requires-clause-fits
put_flow_mod-requires-clause-fits c = let fits = rw c.in-FlowMod.is at c.requires.fits in omega (arith, fits, length_flow_mod c.in-FlowMod.mods)
