-- Nodes and outputs that are kept for all headers of a class at once, as they are for one of them.
use Rattle.std.specs.Prelude.{◌≡◌, IsTrue, List, map}
use Rattle.of10_match.specs.declared.header.Header.{Header}
use Rattle.flow_table.specs.declared.outputs.Output.{Output}
use Rattle.topology.specs.Network.{IsPort}
use Rattle.header_classes.specs.Cell.{in_cell}
use Rattle.header_classes.specs.Rewrite.{IsValidRewrite, rewritten}
use Rattle.header_classes.specs.declared.interval.Interval.{Interval}
use Rattle.header_classes.specs.declared.rewrite.Rewrite.{Rewrite}
use Rattle.event_world.specs.declared.net_state.NetState.{NetState}
use Rattle.invariant_check.specs.Walk.{outputs_at}
use Rattle.invariant_check.specs.declared.stop.Hop.{Hop}
use Rattle.invariant_check.specs.declared.stop.Stop.{Stop}
use Rattle.invariant_check.specs.declared.walk.Node.{Node}

-- the node that a stop is for a header
abbrev pub node_at : Header → Stop → Node
node_at h stop = record { s = stop.s; p = stop.p; header = rewritten stop.sets h }

-- the output that a hop is for a header
abbrev pub output_at : Header → Hop → Output
output_at h hop = record { target = hop.target; header = rewritten hop.sets h; plain = hop.plain }

-- a stop is at a port of the network, and what was set is valid
pub record IsStop (net : NetState) (stop : Stop) : Type 0 where
  pub place : IsPort net.topology.ports (stop.s, stop.p)
  pub sets : IsValidRewrite stop.sets

-- for each header of a cell the hops are what is sent of a packet at the stop
abbrev pub AreHops : NetState → List Interval → Stop → List Hop → Type 0
AreHops net cell stop hops = (h : Header) → IsTrue (in_cell cell h) → outputs_at net (node_at h stop) ≡ map (output_at h) hops

-- an output as a hop, after some sets
abbrev pub hop_of : Rewrite → Output → Hop
hop_of sets output = record { target = output.target; sets = sets; plain = output.plain }
