use Rattle.std.proofs.Common.{◌≡◌, ◌++◌, drop, string_bytes}
use Rattle.std.specs.Prelude.{flat_map}
use Rattle.report_text.specs.Verdicts.{node_text}
use Rattle.report_text.proofs.verdicts.push_nodes.Given as goal

abbrev pub invariant-loop-node : goal.invariant-loop-node
invariant-loop-node l = string_bytes l.text ++ flat_map node_text (drop l.node-index l.nodes) ≡ string_bytes l.fn.text ++ flat_map node_text l.nodes
