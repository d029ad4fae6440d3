-- The outputs of the ports so far were added.
use Rattle.std.proofs.Common.{◌≡◌, ◌++◌, map, false}
use Rattle.flow_table.specs.Outcome.{ports_but}
use Rattle.flow_table.specs.declared.outputs.Target.TheVariants.{Port}
use Rattle.flow_table.proofs.outputs.put_others.Given as goal

abbrev pub invariant-loop-place : goal.invariant-loop-place
invariant-loop-place l =
    l.outputs ≡ l.fn.outputs ++ map (λ other. record { target = Port other; header = l.header; plain = false }) (ports_but l.place l.in_port)
