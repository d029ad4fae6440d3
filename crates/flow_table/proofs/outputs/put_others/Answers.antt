-- The next port is added, or it is the one by which the packet came in.
use Rattle.std.proofs.Common.{◌∙◌, ◌+◌, ◌++◌, ℕ, List, map, false, sym, ap}
use Rattle.flow_table.proofs.Outcomes.{next_port, put_more, same_port}
use Rattle.flow_table.specs.Outcome.{ports_but}
use Rattle.flow_table.specs.declared.outputs.Output.{Output}
use Rattle.flow_table.specs.declared.outputs.Target.TheVariants.{Port}
use Rattle.flow_table.proofs.outputs.put_others.Goals.{then-port-in_port+in_ok-push, else-port-in_port}
use Rattle.flow_table.proofs.outputs.put_others.Goals as goal

pub loop-place-preserved : goal.loop-place-preserved
loop-place-preserved c =
    let f = λ (other : ℕ). let o : Output = record { target = Port other; header = c.args.header; plain = false } in o in
    let n = c.loop-place.place in
    elim c.if-port-in_port.branch [
      | then-port-in_port+in_ok-push w ↦
          put_more f c.args.outputs.now c.loop-place.outputs c.if-port-in_port.outputs (ports_but n c.args.in_port) (ports_but (n + 1) c.args.in_port) (n + 1)
          c.loop-place.invariant (w.outputs-is ∙ w.in_ok-push.ensures.ok) (next_port n c.args.in_port w.if-port-in_port.true)
      | else-port-in_port w ↦
          w.outputs-is ∙ c.loop-place.invariant
          ∙ ap (λ (ports : List ℕ). c.args.outputs.now ++ map f ports) (sym (same_port n c.args.in_port w.if-port-in_port.false))
    ]
