use Rattle.std.proofs.Common.{arith}
use Rattle.serde_json.proofs.Views.{view-Array}
use Rattle.scenario_doc.proofs.WrittenSwitches.{switch_written, switches_all}
use Rattle.scenario_doc.proofs.write_network.switches_json.Goals as goal

pub loop-s-preserved : goal.loop-s-preserved
loop-s-preserved c =
    switch_written c.args.ports.now c.args.owners.now c.args.presets.now c.loop-s.s c.index-presets-s.result c.loop-s.values.items c.push.new.self.items
    c.in_ok-switch_json.field-0 (omega arith) c.index-presets-s.is c.loop-s.invariant (c.in_ok-push.ensures {u = tt}).items (c.in_ok-switch_json.ensures {u = tt})

pub returns : goal.returns
returns c =
    let all = switches_all c.args.ports.now c.args.owners.now c.args.presets.now c.loop-s.s (omega arith) in
    rw (view-Array c.loop-s.values, c.loop-s.invariant, all)
