use Rattle.std.proofs.Common.{◌∙◌, ap, arith, map, subst, sym}
use Rattle.std.proofs.lemmas.List.{take_all}
use Rattle.flow_table.specs.Entry.{IsTable}
use Rattle.machine_setup.specs.Setup.{entry_of}
use Rattle.event_world.proofs.Reading.{preset_table}
use Rattle.event_world.proofs.world.start_table.Goals as goal

pub of-requires : goal.of-requires
of-requires c =
    let whole = take_all c.loop-preset.preset-index c.args.presets.now (let past = c.loop-preset-test.false in omega arith) in
    let all = c.loop-preset.invariant ∙ ap (map entry_of) whole in
    subst IsTable (sym all) (preset_table c.requires.0 c.args.presets.now c.requires.1 c.requires.2)
