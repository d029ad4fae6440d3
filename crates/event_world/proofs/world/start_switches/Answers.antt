use Rattle.std.proofs.Common.{◌≡◌, ◌∙◌, ◌≤◌, List, All, Some, ap, arith, length, refl, slice_get, slice_index, subst, sym}
use Rattle.std.proofs.lemmas.List.{take_all}
use Rattle.std.proofs.lemmas.Option.{slice_get_read}
use Rattle.flow_table.specs.Expiry.{IsPast}
use Rattle.flow_table.specs.declared.entry.Entry.{Entry}
use Rattle.switch_core.specs.State.{fresh}
use Rattle.event_world.specs.World.{switch_at_start, switches_at_start}
use Rattle.event_world.proofs.Reading.{one_started, preset_past, preset_small}
use Rattle.event_world.proofs.Starting.{length_switches}
use Rattle.event_world.proofs.world.start_switches.Goals as goal

pub starting-requires-clause-past : goal.starting-requires-clause-past
starting-requires-clause-past c = subst (λ (table : List Entry). All (IsPast 0) table) (sym c.in_ok-table.ensures) (preset_past c.as_slice.result.now)

pub starting-requires-clause-small : goal.starting-requires-clause-small
starting-requires-clause-small c =
    let here = slice_get_read c.args.presets.now (length c.args.presets.now) c.loop-s.s c.index-presets-s.result refl c.loop-s-test.true c.index-presets-s.is in
    let list : slice_get c.args.presets.now c.loop-s.s ≡ Some c.as_slice.result.now = here ∙ ap Some (sym c.as_slice.ensures) in
    let valid = c.requires.presets.each c.loop-s.s c.as_slice.result.now list in
    subst (λ (table : List Entry). All (λ (entry : Entry). length entry.actions ≤ 8183) table) (sym c.in_ok-table.ensures) (preset_small (slice_index c.args.ports.now c.loop-s.s) c.as_slice.result.now valid)

pub loop-s-preserved : goal.loop-s-preserved
loop-s-preserved c =
    let s = c.loop-s.s in
    let ports = c.args.ports.now in
    let presets = c.args.presets.now in
    let here = slice_get_read presets (length presets) s c.index-presets-s.result refl c.loop-s-test.true c.index-presets-s.is in
    let list : slice_get presets s ≡ Some c.as_slice.result.now = here ∙ ap Some (sym c.as_slice.ensures) in
    let made : c.starting.result ≡ switch_at_start s (slice_index ports s) c.as_slice.result.now =
    c.starting.ensures ∙ ap (λ (table : List Entry). record (fresh s (slice_index ports s)) { table = table }) c.in_ok-table.ensures in
    one_started ports presets s c.as_slice.result.now c.loop-s.switches c.push.new.self c.starting.result c.requires.presets.lists list c.loop-s.invariant c.in_ok-push.ensures.ok made

pub returns : goal.returns
returns c =
    let whole = switches_at_start c.args.ports.now c.args.presets.now in
    let long = length_switches c.args.ports.now c.args.presets.now c.requires.presets.lists in
    c.loop-s.invariant ∙ take_all c.loop-s.s whole (let past = c.loop-s-test.false in let same = c.requires.presets.lists in omega arith)
