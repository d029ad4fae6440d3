use Rattle.std.proofs.Common.{◌≡◌, false}
use Rattle.flow_table.specs.Command.{is_full_for}
use Rattle.flow_table.proofs.Changes.{table_added}
use Rattle.flow_table.proofs.change.add.Goals as goal

pub returns-clause-table : goal.returns-clause-table
returns-clause-table c =
    let entries = c.args.entries.now.items in
    let mods = c.args.mods.now in
    let room : is_full_for entries mods ≡ false = cc in
    let pushed = rw c.unwrap.ensures at c.push.ensures.items in
    rw (pushed, c.in_ok-removed.ensures.kept, c.reserve.ensures.items) (table_added entries mods c.in_ok-entry.entry c.requires.table c.in_ok-entry.ensures.valid room)
