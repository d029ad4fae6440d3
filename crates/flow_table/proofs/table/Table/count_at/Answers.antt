use Rattle.std.proofs.Common.{◌<◌, length, sym, subst}
use Rattle.std.proofs.lemmas.Option.{slice_get_read}
use Rattle.listed.specs.Lists.{set_changed}
use Rattle.flow_table.specs.Entry.{IsValidEntry, counted}
use Rattle.flow_table.proofs.Changes.{table_set, valid_counted}
use Rattle.flow_table.proofs.table.Table.count_at.Goals as goal

pub invariant_of-self : goal.invariant_of-self
invariant_of-self c =
    let entries = c.self.inside.entries.items in
    let place = c.args.place in
    let x = c.index_mut.result.now in
    let within : place < length entries = rw c.self.view_is c.requires in
    let valid = subst IsValidEntry (sym c.index_mut.ensures.value) (c.self.invariant.valid place x within) in
    rw c.count.ensures (table_set entries place (counted c.args.now x) c.self.invariant (valid_counted c.args.now x c.ranges.now.fits valid))

pub returns : goal.returns
returns c =
    let entries = c.self.inside.entries.items in
    let place = c.args.place in
    let x = c.index_mut.result.now in
    let within : place < length entries = rw c.self.view_is c.requires in
    let here = slice_get_read entries (length entries) place x (cc) within c.index_mut.ensures.value in
    rw (← c.self.view_is) (set_changed entries place (counted c.args.now) x _ here c.count.ensures)
