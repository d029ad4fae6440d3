use Rattle.std.proofs.Common.{◌≡◌, ◌∙◌, count_by, length, ap, arith}
use Rattle.std.proofs.lemmas.List.Sums.{length-filter}
use Rattle.flow_table.specs.Going.{goes}
use Rattle.flow_table.specs.declared.change.Going.TheVariants.{RunOut}
use Rattle.flow_table.proofs.Changes.{table_filter}
use Rattle.flow_table.proofs.change.expire.Goals as goal

pub put_gone-requires : goal.put_gone-requires
put_gone-requires c =
    let entries = c.args.entries.now.items in
    let counted : c.count_going.result ≡ count_by (goes (RunOut c.args.now)) entries = cc in
    let removed = ap length c.in_ok-take_out.ensures.removed ∙ length-filter (goes (RunOut c.args.now)) entries in
    omega (arith, c.in_ok-gone.ensures.exact, c.in_ok-gone.ensures.len, c.in_ok-take_out.field-0.ok.0)

pub returns-clause-table : goal.returns-clause-table
returns-clause-table c = rw c.in_ok-take_out.ensures.kept (table_filter _ _ c.requires.table)
