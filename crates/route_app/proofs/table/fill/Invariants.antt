use Rattle.std.proofs.Common.{◌≡◌, length}
use Rattle.route_app.specs.Table.{IsMade, ways}
use Rattle.route_app.proofs.Search.{AreHalfRight}
use Rattle.route_app.proofs.table.fill.Given as goal

-- the rows so far are right for the links that can be used now, the others for those that could
abbrev pub invariant-loop-to : goal.invariant-loop-to
invariant-loop-to l = record {
  made : IsMade (length l.fn.rows.rows) l.wires l.rows;
  flags : l.rows.down ≡ l.fn.rows.down;
  half : AreHalfRight (ways l.wires l.fn.rows.down) (ways l.wires l.down) l.to l.rows.rows;
}
