use Rattle.std.proofs.Common.{◌≡◌, drop, length}
use Rattle.switch_core.specs.Step.{counted_at}
use Rattle.switch_core.proofs.state.State.count_at.Given as goal

-- the table is as long as before, and counted at the places that are left it is as all make it
abbrev pub invariant-loop-place : goal.invariant-loop-place
invariant-loop-place l = record {
  table : counted_at l.fn.self.clock l.self.table (drop l.place-index l.places) ≡ counted_at l.fn.self.clock l.fn.self.table l.places;
  same : l.self ≡ record l.fn.self { table = l.self.table };
  long : length l.self.table ≡ length l.fn.self.table;
}
