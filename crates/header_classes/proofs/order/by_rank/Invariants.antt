-- So far each entry is listed with its rank and its place.
use Rattle.std.proofs.Common.{◌<◌, ℕ, All, Contains}
use Rattle.std.specs.declared.cmp.Reverse.{Reverse}
use Rattle.header_classes.specs.Order.{IsRanked}
use Rattle.header_classes.proofs.order.by_rank.Given as goal

abbrev pub invariant-loop-place : goal.invariant-loop-place
invariant-loop-place l = record {
  ranked : All (IsRanked l.entries) l.order.items;
  every : (place : ℕ) → place < l.place → (rank : Reverse ℕ) × Contains l.order.items (rank, place);
}
