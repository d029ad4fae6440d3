-- So far the cells are added with their place.
use Rattle.std.proofs.Common.{◌≡◌, ◌++◌, map, take}
use Rattle.header_classes.proofs.partition.label.Given as goal

abbrev pub invariant-loop-cell : goal.invariant-loop-cell
invariant-loop-cell l = l.classes ≡ l.initial.classes ++ map (λ cell. (cell, l.best)) (take l.cell-index l.cell-items)
