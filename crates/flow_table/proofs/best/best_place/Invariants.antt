-- The best place so far is that of the leading entry.
use Rattle.flow_table.proofs.BestLaws.{Leads}
use Rattle.flow_table.proofs.best.best_place.Given as goal

abbrev pub invariant-loop-place : goal.invariant-loop-place
invariant-loop-place l = Leads l.entries l.in_port l.header l.place l.best
