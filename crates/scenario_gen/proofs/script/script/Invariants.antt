use Rattle.std.proofs.Common.{◌≡◌, map}
use Rattle.std.specs.List.{range_with_len}
use Rattle.scenario_gen.specs.Script.{line_of, state_before}
use Rattle.scenario_gen.proofs.script.script.Given as goal

-- the lines so far are drawn, and the generator is where the next one begins
abbrev pub invariant-loop-k : goal.invariant-loop-k
invariant-loop-k l = record {
  lines : l.script ≡ map (line_of l.fn.seed l.fn.size) (range_with_len 0 l.k);
  state : l.draws.x ≡ state_before l.fn.seed l.fn.size l.k;
}
