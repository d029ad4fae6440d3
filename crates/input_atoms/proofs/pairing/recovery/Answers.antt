-- The line found is the first that is one with it.
use Rattle.std.proofs.Common.{◌∙◌, sym, ◌+◌, ◌-◌, length, arith}
use Rattle.input_atoms.specs.Atoms.{are_one}
use Rattle.input_atoms.proofs.Pairs.{find_here}
use Rattle.input_atoms.proofs.pairing.recovery.Goals as goal

pub returns-then-are_one-clause-value : goal.returns-then-are_one-clause-value
returns-then-are_one-clause-value c =
    sym (find_here (are_one c.args.script.now c.args.first) (c.args.first + 1) (length c.args.script.now - (c.args.first + 1)) c.loop-later.later (omega arith) (omega arith) (sym c.are_one.ensures ∙ c.if-are_one.true) c.loop-later.invariant)
