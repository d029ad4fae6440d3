-- The line found is the first that is one with it.
use Rattle.std.proofs.Common.{◌∙◌, sym, ap, arith}
use Rattle.std.specs.Option.{is_some}
use Rattle.input_atoms.specs.Atoms.{are_one}
use Rattle.input_atoms.proofs.Pairs.{find_here}
use Rattle.input_atoms.proofs.pairing.has_failure.Goals as goal

pub returns-then-are_one : goal.returns-then-are_one
returns-then-are_one c =
    sym (ap is_some (find_here (λ first. are_one c.args.script.now first c.args.later) 0 c.args.later c.loop-first.first (omega arith) (omega arith) (sym c.are_one.ensures ∙ c.if-are_one.true) (λ j least before. c.loop-first.invariant j before)))
