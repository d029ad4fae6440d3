-- What proves that a plain type's parts are copied and compared whole.
use Rattle.std.proofs.Common.{rules}
use Rattle.std.proofs.lemmas.Grind.{common_steps}

-- the rules by which the laws of a plain type follow from those of its parts
pub ruleset plain = (rules, common_steps)
