use Rattle.std.proofs.Common.{◌≡◌, ℕ, ◌++◌, List, drop, filter_map, Option, option_map}
use Rattle.std.specs.List.{enumerate_from}
use Rattle.of10_messages.specs.declared.notice.Notice.TheVariants.{Join}
use Rattle.event_world.specs.Inputs.{tells}
use Rattle.event_world.specs.Mail.{Mail}
use Rattle.event_world.proofs.shell.first_joins.Given as goal

-- the switches that have a controller join it, counted from a number on
abbrev pub joins_from : ℕ → List (Option ℕ) → Mail
joins_from first owners = filter_map (λ owner. option_map (λ c. tells owner.0 (Join 0)) owner.1) (enumerate_from first owners)

-- the mail so far, with that of the switches that are left, is all
abbrev pub invariant-loop-s : goal.invariant-loop-s
invariant-loop-s l = l.mail ++ joins_from l.s (drop l.s l.owners) ≡ joins_from 0 l.owners
