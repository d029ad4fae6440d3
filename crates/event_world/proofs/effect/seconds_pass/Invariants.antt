use Rattle.std.proofs.Common.{◌≡◌, ℕ, ◌++◌, [], Bool, List, drop, filter, map}
use Rattle.std.specs.List.{enumerate_from}
use Rattle.of10_messages.specs.declared.notice.Notice.TheVariants.{Tick}
use Rattle.event_world.specs.Inputs.{tells}
use Rattle.event_world.specs.Mail.{Mail}
use Rattle.event_world.proofs.effect.seconds_pass.Given as goal

-- what the switches that are up are told, counted from a number on
abbrev pub ticks_from : ℕ → ℕ → List Bool → Mail
ticks_from n first ups = map (λ switch. tells switch.0 (Tick n)) (filter (λ switch. switch.1) (enumerate_from first ups))

-- the mail so far, with what the switches that are left are told, is all
abbrev pub invariant-loop-s : goal.invariant-loop-s
invariant-loop-s l = record {
  status : l.change.status ≡ l.status;
  flushes : l.change.flushes ≡ [];
  mail : l.change.mail ++ ticks_from l.n l.s (drop l.s l.up-items) ≡ ticks_from l.n 0 l.up-items;
}
