use Rattle.std.proofs.Common.{◌≡◌, ◌++◌, map}
use Rattle.app_messages.specs.Extending.{Extends}
use Rattle.controller_apps.specs.Firewall.{denial}
use Rattle.controller_apps.proofs.firewall.send_to_all.Given as goal

-- what is sent so far and what is left to be sent are all
abbrev pub invariant-loop-s : goal.invariant-loop-s
invariant-loop-s l = record {
  sent : l.out ++ map (λ s. (s, denial l.rule)) l.s-iterator ≡ l.fn.out ++ map (λ s. (s, denial l.rule)) l.joined.keys;
  begun : Extends l.fn.out l.out;
}
