use Rattle.std.proofs.Common.{◌≡◌, ◌++◌, map, take}
use Rattle.controller_apps.specs.Firewall.{denial}
use Rattle.controller_apps.proofs.firewall.send_rules.Given as goal

-- the entries of the rules so far are sent
abbrev pub invariant-loop-rule : goal.invariant-loop-rule
invariant-loop-rule l = l.out ≡ l.fn.out ++ map (λ rule. (l.s, denial rule)) (take l.rule-index l.rules)
