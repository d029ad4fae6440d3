-- A switch that had not joined before is taken out.
use Rattle.std.proofs.Common.{◌≡◌, ◌∙◌, ◌<◌, ◌^◌, false, true, arith, nat_cmp, sym}
use Rattle.std.proofs.lemmas.Map.Views.{All-remove_key}
use Rattle.std.specs.BTreeMap.{is_at}
use Rattle.controller_apps.proofs.Undone.{left, stayed}
use Rattle.controller_apps.proofs.firewall.Firewall.leave.Goals as goal

pub invariant_of-self : goal.invariant_of-self
invariant_of-self c = let is = c.self.invariant in record {
  few = is.few;
  first = is.first;
  later = is.later;
  ascending = c.remove.ensures.ordered;
  narrow = rw c.remove.ensures.keys (All-remove_key (is_at (nat_cmp c.args.s)) (λ t. t < 2 ^ 16) c.self.inside.joined.keys is.narrow);
}

pub returns-then-not-before : goal.returns-then-not-before
returns-then-not-before c = λ wall is state before.
    let had : c.args.before ≡ false = grind arith in
    left c.args.s wall (record { reinstall = c.self.inside.reinstall; made = c.self.inside.made; policies = c.self.inside.policies; joined = c.self.inside.joined.keys }) c.args.self.now
    c.remove.new.self.keys c.self.view_is state (sym before ∙ had) is c.remove.ensures.keys

pub returns-else-not-before : goal.returns-else-not-before
returns-else-not-before c = λ wall is state before.
    let had : c.args.before ≡ true = grind arith in
    state ∙ stayed c.args.s wall is (sym before ∙ had)
