-- A switch joins.
use Rattle.std.proofs.Common.{◌∙◌, ◌||◌, not, ap, sym}
use Rattle.controller_apps.specs.Firewall.{Wall, has_joined}
use Rattle.controller_apps.proofs.Joined.{joined_state, wall_inserted}
use Rattle.controller_apps.proofs.firewall.Firewall.join.Goals as goal
use Rattle.controller_apps.proofs.firewall.Firewall.join.Goals.{In_ok-insert}

-- the firewall before
abbrev before : In_ok-insert → Wall
before c = record { reinstall = c.self.inside.reinstall; made = c.self.inside.made; policies = c.self.inside.policies; joined = c.self.inside.joined.keys }

pub invariant_of-self : goal.invariant_of-self
invariant_of-self c = wall_inserted c.args.s (before c) c.insert.new.self.keys c.ranges.s.fits c.self.invariant c.in_ok-insert.ensures.keys c.in_ok-insert.ensures.ordered

pub returns-in_ok-insert-clause-state : goal.returns-in_ok-insert-clause-state
returns-in_ok-insert-clause-state c =
    joined_state c.args.s (before c) c.args.self.now c.insert.new.self.keys c.self.view_is c.self.invariant
    (ap (λ (w : Wall). w.reinstall || not (has_joined w c.args.s)) c.self.view_is ∙ sym c.sends_to.ensures ∙ c.if-sends_to.true) c.in_ok-insert.ensures.keys
