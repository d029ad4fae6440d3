-- A host sends few messages, and counts its policies.
use Rattle.std.proofs.Common.{◌≡◌, ◌∙◌, ◌≤◌, ◌^◌, All, List, ap, length, subst}
use Rattle.controller_host.specs.Hosting.{Hosting}
use Rattle.controller_host.specs.Undoing.{IsApp}
use Rattle.controller_host.specs.declared.app.App.{App}
use Rattle.controller_host.proofs.Bounds.{each_within, hosting_counts, hosting_few}
use Rattle.controller_host.proofs.host.Host.bounds.Goals as goal

pub returns-clause-few : goal.returns-clause-few
returns-clause-few c =
    let apps_are : c.self.inside.apps.items ≡ c.args.self.now.apps = ap (λ (host : Hosting). host.apps) c.self.view_is in
    hosting_few c.a_learning_controller_sends_few.ensures c.a_firewall_sends_few.ensures c.a_routing_controller_sends_few.ensures c.args.self.now c.args.item.now
    (subst (λ (apps : List App). length apps ≤ 4) apps_are c.self.invariant) (subst (All IsApp) (c.as_slice.ensures.value ∙ apps_are) c.parts_of_all.ensures) (each_within 0 (2 ^ 24) c.args.self.now.apps c.requires)

pub returns-clause-policies : goal.returns-clause-policies
returns-clause-policies c = hosting_counts c.args.self.now c.args.item.now
