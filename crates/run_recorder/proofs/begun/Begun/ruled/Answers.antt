use Rattle.std.proofs.Common.{rules, ◌≡◌, Some, subst}
use Rattle.event_machine.specs.Rule.{rule_event}
use Rattle.run_recorder.specs.Recording.{Begun, IsBegun}
use Rattle.run_recorder.proofs.RestGoes.{rule_gives}
use Rattle.run_recorder.proofs.begun.Begun.ruled.Goals as goal

pub returns-in-Some-clause-goes_on : goal.returns-in-Some-clause-goes_on
returns-in-Some-clause-goes_on g c = λ undone.
    let react = g.C.Controller.react in
    let first = g.C.Controller.start in
    let policies = g.C.Controller.policies in
    let known : IsBegun react first policies c.args.self.now = subst (λ (b : Begun g.row.C.Denot). IsBegun react first policies b) c.self.view_is c.self.invariant.0 in
    let ruled : rule_event c.args.self.now.setup c.args.self.now.world.shared ≡ Some c.in-Some.event = search rules in
    rule_gives react first policies c.args.self.now c.in-Some.event c.the_rule_goes_on.ensures c.inputs_are_lines.ensures known undone ruled
