use Rattle.scenario_doc.proofs.rules_script.input_rules.Goals as goal

pub returns-in-HostMove : goal.returns-in-HostMove
returns-in-HostMove c = rw c.in-HostMove.is (c.move_rules.ensures c.args.controllers)

pub returns-in-Policy : goal.returns-in-Policy
returns-in-Policy c = rw c.in-Policy.is (c.policy_rules.ensures c.args.network.now)
