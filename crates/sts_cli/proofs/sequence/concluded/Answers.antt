use Rattle.std.proofs.Common.{◌∙◌, sym}
use Rattle.sts_cli.proofs.Violated.{violated_there}
use Rattle.sts_cli.proofs.sequence.concluded.Goals as goal

pub shown-requires-clause-violated : goal.shown-requires-clause-violated
shown-requires-clause-violated c =
    violated_there c.args.scenario.now c.args.trace.now c.args.verdicts.now c.in-Some.place c.requires.verdicts (sym c.first_violated.ensures ∙ c.in-Some.is)
