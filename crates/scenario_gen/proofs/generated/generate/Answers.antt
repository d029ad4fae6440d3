-- The parts are those of the scenario of the seed, which can run.
use Rattle.scenario_gen.proofs.Running.{can_run}
use Rattle.scenario_gen.proofs.generated.generate.Goals as goal

pub returns-clause-valid : goal.returns-clause-valid
returns-clause-valid c =
    rw (c.in_ok-topology.ensures, c.in_ok-presets.ensures, c.in_ok-controllers.ensures, c.in_ok-script.ensures)
    (can_run c.args.seed c.args.size c.requires.least c.requires.most)
