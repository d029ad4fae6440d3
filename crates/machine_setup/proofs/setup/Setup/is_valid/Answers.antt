use Rattle.std.proofs.Common.{length}
use Rattle.machine_setup.proofs.Whole.{whole}
use Rattle.machine_setup.proofs.setup.Setup.is_valid.Goals as goal

pub returns : goal.returns
returns g c = whole c.args.self.now.topology c.as_slice-4.result.now c.args.self.now.presets c.as_slice-5.result.now
    c.len-controllers.result (length c.args.self.now.controllers) c.args.self.now.script c.as_slice-3.result.now c.args.self.now.limits
    c.are_numbers-numbers.result c.are_few_inputs-inputs.result c.in_ok-network.network c.in_ok-presets.presets
    c.len-controllers.ensures c.as_slice-3.ensures c.as_slice-4.ensures c.as_slice-5.ensures
    c.are_numbers-numbers.ensures c.are_few_inputs-inputs.ensures c.in_ok-network.ensures c.in_ok-presets.ensures
