use Rattle.std.proofs.Common.{◌∙◌}
use Rattle.std.proofs.lemmas.List.{length-map}
use Rattle.invariant_check.proofs.laws.the_network_of_a_world_can_be_judged.Goals as goal

pub returns : goal.returns
returns c _ _ setup world fits = record {
  status = fits.shared.status;
  tables = length-map world.switches (λ switch. switch.table) ∙ fits.switches;
}
