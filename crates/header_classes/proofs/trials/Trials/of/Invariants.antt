-- So far each entry in the order has its trial.
use Rattle.std.proofs.Common.{◌≡◌, All, map, take}
use Rattle.header_classes.specs.Trials.{IsTrialOf}
use Rattle.header_classes.proofs.trials.Trials.of.Given as goal

abbrev pub invariant-loop-place : goal.invariant-loop-place
invariant-loop-place l = record {
  places : map (λ trial. trial.place) l.trials.items ≡ map (λ ranked. ranked.1) (take l.place-index l.place-items);
  each : All (IsTrialOf l.table) l.trials.items;
}
