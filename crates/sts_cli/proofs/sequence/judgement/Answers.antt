use Rattle.std.proofs.Common.{◌≡◌, subst}
use Rattle.event_world.specs.World.{Situation}
use Rattle.controller_host.specs.Hosting.{Hosting}
use Rattle.sts_cli.specs.Verdicts.{AreVerdicts}
use Rattle.sts_cli.proofs.sequence.judgement.Goals as goal

pub returns : goal.returns
returns c =
    let verdicts = c.in_ok-verdicts.verdicts in
    record {
      verdicts = verdicts;
      judged = subst (λ (world : Situation Hosting). AreVerdicts c.args.scenario.now world verdicts) c.requires.world c.in_ok-verdicts.ensures.verdicts;
      rest = c.in_ok-status.field-0.text.items;
      concluded = c.in_ok-status.ensures;
      told = let all = c.in_ok-extend_from_slice.ensures.items in
          let head = c.in_ok-text.ensures in
          let list = c.as_slice.ensures in
          let tail = c.as_slice-2.ensures.value in
          let rest = c.in_ok-status.rest-is in
          cc;
    }
