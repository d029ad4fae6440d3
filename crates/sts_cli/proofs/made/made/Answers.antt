use Rattle.std.proofs.Common.{◌≡◌, ◌∙◌, ◌++◌, List, ℕ, ap₂, refl, subst}
use Rattle.std.proofs.lemmas.List.{append_assoc}
use Rattle.event_machine.specs.Rule.{IsOneThreadRun}
use Rattle.controller_host.specs.Hosting.{hosting, starting}
use Rattle.scenario_gen.specs.declared.generated.Generated.{Generated}
use Rattle.sts_cli.specs.Lines.{made_line, run_line}
use Rattle.sts_cli.specs.Sequences.{IsJudgement}
use Rattle.sts_cli.specs.declared.sequence.Telling.TheVariants.{Counts}
use Rattle.sts_cli.proofs.made.made.Goals as goal

pub returns : goal.returns
returns g c =
    let made = c.in_ok-setup.ensures.made in
    let trace = c.in_ok-trace.field-0.trace in
    let code = c.in_ok-status.field-0.status.code in
    let rest = c.in_ok-status.field-0.text.items in
    let alone = subst (λ (m : Generated). m.setup.limits.patience ≡ 0 → IsOneThreadRun hosting starting m.setup trace) made c.in_ok-trace.ensures.alone in
    record {
      trace = trace;
      run = alone refl;
      rest = rest;
      judgement = subst (λ (m : Generated). IsJudgement Counts (record { setup = m.setup; invariants = m.invariants }) trace code rest) made c.in_ok-status.ensures;
      told =
          let all = c.in_ok-extend_from_slice.ensures.items in
          let head = c.in_ok-text.ensures in
          let tail = c.as_slice.ensures.value in
          all ∙ ap₂ (λ (x y : List ℕ). x ++ y) head tail ∙ append_assoc (made_line c.args.seed c.args.size) (run_line trace) rest;
    }
