use Rattle.std.proofs.Common.{rules, ◌≡◌}
use Rattle.std.proofs.lemmas.Grind.{common_steps}
use Rattle.std.proofs.lemmas.Fmt.{parse-decimal}
use Rattle.sts_cli.proofs.words.number_of.Goals as goal

pub returns-in_err-number-clause-none : goal.returns-in_err-number-clause-none
returns-in_err-number-clause-none c _ number small same =
    let parsed = parse-decimal 64 number c.args.word.now c.parse.result small small same c.parse.ensures.value.0 in
    search (rules, common_steps)

pub returns-then-ne-clause-none : goal.returns-then-ne-clause-none
returns-then-ne-clause-none c _ number small same =
    let parsed = parse-decimal 64 number c.args.word.now c.parse.result small small same c.parse.ensures.value.0 in
    search (rules, common_steps)
