use Rattle.sts_io.specs.Failures.{gone_of}
use Rattle.sts_cli.proofs.Ending.{answered, cut_off}
use Rattle.sts_cli.proofs.top.sts.Goals as goal

pub returns-in-Ok-write_all_bytes-clause-answered : goal.returns-in-Ok-write_all_bytes-clause-answered
returns-in-Ok-write_all_bytes-clause-answered g c _ =
    answered _ c.args.words.now _ _ _ _ c.in-Some.form c.in-Some.ensures.some
    c.in-Ok.bytes.items c.as_slice.result.now c.as_slice.ensures.value c.in-Ok.ensures.read
    c.in-Ok-answer_to.answer.status.code c.in-Ok-answer_to.answer.text.items c.as_slice-2.result.now c.in-Ok-answer_to.ensures.answer c.as_slice-2.ensures.value
    (c.in-Ok-write_all_bytes.ensures {u = tt}).whole

pub returns-clause-cut_off : goal.returns-clause-cut_off
returns-clause-cut_off g c _ =
    cut_off _ c.args.words.now _ _ _ _ c.in-Some.form c.in-Some.ensures.some
    c.in-Ok.bytes.items c.as_slice.result.now c.as_slice.ensures.value c.in-Ok.ensures.read
    c.in-Ok-answer_to.answer.status.code c.in-Ok-answer_to.answer.text.items c.as_slice-2.result.now c.in-Ok-answer_to.ensures.answer c.as_slice-2.ensures.value
    (gone_of c.in-Err.field-0) c.in-Err.ensures.not_whole c.in-Err.ensures.gone

pub returns-in-Ok-write_all_bytes-clause-gates : goal.returns-in-Ok-write_all_bytes-clause-gates
returns-in-Ok-write_all_bytes-clause-gates g c unasked = c.answer_to.ensures.idle (λ is. unasked (c.in-Some.form, c.in-Some.ensures.some, is))

pub returns-clause-gates : goal.returns-clause-gates
returns-clause-gates g c unasked = c.answer_to.ensures.idle (λ is. unasked (c.in-Some.form, c.in-Some.ensures.some, is))
