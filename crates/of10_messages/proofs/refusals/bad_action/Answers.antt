-- The walk over the actions.
use Rattle.std.proofs.Common.{◌∙◌, sym}
use Rattle.of10_messages.proofs.Steps.{at_end, found_bad, next_place}
use Rattle.of10_messages.proofs.refusals.bad_action.Goals as goal

pub returns-then-is_bad_action : goal.returns-then-is_bad_action
returns-then-is_bad_action c =
    found_bad c.args.place c.args.bytes.now c.rest_at-rest.result.now c.loop-at.at c.kind_at_start.result c.rest_at-rest.ensures.rest c.loop-at-test.true
    (sym c.is_bad_action.ensures.bad ∙ c.if-is_bad_action.true) c.kind_at_start.ensures c.loop-at.invariant.same

pub loop-at-preserved : goal.loop-at-preserved
loop-at-preserved c =
    let next = next_place c.args.bytes.now c.rest_at-rest.result.now c.loop-at.at c.from-at.result c.rest_at-rest.ensures.rest c.loop-at-test.true
    (sym c.is_bad_action.ensures.bad ∙ c.if-is_bad_action.false) (c.from-at.ensures ∙ c.u16_at.ensures) c.loop-at.invariant.same in
    record { within = next.within; same = next.same }

pub returns : goal.returns
returns c = at_end c.args.place c.args.bytes.now c.loop-at.at c.loop-at-test.false c.loop-at.invariant.same
