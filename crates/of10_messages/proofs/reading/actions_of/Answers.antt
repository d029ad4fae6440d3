-- The walk over the actions.
use Rattle.std.proofs.Common.{◌∙◌, arith}
use Rattle.of10_messages.proofs.Steps.{all_read, good_first, next_read}
use Rattle.of10_messages.proofs.reading.actions_of.Goals as goal

pub read_action-requires : goal.read_action-requires
read_action-requires c = good_first c.args.bytes.now c.rest_at-rest.result.now c.loop-at.at c.rest_at-rest.ensures.rest c.loop-at-test.true c.loop-at.invariant.good

pub u16_at-requires : goal.u16_at-requires
u16_at-requires c =
    let good = good_first c.args.bytes.now c.rest_at-rest.result.now c.loop-at.at c.rest_at-rest.ensures.rest c.loop-at-test.true c.loop-at.invariant.good in
    omega (arith, good.least, good.room)

pub loop-at-preserved : goal.loop-at-preserved
loop-at-preserved c =
    let next = next_read c.args.bytes.now c.rest_at-rest.result.now c.loop-at.at c.from.result c.loop-at.actions c.in_ok-read_action.field-0 c.rest_at-rest.ensures.rest
    c.loop-at-test.true (c.from.ensures ∙ c.u16_at.ensures) c.in_ok-read_action.ensures
    (record { within = c.loop-at.invariant.within; good = c.loop-at.invariant.good; all = c.loop-at.invariant.all }) in
    record { within = next.within; good = next.good; all = rw c.in_ok-push.ensures.ok next.all }

pub loop-at-smaller : goal.loop-at-smaller
loop-at-smaller c =
    let good = good_first c.args.bytes.now c.rest_at-rest.result.now c.loop-at.at c.rest_at-rest.ensures.rest c.loop-at-test.true c.loop-at.invariant.good in
    omega (arith, good.least, c.from.ensures, c.u16_at.ensures)

pub returns : goal.returns
returns c = all_read c.args.bytes.now c.loop-at.at c.loop-at.actions c.loop-at-test.false
    (record { within = c.loop-at.invariant.within; good = c.loop-at.invariant.good; all = c.loop-at.invariant.all })
