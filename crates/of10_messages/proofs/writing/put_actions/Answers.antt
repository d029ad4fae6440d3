-- Each action is no longer than all.
use Rattle.of10_messages.proofs.Sizes.{action_fits}
use Rattle.of10_messages.proofs.writing.put_actions.Goals as goal

pub put_action-requires-clause-fits : goal.put_action-requires-clause-fits
put_action-requires-clause-fits c = action_fits c.args.actions.now c.loop-action.action-index c.action-item.result c.loop-action-test.true c.action-item.is c.requires.fits
