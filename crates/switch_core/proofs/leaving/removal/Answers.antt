use Rattle.switch_core.proofs.Valid.{valid_removal}
use Rattle.switch_core.proofs.leaving.removal.Goals as goal

pub returns-clause-valid : goal.returns-clause-valid
returns-clause-valid c =
    valid_removal c.args.xid c.args.entry.now c.args.reason c.args.now c.lengths_of_messages.ensures c.requires.entry c.ranges.xid.fits c.ranges.reason.fits c.ranges.now.fits
