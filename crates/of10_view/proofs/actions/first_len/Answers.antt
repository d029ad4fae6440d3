-- The first action's own bytes are as good as those that it begins.
use Rattle.std.proofs.Common.{◌∙◌}
use Rattle.of10_view.proofs.Taken.{IsTaken, good_taken}
use Rattle.of10_view.proofs.actions.first_len.Goals as goal

taken : (c : goal.After-from) → IsTaken c.args.bytes.now c.from.result
taken c =
    good_taken c.args.bytes.now c.from.result (c.from.ensures ∙ c.u16_at.ensures)
    (c.actions_stand_one_after_the_other.ensures.first c.args.bytes.now c.requires.some c.requires.good)

pub returns-clause-good : goal.returns-clause-good
returns-clause-good c = (taken c).good

pub returns-clause-kind : goal.returns-clause-kind
returns-clause-kind c = (taken c).kind

pub returns-clause-whole : goal.returns-clause-whole
returns-clause-whole c = (taken c).told
