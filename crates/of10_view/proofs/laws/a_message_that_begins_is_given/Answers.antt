-- A message that is read and begins what is held comes next.
use Rattle.std.proofs.Common.{ap, ◌∙◌}
use Rattle.of10_view.specs.Stream.{next_of}
use Rattle.of10_view.proofs.Stream.{begins, comes_before, shorter}
use Rattle.of10_view.proofs.laws.a_message_that_begins_is_given.Goals as goal

pub returns-clause-given : goal.returns-clause-given
returns-clause-given c = comes_before c.what_is_not_refused.ensures.parts

pub returns-clause-begins : goal.returns-clause-begins
returns-clause-begins c = begins

pub returns-clause-shorter : goal.returns-clause-shorter
returns-clause-shorter c = shorter c.what_is_not_refused.ensures.parts

pub returns-clause-drained : goal.returns-clause-drained
returns-clause-drained c = λ held none m more read is. none m (ap next_of is ∙ comes_before c.what_is_not_refused.ensures.parts m more read)
