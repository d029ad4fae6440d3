use Rattle.std.proofs.Common.{ap}
use Rattle.turn_book.specs.Words.{with_book}
use Rattle.run_recorder.proofs.recorder.the_book_is_a_recording.Goals as goal

pub returns-clause-same : goal.returns-clause-same
returns-clause-same g c = ap (λ book. with_book c.args.held.now book) c.book-book.ensures.value
