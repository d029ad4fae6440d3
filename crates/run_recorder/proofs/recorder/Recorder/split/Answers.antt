use Rattle.std.proofs.Common.{Some, arith}
use Rattle.turn_book.specs.Words.{view_of}
use Rattle.run_recorder.proofs.Dealing.{two_marks, undealt_more, working_dealt}
use Rattle.run_recorder.specs.Recorder.{recorded}
use Rattle.run_recorder.proofs.recorder.Recorder.split.Goals as goal

pub split-requires-clause-two : goal.split-requires-clause-two
split-requires-clause-two g c κs within = two_marks (recorded c.args.self.now) c.args.worker c.requires.worker.0 (omega arith) (view_of c.args.seat) c.requires.left

pub part-requires-after_bounds : goal.part-requires-after_bounds
part-requires-after_bounds g c κs within =
    working_dealt (recorded c.args.self.now) c.args.worker c.requires.worker.0 (omega arith) (view_of c.args.seat) c.requires.left
    (view_of c.in-Ok.dealt) (Some c.in-Ok.dealt.token.table_id) c.in-Ok.ensures.second.1 c.in-Ok.ensures.second_marked c.requires.of.1 c.requires.valid c.requires.worker.1 c.requires.worker.2

pub returns-in-Ok-clause-left : goal.returns-in-Ok-clause-left
returns-in-Ok-clause-left g c =
    undealt_more (recorded c.args.self.now) c.args.worker c.requires.worker.0 (omega arith) (view_of c.args.seat) c.requires.left
    (view_of c.in-Ok.rest) c.in-Ok.ensures.first.1 (c.in-Ok.ensures.first_marked c.requires.left.marked)
