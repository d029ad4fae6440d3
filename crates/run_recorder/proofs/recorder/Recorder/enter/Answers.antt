use Rattle.std.proofs.Common.{sym, subst}
use Rattle.pool_book.specs.declared.actor.Actor.{Actor}
use Rattle.run_recorder.specs.Driving.{AfterRound}
use Rattle.run_recorder.specs.declared.answers.Committed.TheVariants as commit
use Rattle.run_recorder.specs.declared.drive.Errand.TheVariants as errand
use Rattle.run_recorder.specs.declared.drive.Round.TheVariants as round
use Rattle.run_recorder.proofs.Rounds.{commit_busy, commit_ended, commit_entered, commit_no_memory, commit_overtaken, commit_same}
use Rattle.run_recorder.proofs.recorder.Recorder.enter.Goals as goal

pub returns-in-Entered-clause-same : goal.returns-in-Entered-clause-same
returns-in-Entered-clause-same g c =
    commit_same g.C.Controller.react g.C.Controller.start c.args.part.now c.commit.new.part c.args.deed (commit.Entered c.in-Entered.place) c.known.ensures.alone c.in-Entered.ensures.answer

pub returns-in-Entered-clause-round : goal.returns-in-Entered-clause-round
returns-in-Entered-clause-round g c =
    subst (λ (who : Actor). AfterRound g.C.Controller.react g.C.Controller.start c.args.part.now c.commit.new.part (round.Entered (errand.Ask who))) (sym c.actor-actor.ensures)
    (commit_entered g.C.Controller.react g.C.Controller.start c.args.part.now c.commit.new.part c.args.deed c.in-Entered.place c.known.ensures.alone c.requires.due c.in-Entered.ensures.answer)

pub returns-in-Overtaken-clause-same : goal.returns-in-Overtaken-clause-same
returns-in-Overtaken-clause-same g c =
    commit_same g.C.Controller.react g.C.Controller.start c.args.part.now c.commit.new.part c.args.deed (commit.Overtaken c.in-Overtaken.deed c.in-Overtaken.item c.in-Overtaken.head) c.known.ensures.alone c.in-Overtaken.ensures.answer

pub returns-in-Overtaken-clause-round : goal.returns-in-Overtaken-clause-round
returns-in-Overtaken-clause-round g c =
    subst (λ (who : Actor). AfterRound g.C.Controller.react g.C.Controller.start c.args.part.now c.commit.new.part (round.Vain (errand.Ask who))) (sym c.actor-actor.ensures)
    (commit_overtaken g.C.Controller.react g.C.Controller.start c.args.part.now c.commit.new.part c.args.deed c.in-Overtaken.deed c.in-Overtaken.item c.in-Overtaken.head c.requires.due c.in-Overtaken.ensures.answer)

pub returns-in-Ended-clause-same : goal.returns-in-Ended-clause-same
returns-in-Ended-clause-same g c =
    commit_same g.C.Controller.react g.C.Controller.start c.args.part.now c.commit.new.part c.args.deed (commit.Ended c.in-Ended.deed c.in-Ended.place) c.known.ensures.alone c.in-Ended.ensures.answer

pub returns-in-Ended-clause-round : goal.returns-in-Ended-clause-round
returns-in-Ended-clause-round g c =
    commit_ended g.C.Controller.react g.C.Controller.start c.args.part.now c.commit.new.part c.args.deed c.in-Ended.deed c.in-Ended.place c.in-Ended.ensures.answer

pub returns-in-Busy-clause-same : goal.returns-in-Busy-clause-same
returns-in-Busy-clause-same g c =
    commit_same g.C.Controller.react g.C.Controller.start c.args.part.now c.commit.new.part c.args.deed (commit.Busy c.in-Busy.deed c.in-Busy.looked c.in-Busy.found) c.known.ensures.alone c.in-Busy.ensures.answer

pub returns-in-Busy-clause-round : goal.returns-in-Busy-clause-round
returns-in-Busy-clause-round g c =
    commit_busy g.C.Controller.react g.C.Controller.start c.args.part.now c.commit.new.part c.args.deed c.in-Busy.deed c.in-Busy.looked c.in-Busy.found c.requires.due c.in-Busy.ensures.answer

pub returns-in-OutOfMemory-clause-same : goal.returns-in-OutOfMemory-clause-same
returns-in-OutOfMemory-clause-same g c =
    commit_same g.C.Controller.react g.C.Controller.start c.args.part.now c.commit.new.part c.args.deed (commit.OutOfMemory c.in-OutOfMemory.deed) c.known.ensures.alone c.in-OutOfMemory.ensures.answer

pub returns-in-OutOfMemory-clause-round : goal.returns-in-OutOfMemory-clause-round
returns-in-OutOfMemory-clause-round g c =
    commit_no_memory g.C.Controller.react g.C.Controller.start c.args.part.now c.commit.new.part c.args.deed c.in-OutOfMemory.deed c.in-OutOfMemory.ensures.answer
