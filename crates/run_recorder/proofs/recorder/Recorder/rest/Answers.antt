use Rattle.std.proofs.Common.{All, IfOk, subst, sym}
use Rattle.std.proofs.lemmas.Result.{IfOk-weaker}
use Rattle.turn_book.specs.Steps.{Whole}
use Rattle.turn_book.specs.Words.{view_of}
use Rattle.run_recorder.proofs.Owners.{IsToldOf, tells, whole_marks}
use Rattle.run_recorder.specs.Answers.{AreDealt, HasSeenOf, IsOwnerOf, RestComesLast}
use Rattle.run_recorder.specs.Recorder.{recorded}
use Rattle.run_recorder.specs.Recording.{Recording}
use Rattle.run_recorder.specs.Rest.{GoesOnAlone, RestIsRuled}
use Rattle.run_recorder.proofs.recorder.Recorder.rest.Given.{Over}
use Rattle.run_recorder.proofs.recorder.Recorder.rest.Goals as goal
use Rattle.run_recorder.proofs.recorder.Recorder.rest.Goals.{After-complete}

pub close-book-requires-clause-all : goal.close-book-requires-clause-all
close-book-requires-clause-all g c κs within =
    whole_marks (recorded c.args.self) c.args.parts c.requires.parts c.gathered-seat.ensures.working (view_of c.gathered-seat.result) c.gathered-seat.ensures.gathered

-- the run goes on from the book's history by worker 0 alone
told : (g : Over) (c : After-complete g) → IfOk c.complete.result (λ r. IsToldOf g.C.Controller.react g.C.Controller.start (recorded c.args.self) c.args.parts r.0.entries)
told g c =
    let seat = c.gathered-seat in
    let book = c.book.inside in
    let whole = subst (Whole (λ (b : Recording g.row.C.Denot). b.begun.entries) (λ (b : Recording g.row.C.Denot). record { setup = b.begun.setup; workers = b.workers }) (view_of seat.result)) (sym c.book.view_is) c.close-book.ensures.book in
    IfOk-weaker c.complete.result (λ r. GoesOnAlone g.C.Controller.react g.C.Controller.start book.begun.setup book.begun.entries r.0.entries)
    (λ r. IsToldOf g.C.Controller.react g.C.Controller.start (recorded c.args.self) c.args.parts r.0.entries)
    (λ r goes. tells (recorded c.args.self) c.args.parts c.requires.parts seat.ensures.working (view_of seat.result) seat.ensures.gathered seat.ensures.subject
    g.C.Controller.react g.C.Controller.start g.C.Controller.policies (record { begun = book.begun; workers = book.workers }) whole c.book.invariant r.0.entries goes)
    c.complete.ensures.rest

pub returns-clause-seen : goal.returns-clause-seen
returns-clause-seen g c = IfOk-weaker c.complete.result (λ r. IsToldOf g.C.Controller.react g.C.Controller.start (recorded c.args.self) c.args.parts r.0.entries)
    (λ r. All (λ part. HasSeenOf part r.0.entries) c.args.parts) (λ r tells. tells.seen) (told g c)

pub returns-clause-own : goal.returns-clause-own
returns-clause-own g c = IfOk-weaker c.complete.result (λ r. IsToldOf g.C.Controller.react g.C.Controller.start (recorded c.args.self) c.args.parts r.0.entries)
    (λ r. All (λ part. IsOwnerOf part r.0.entries) c.args.parts) (λ r tells. tells.own) (told g c)

pub returns-clause-dealt : goal.returns-clause-dealt
returns-clause-dealt g c = IfOk-weaker c.complete.result (λ r. IsToldOf g.C.Controller.react g.C.Controller.start (recorded c.args.self) c.args.parts r.0.entries)
    (λ r. AreDealt c.args.self.setup.now c.args.self.workers r.0.entries) (λ r tells. tells.dealt) (told g c)

pub returns-clause-last : goal.returns-clause-last
returns-clause-last g c = IfOk-weaker c.complete.result (λ r. IsToldOf g.C.Controller.react g.C.Controller.start (recorded c.args.self) c.args.parts r.0.entries)
    (λ r. RestComesLast r.0.entries) (λ r tells. tells.last) (told g c)

pub returns-clause-ruled : goal.returns-clause-ruled
returns-clause-ruled g c = IfOk-weaker c.complete.result (λ r. IsToldOf g.C.Controller.react g.C.Controller.start (recorded c.args.self) c.args.parts r.0.entries)
    (λ r. RestIsRuled g.C.Controller.react g.C.Controller.start c.args.self.setup.now r.0.entries) (λ r tells. tells.ruled) (told g c)
