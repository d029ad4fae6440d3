use Rattle.std.proofs.Common.{◌≡◌, ◌∙◌, ap, sym, subst}
use Rattle.turn_book.specs.Words.{held_book, held_view, view_of}
use Rattle.run_recorder.specs.Answers.{IsOffer}
use Rattle.run_recorder.specs.Parts.{working_of}
use Rattle.run_recorder.specs.Recording.{IsWorking}
use Rattle.run_recorder.proofs.Turns.{at_book, offers, refused, same_book, same_setup}
use Rattle.run_recorder.proofs.recorder.Recorder.offer.Goals as goal
use Rattle.run_recorder.proofs.recorder.Recorder.offer.Goals.{in-Mine, in-Busy}

pub returns-clause-answer : goal.returns-clause-answer
returns-clause-answer g c =
    let setup = c.part.inside.setup.now in
    let workers = c.part.inside.workers in
    let worker = c.part.inside.worker in
    let seat = c.in-Some.seat in
    let there = sym c.take.ensures.value ∙ c.in-Some.is in
    let working = subst (λ seat. IsWorking (working_of setup workers worker seat)) there c.part.invariant.1 in
    let before : at_book setup workers worker seat.token.table_id (view_of seat) ≡ c.args.part.now =
    ap (λ seat. working_of setup workers worker seat) (sym there) ∙ c.part.view_is in
    let book = same_book seat.token.table_id _ (ap (λ working. working.book) before ∙ c.requires.part.book) in
    subst (λ old. IsOffer g.C.Controller.react g.C.Controller.start old (at_book setup workers worker c.match-try_turn.seat.0.token.table_id (view_of c.match-try_turn.seat.0)) c.args.actor c.match-try_turn.seat.1) before
    (elim c.match-try_turn.branch [
      | in-Mine w ↦
          let is = w.in-Mine.ensures.mine.1 in
          let found = w.find.ensures in
          subst (λ pair. IsOffer g.C.Controller.react g.C.Controller.start (at_book setup workers worker seat.token.table_id (view_of seat))
          (at_book setup workers worker pair.0.token.table_id (view_of pair.0)) c.args.actor pair.1) (sym w.seat-is)
          (offers g.C.Controller.react g.C.Controller.start setup (held_book w.in-Mine.held).begun.setup workers worker seat.token.table_id w.find.result.0.token.table_id
          (view_of seat) (held_view w.in-Mine.held) (view_of w.find.result.0) (held_book w.in-Mine.held).begun.entries c.args.actor w.find.result.1
          (found.of.0 ∙ (w.in-Mine.ensures.mine.0 ∙ sym book))
          (same_setup (view_of seat).subject setup _ workers _ working.subject is.about) is.view is.begins found.view found.found)
      | in-Busy w ↦
          subst (λ pair. IsOffer g.C.Controller.react g.C.Controller.start (at_book setup workers worker seat.token.table_id (view_of seat))
          (at_book setup workers worker pair.0.token.table_id (view_of pair.0)) c.args.actor pair.1) (sym w.seat-is)
          (refused g.C.Controller.react g.C.Controller.start setup workers worker seat.token.table_id w.in-Busy.seat.token.table_id (view_of seat) (view_of w.in-Busy.seat) w.in-Busy.looked w.in-Busy.found
          (w.in-Busy.ensures.busy.0.0 ∙ sym book) w.in-Busy.ensures.busy.1)
    ])
