use Rattle.std.proofs.Common.{◌≡◌, ◌<◌, ◌∙◌, ap, refl, sym, subst, length}
use Rattle.turn_book.specs.Places.{times}
use Rattle.turn_book.specs.Words.{held_book, held_id, held_view, view_of}
use Rattle.event_machine.specs.Legal.{earlier_of}
use Rattle.event_world.specs.Answers.{IsInputEvent}
use Rattle.event_world.specs.Events.{actor_of}
use Rattle.run_recorder.specs.Answers.{IsCommit, IsDue, own_places}
use Rattle.run_recorder.specs.Parts.{working_of}
use Rattle.run_recorder.specs.Recording.{IsWorking, MayStand, Recording}
use Rattle.run_recorder.specs.Workers.{mark_of}
use Rattle.run_recorder.proofs.Due.{IsTurn, line_in_turn, mark_in_turn, number_in_turn}
use Rattle.run_recorder.proofs.Turns.{at_book, commits, refused, same_book, same_setup, same_workers}
use Rattle.run_recorder.proofs.recorder.Recorder.commit.Given.{Over}
use Rattle.run_recorder.proofs.recorder.Recorder.commit.Goals as goal
use Rattle.run_recorder.proofs.recorder.Recorder.commit.Goals.{in-Mine, in-Busy}

module _ (g : Over) (c : goal.After-the_book_is_a_recording g) where
  -- what the part was
  before : at_book c.part.inside.setup.now c.part.inside.workers c.part.inside.worker c.in-Some.seat.token.table_id (view_of c.in-Some.seat) ≡ c.args.part.now
  before = ap (λ seat. working_of c.part.inside.setup.now c.part.inside.workers c.part.inside.worker seat) (sym (sym c.take.ensures.value ∙ c.in-Some.is)) ∙ c.part.view_is

  -- the turn that it won
  turn : IsTurn g.C.Controller.react g.C.Controller.start g.C.Controller.policies
      (at_book c.part.inside.setup.now c.part.inside.workers c.part.inside.worker c.in-Some.seat.token.table_id (view_of c.in-Some.seat))
      (held_book c.in-Mine.held) (held_view c.in-Mine.held)
  turn =
      let is = c.in-Mine.ensures.mine.1 in
      let mine = subst (λ seat. IsWorking (working_of c.part.inside.setup.now c.part.inside.workers c.part.inside.worker seat)) (sym c.take.ensures.value ∙ c.in-Some.is) c.part.invariant.1 in record {
        mine_is = mine;
        book_is = c.the_book_is_a_recording.ensures.recording;
        setup = same_setup (view_of c.in-Some.seat).subject c.part.inside.setup.now _ c.part.inside.workers _ mine.subject is.about;
        workers = same_workers (view_of c.in-Some.seat).subject c.part.inside.setup.now _ c.part.inside.workers _ mine.subject is.about;
        won = is.view;
        begins = is.begins;
        marked = is.marked;
      }

  -- the deed was offered to it
  due : IsDue g.C.Controller.react g.C.Controller.start
      (at_book c.part.inside.setup.now c.part.inside.workers c.part.inside.worker c.in-Some.seat.token.table_id (view_of c.in-Some.seat)) c.args.deed
  due = subst (λ working. IsDue g.C.Controller.react g.C.Controller.start working c.args.deed) (sym before) c.requires.due

pub enter-requires-clause-mark : goal.enter-requires-clause-mark
enter-requires-clause-mark g c κs within =
    subst (λ held. 0 < times (mark_of c.part.inside.worker) (held_view held).marks) (sym c.the_book_is_a_recording.ensures.same)
    (mark_in_turn g.C.Controller.react g.C.Controller.start g.C.Controller.policies _ _ _ (actor_of c.args.deed.task.event) (turn g c) (due g c).has)

pub enter-requires-clause-number : goal.enter-requires-clause-number
enter-requires-clause-number g c κs within =
    subst (λ held. c.own-number.result ≡ earlier_of (held_view held).seen (length (held_view held).seen) c.part.inside.worker) (sym c.the_book_is_a_recording.ensures.same)
    (c.own-number.ensures ∙ (ap (λ working. length (own_places working)) (sym (before g c))
    ∙ number_in_turn g.C.Controller.react g.C.Controller.start g.C.Controller.policies _ _ _ (actor_of c.args.deed.task.event) (turn g c) (due g c).has))

pub enter-requires-clause-line : goal.enter-requires-clause-line
enter-requires-clause-line g c κs within =
    subst (λ (book : Recording g.row.C.Denot). IsInputEvent c.args.deed.task.event → MayStand book.begun.setup book.begun.world c.args.deed.task.event) (sym (ap (λ held. held_book held) c.the_book_is_a_recording.ensures.same))
    (line_in_turn g.C.Controller.react g.C.Controller.start g.C.Controller.policies _ _ _ c.args.deed c.a_line_stays_due.ensures (turn g c) (due g c))

pub returns-clause-answer : goal.returns-clause-answer
returns-clause-answer g c =
    let setup = c.part.inside.setup.now in
    let workers = c.part.inside.workers in
    let worker = c.part.inside.worker in
    let seat = c.in-Some.seat in
    let there = sym c.take.ensures.value ∙ c.in-Some.is in
    let working = subst (λ seat. IsWorking (working_of setup workers worker seat)) there c.part.invariant.1 in
    let old : at_book setup workers worker seat.token.table_id (view_of seat) ≡ c.args.part.now =
    ap (λ seat. working_of setup workers worker seat) (sym there) ∙ c.part.view_is in
    let book = same_book seat.token.table_id _ (ap (λ working. working.book) old ∙ c.requires.part.book) in
    subst (λ old. IsCommit g.C.Controller.react g.C.Controller.start old (at_book setup workers worker c.match-try_turn.seat.0.token.table_id (view_of c.match-try_turn.seat.0)) c.args.deed c.match-try_turn.seat.1) old
    (elim c.match-try_turn.branch [
      | in-Mine w ↦
          let is = w.in-Mine.ensures.mine.1 in
          let entered = w.enter.ensures in
          let same = w.the_book_is_a_recording.ensures.same in
          let held = w.the_book_is_a_recording.new.held in
          subst (λ pair. IsCommit g.C.Controller.react g.C.Controller.start (at_book setup workers worker seat.token.table_id (view_of seat))
          (at_book setup workers worker pair.0.token.table_id (view_of pair.0)) c.args.deed pair.1) (sym w.seat-is)
          (commits g.C.Controller.react g.C.Controller.start setup (held_book held).begun.setup workers worker c.own-number.result seat.token.table_id w.enter.result.0.token.table_id
          (view_of seat) (held_view held) (view_of w.enter.result.0) (held_book w.in-Mine.held).begun.entries c.args.deed w.enter.result.1
          (entered.of.0 ∙ (ap (λ held. held_id held) same ∙ (w.in-Mine.ensures.mine.0 ∙ sym book)))
          (ap (λ (book : Recording g.row.C.Denot). book.begun.setup) (ap (λ held. held_book held) same) ∙ same_setup (view_of seat).subject setup _ workers _ working.subject is.about)
          (ap (λ held. held_view held) same ∙ is.view) is.begins
          (c.own-number.ensures ∙ ap (λ working. length (own_places working)) (sym old)) entered.becomes entered.view)
      | in-Busy w ↦
          subst (λ pair. IsCommit g.C.Controller.react g.C.Controller.start (at_book setup workers worker seat.token.table_id (view_of seat))
          (at_book setup workers worker pair.0.token.table_id (view_of pair.0)) c.args.deed pair.1) (sym w.seat-is) (
            refused g.C.Controller.react g.C.Controller.start setup workers worker seat.token.table_id w.in-Busy.seat.token.table_id (view_of seat) (view_of w.in-Busy.seat) w.in-Busy.looked w.in-Busy.found
                (w.in-Busy.ensures.busy.0.0 ∙ sym book) w.in-Busy.ensures.busy.1,
            refl,
          )
    ])
