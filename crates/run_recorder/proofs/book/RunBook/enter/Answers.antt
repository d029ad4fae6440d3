use Rattle.std.proofs.Common.{◌≡◌, ℕ, subst, sym}
use Rattle.event_world.specs.Events.{actor_of}
use Rattle.event_machine.specs.declared.trace.Entry.{Entry}
use Rattle.run_recorder.specs.Recording.{Begun, IsDealt, Recording, entry_in}
use Rattle.run_recorder.specs.Workers.{worker_of}
use Rattle.run_recorder.proofs.Goes.{dealt_on}
use Rattle.run_recorder.proofs.book.RunBook.enter.Goals.{in-Ok, in-Err}
use Rattle.run_recorder.proofs.book.RunBook.enter.Goals as goal

pub invariant_of-self : goal.invariant_of-self
invariant_of-self g c =
    let old : Begun g.row.C.Denot = c.self.inside.begun in
    let new : Begun g.row.C.Denot = c.enter.new.self in
    let workers : ℕ = c.self.inside.workers in
    let entry : Entry = entry_in old.world c.args.worker c.args.number c.args.deed.task.event in
    let own : entry.worker ≡ worker_of old.setup workers (actor_of entry.event) =
    subst (λ (r : Recording g.row.C.Denot). c.args.worker ≡ worker_of r.begun.setup r.workers (actor_of c.args.deed.task.event)) (sym c.self.view_is) c.requires.worker in
    let dealt : IsDealt new.setup workers new.entries = elim c.match-enter.branch [
      | in-Ok w ↦ dealt_on old new workers entry c.self.invariant.dealt own c.enter.ensures.setup w.in-Ok.ensures.ok
      | in-Err w ↦
          let same : new ≡ old = w.in-Err.ensures.err in
          subst (λ (b : Begun g.row.C.Denot). IsDealt b.setup workers b.entries) (sym same) c.self.invariant.dealt
    ] in
    record {
      begun = c.enter.ensures.begun;
      some = c.self.invariant.some;
      most = c.self.invariant.most;
      dealt = dealt;
    }
