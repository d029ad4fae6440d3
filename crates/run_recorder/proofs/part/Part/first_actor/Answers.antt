use Rattle.std.proofs.Common.{◌≡◌, ◌∙◌, ap, sym, subst, arith}
use Rattle.run_recorder.specs.Recording.{IsWorking}
use Rattle.run_recorder.specs.Workers.{actor_number}
use Rattle.run_recorder.proofs.Actors.{first_of, worker_is}
use Rattle.run_recorder.proofs.part.Part.first_actor.Goals as goal

pub returns-clause-some : goal.returns-clause-some
returns-clause-some g c =
    let within : IsWorking c.args.self.now = subst (λ working. IsWorking working) c.self.view_is c.self.invariant.1 in
    let same : c.self.inside.worker ≡ c.args.self.now.worker =
    sym (worker_is c.self.inside.setup.now c.self.inside.workers c.self.inside.worker c.self.inside.place.seat) ∙ ap (λ working. working.worker) c.self.view_is in
    let number = c.actor_at.ensures.number in
    let some = c.if-self-eq0.false in (
      c.actor_at.ensures.actor,
      first_of c.args.self.now.workers c.args.self.now.worker (actor_number c.args.self.now.setup c.actor_at.result) (omega arith) within.number (omega arith),
    )

pub returns-clause-none : goal.returns-clause-none
returns-clause-none g c = (λ no who has. absurd (cc (no)), λ none. absurd (none c.actor_at.result (returns-clause-some g c)))
