use Rattle.std.proofs.Common.{◌≡◌, ◌∙◌, ap, sym, subst, arith}
use Rattle.run_recorder.specs.Recording.{IsWorking}
use Rattle.run_recorder.specs.Workers.{actor_number}
use Rattle.run_recorder.proofs.Actors.{first_of, next_of, worker_is, workers_is}
use Rattle.run_recorder.proofs.part.Part.actor_after.Goals as goal

pub returns-then-next-actor_count : goal.returns-then-next-actor_count
returns-then-next-actor_count g c =
    let same : c.self.inside.workers ≡ c.args.self.now.workers =
    sym (workers_is c.self.inside.setup.now c.self.inside.workers c.self.inside.worker c.self.inside.place.seat) ∙ ap (λ working. working.workers) c.self.view_is in
    let number = c.actor_at.ensures.number in
    let before = c.number_of.ensures in (
      c.actor_at.ensures.actor,
      next_of c.args.self.now.workers c.args.self.now.worker (actor_number c.args.self.now.setup c.args.actor) (actor_number c.args.self.now.setup c.actor_at.result) c.requires.1 (omega arith),
    )

pub returns-else-next-actor_count : goal.returns-else-next-actor_count
returns-else-next-actor_count g c =
    let within : IsWorking c.args.self.now = subst (λ working. IsWorking working) c.self.view_is c.self.invariant.1 in
    let same : c.self.inside.worker ≡ c.args.self.now.worker =
    sym (worker_is c.self.inside.setup.now c.self.inside.workers c.self.inside.worker c.self.inside.place.seat) ∙ ap (λ working. working.worker) c.self.view_is in
    let number = c.actor_at-else-next-actor_count.ensures.number in
    let some = c.requires.1 in (
      c.actor_at-else-next-actor_count.ensures.actor,
      first_of c.args.self.now.workers c.args.self.now.worker (actor_number c.args.self.now.setup c.actor_at-else-next-actor_count.result) (omega arith) within.number (omega arith),
    )
