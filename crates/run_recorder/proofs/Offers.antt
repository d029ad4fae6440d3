-- A task that was just offered is due.
use Rattle.std.proofs.Common.{◌≡◌, Some, sym, subst, arith}
use Rattle.std.proofs.lemmas.Option.{slice_get_within}
use Rattle.controller_api.specs.Reaction.{Reaction}
use Rattle.controller_api.specs.declared.item.UpItem.{UpItem}
use Rattle.pool_book.specs.declared.actor.Actor.{Actor}
use Rattle.event_world.specs.Answers.{first_event_of}
use Rattle.event_world.specs.Events.{actor_of}
use Rattle.event_machine.specs.Legal.{world_before}
use Rattle.run_recorder.specs.Answers.{HasActor, IsDue, IsOffer}
use Rattle.run_recorder.specs.Recording.{Working, world_at}
use Rattle.run_recorder.specs.declared.answers.Offered.TheVariants.{Work}
use Rattle.run_recorder.specs.declared.task.Deed.{Deed}
use Rattle.run_recorder.specs.declared.task.Task.{Task}

module _ {C : Type 0} (react : C → UpItem → Reaction C) (first : C → C) where
  pub offer_due : (old new : Working C) (who : Actor) (task : Task) → actor_of task.event ≡ who → HasActor old who
      → IsOffer react first old new who (Work task) → IsDue react first new (record { task = task })
  offer_due old new who task same has answer =
      let look = answer.0 in
      let found = answer.1 in
      let kept : HasActor new who = subst (λ working. HasActor working who) (sym look.view) has in
      record {
        has = subst (λ actor. HasActor new actor) (sym same) kept;
        place = omega (arith, found.2);
        offered = subst (λ n. first_event_of new.setup (world_before react first new.setup new.view.seen n).shared (actor_of task.event) ≡ Some task.event) (sym found.2)
            (subst (λ actor. first_event_of new.setup (world_at react first new.setup new.view.seen).shared actor ≡ Some task.event) (sym same) found.1);
        since = λ at entry from there own. let below = slice_get_within new.view.seen at entry there in absurd (omega (arith, found.2));
      }

  -- a deed of a task that is due is due
  pub due_of : (working : Working C) (task : Task) (deed : Deed) → deed.task ≡ task → IsDue react first working (record { task = task }) → IsDue react first working deed
  due_of working task deed same due = subst (λ (t : Task). IsDue react first working (record { task = t })) (sym same) due
