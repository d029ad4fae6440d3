-- One port more is gone through.
use Rattle.std.proofs.Common.{◌≡◌, ℕ, ◌++◌, ◌+◌, ◌∙◌, ap, Option}
use Rattle.std.specs.Option.{option_to_list}
use Rattle.topology.specs.declared.status.Status.{Status}
use Rattle.event_world.specs.declared.effect.Effect.{Effect}
use Rattle.event_world.proofs.Effects.{kept_more}
use Rattle.event_world.proofs.effect.Effect.tell_neighbours.Goals as goal
use Rattle.event_world.proofs.effect.Effect.tell_neighbours.Invariants.{told, told_at}

pub loop-place-preserved : goal.loop-place-preserved
loop-place-preserved c =
    let i = c.loop-place.invariant in
    let before = c.loop-place.self.mail in
    let here = c.loop-place.place + 1 in
    let step = c.in_ok-tell_far.ensures in
    let at : before ++ option_to_list (told c.loop-place.self.status c.args.down c.far_end.result)
    ≡ before ++ option_to_list (told_at c.args.topology.now c.args.self.now.status c.args.s c.args.down here) =
    ap (λ (far : Option (ℕ × ℕ × ℕ)). before ++ option_to_list (told c.loop-place.self.status c.args.down far)) c.far_end.ensures
    ∙ ap (λ (status : Status). before ++ option_to_list (told_at c.args.topology.now status c.args.s c.args.down here)) i.status in
    record {
      status = ap (λ (change : Effect). change.status) step ∙ i.status;
      flushes = ap (λ (change : Effect). change.flushes) step ∙ i.flushes;
      mail = kept_more (told_at c.args.topology.now c.args.self.now.status c.args.s c.args.down) c.args.self.now.mail before c.tell_far.new.self.mail c.loop-place.place
          i.mail (ap (λ (change : Effect). change.mail) step ∙ at);
    }
