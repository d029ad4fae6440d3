-- The step of one action.
use Rattle.std.proofs.Common.{◌≡◌, ◌++◌, map}
use Rattle.std.proofs.lemmas.List.Elements.{All-append, All-map, All-same}
use Rattle.header_classes.specs.Rewrite.{IsValidRewrite}
use Rattle.invariant_check.specs.Stop.{hop_of}
use Rattle.invariant_check.specs.declared.stop.Hop.{Hop}
use Rattle.invariant_check.proofs.Sent.{next_hops}
use Rattle.invariant_check.proofs.hops.hops_of_actions.Goals as goal

pub loop-action-preserved : goal.loop-action-preserved
loop-action-preserved c =
    let sets = c.loop-action.sets in
    let sent = c.in_ok-sent.sent in
    let valid = λ (hop : Hop). IsValidRewrite hop.sets in
    let are = rw c.from_ref.ensures.value at c.in_ok-sent.ensures.outcome in
    let put : c.put_hops.new.hops ≡ c.loop-action.hops ++ map (hop_of sets) sent = rw c.deref.ensures at c.in_ok-put_hops.ensures in
    record {
      all = λ h. next_hops c.args.ports c.args.stop.now.p _ h sets c.act.new.self c.args.actions.now c.loop-action.action-index c.action-item.result c.loop-action.hops c.put_hops.new.hops sent
          _ c.loop-action-test.true c.action-item.is are put (c.act.ensures.after h) (c.loop-action.invariant.all h);
      valid = c.act.ensures.valid;
      each = All-same valid c.put_hops.new.hops (c.loop-action.hops ++ map (hop_of sets) sent) put
          (All-append valid c.loop-action.hops (map (hop_of sets) sent) c.loop-action.invariant.each (All-map valid (hop_of sets) sent (λ k d within. c.loop-action.invariant.valid)));
    }
