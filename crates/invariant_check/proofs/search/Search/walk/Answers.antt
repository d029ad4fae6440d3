-- One node more.
use Rattle.std.proofs.Common.{◌≡◌, ◌<◌, get_or, length}
use Rattle.invariant_check.specs.Stop.{node_at}
use Rattle.invariant_check.specs.declared.search.Frame.{Frame}
use Rattle.invariant_check.proofs.Known.{image_pushed}
use Rattle.invariant_check.proofs.search.Search.walk.Goals as goal

pub loop-frame-preserved : goal.loop-frame-preserved
loop-frame-preserved c =
    let frames = c.args.self.now.below.items in
    let within : c.loop-frame.frame-index < length frames = rw c.deref-frame-items.ensures.value at c.loop-frame-test.true in
    let is : c.frame-item.result ≡ get_or frames c.loop-frame.frame-index c.frame-item.result = rw c.deref-frame-items.ensures.value at c.frame-item.is in
    image_pushed (λ (frame : Frame). node_at c.args.class.now.header frame.stop) frames c.loop-frame.frame-index c.frame-item.result c.loop-frame.nodes c.push.new.self c.node.result
    within is c.loop-frame.invariant c.in_ok-push.ensures.ok c.node.ensures
