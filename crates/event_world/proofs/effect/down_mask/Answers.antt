-- The bit of one port more is added.
use Rattle.std.proofs.Common.{◌+◌, false}
use Rattle.std.specs.Prelude.{not}
use Rattle.std.specs.Option.{option_map_or}
use Rattle.topology.specs.Network.{far_end}
use Rattle.event_world.specs.Inputs.{is_open}
use Rattle.event_world.proofs.Effects.{mask_grows, summed_more}
use Rattle.event_world.proofs.effect.down_mask.Goals as goal
use Rattle.event_world.proofs.effect.down_mask.Invariants.{bit_of}

pub loop-place-preserved : goal.loop-place-preserved
loop-place-preserved c =
    let i = c.loop-place.invariant in
    let n = c.loop-place.place in
    let bit = c.down_bit-mask.result in
    record {
      mask = summed_more (bit_of c.args.topology.now c.args.status.now c.args.s) c.loop-place.mask bit n i.mask c.down_bit-mask.ensures;
      below = mask_grows c.loop-place.mask bit n (option_map_or (λ far. not (is_open c.args.status.now far)) (far_end c.args.topology.now c.args.s (n + 1)) false) i.below c.down_bit-mask.ensures;
      most = i.most;
    }
