use Rattle.std.proofs.Common.{◌≡◌, ℕ, ◌-◌, ◌<◌, ◌≤◌, ◌^◌, map, false, if◌then◌else◌}
use Rattle.std.specs.Prelude.{not}
use Rattle.std.specs.List.{range_with_len, sum}
use Rattle.std.specs.Option.{option_map_or}
use Rattle.topology.specs.Network.{far_end}
use Rattle.topology.specs.declared.network.Topology.{Topology}
use Rattle.topology.specs.declared.status.Status.{Status}
use Rattle.event_world.specs.Inputs.{is_open}
use Rattle.event_world.proofs.effect.down_mask.Given as goal

-- the bit of a port
abbrev pub bit_of : Topology → Status → ℕ → ℕ → ℕ
bit_of topology status s port = if option_map_or (λ far. not (is_open status far)) (far_end topology s port) false then 2 ^ (port - 1) else 0

-- the mask has the bits of the ports so far, and none above them
abbrev pub invariant-loop-place : goal.invariant-loop-place
invariant-loop-place l = record {
  mask : l.mask ≡ sum (map (bit_of l.topology l.status l.s) (range_with_len 1 l.place));
  below : l.mask < 2 ^ l.place;
  most : l.place-end ≤ 48;
}
