-- The descriptions so far are those of the first ports, and valid.
use Rattle.std.proofs.Common.{◌≡◌, All, map}
use Rattle.std.specs.List.{range_with_len}
use Rattle.of10_messages.specs.Valid.{IsValidPort}
use Rattle.switch_core.specs.Ports.{port_desc}
use Rattle.switch_core.proofs.ports.features.Given as goal

abbrev pub invariant-loop-place : goal.invariant-loop-place
invariant-loop-place l = record {
  ports : l.ports ≡ map (port_desc l.state) (range_with_len 1 l.place);
  valid : All IsValidPort l.ports;
}
