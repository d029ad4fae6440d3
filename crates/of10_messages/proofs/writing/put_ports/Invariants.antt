-- The ports so far stand at the end.
use Rattle.std.proofs.Common.{◌≡◌, ◌++◌, take}
use Rattle.std.specs.List.{flat_map}
use Rattle.of10_messages.specs.Wire.{port_bytes}
use Rattle.of10_messages.proofs.writing.put_ports.Given as goal

abbrev pub invariant-loop-port : goal.invariant-loop-port
invariant-loop-port l = l.out.items ≡ l.fn.out.items ++ flat_map port_bytes (take l.port-index l.ports)
