use Rattle.std.proofs.Common.{◌≡◌, take}
use Rattle.topology.specs.Network.{ends_of}
use Rattle.machine_setup.proofs.network.ends.Given as goal

abbrev pub invariant-loop-link : goal.invariant-loop-link
invariant-loop-link l = l.ends.items ≡ ends_of (take l.link-index l.links)
