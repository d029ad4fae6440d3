-- The network: a ring of switches, each with one host.
use Rattle.std.specs.Prelude.{ℕ, ◌+◌, ◌%◌, map, replicate, Some}
use Rattle.std.specs.List.{range_with_len}
use Rattle.topology.specs.declared.network.Topology.{Topology}

-- port 2 of each switch leads to port 1 of the next one, round to the first
abbrev pub link_of : ℕ → ℕ → ℕ × ℕ × ℕ × ℕ
link_of size s = (s, 2, (s + 1) % size, 1)

-- a host is at port 3 of each switch; MAC addresses count from 1
abbrev pub host_of : ℕ → ℕ × ℕ × ℕ
host_of s = (s, 3, s + 1)

-- a ring of so many switches of three ports under controller 0
abbrev pub ring : ℕ → Topology
ring size = record {
  ports = replicate size 3;
  owner = replicate size (Some 0);
  links = map (link_of size) (range_with_len 0 size);
  hosts = map host_of (range_with_len 0 size);
}
