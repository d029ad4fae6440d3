-- What can be judged: a network with a table for each switch, and an invariant.
use Rattle.std.specs.Prelude.{◌≡◌, length, ⊤}
use Rattle.of10_match.specs.Match.{IsValidMatch}
use Rattle.topology.specs.Status.{IsStatus}
use Rattle.topology.specs.declared.invariant.Invariant.{Invariant}
use Rattle.topology.specs.declared.invariant.Invariant.TheVariants.{Forbid}
use Rattle.event_world.specs.declared.net_state.NetState.{NetState}

-- The status is one of the topology, and each switch has a table.
pub record IsNet (net : NetState) : Type 0 where
  pub status : IsStatus net.topology net.status
  pub tables : length net.tables ≡ length net.topology.ports

-- the match of an invariant is valid
abbrev pub IsAsked : Invariant → Type 0
IsAsked (Forbid src dst matches) = IsValidMatch matches
IsAsked other = ⊤
