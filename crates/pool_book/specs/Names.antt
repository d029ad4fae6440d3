-- The names of all pools of a network, in their order, and who takes from each.
use Rattle.std.specs.Prelude.{ℕ, ◌==◌, ◌&&◌, List, ◌++◌, length, map, flat_map, Bool, true, false}
use Rattle.std.specs.List.{enumerate_from, range_with_len}
use Rattle.pool_book.specs.declared.actor.Actor.{Actor}
use Rattle.pool_book.specs.declared.actor.Actor.TheVariants as actor
use Rattle.pool_book.specs.declared.name.PoolName.{PoolName}
use Rattle.pool_book.specs.declared.name.PoolName.TheVariants.{Ctl, Pkt, Note, App, Admin, Recv}

-- The pools of a network whose switches have these numbers of ports, with so many controllers and hosts, in their order:
-- messages to each switch, packets at each port by switch and then by port, notices to each switch, messages to each
-- controller by controller and then by switch, policies for each controller, packets to each host.
abbrev pub names : List ℕ → ℕ → ℕ → List PoolName
names ports controllers hosts =
    map Ctl (range_with_len 0 (length ports))
    ++ flat_map (λ switch. map (Pkt switch.0) (range_with_len 1 switch.1)) (enumerate_from 0 ports)
    ++ map Note (range_with_len 0 (length ports))
    ++ flat_map (λ c. map (App c) (range_with_len 0 (length ports))) (range_with_len 0 controllers)
    ++ map Admin (range_with_len 0 controllers)
    ++ map Recv (range_with_len 0 hosts)

-- whether two names are the same
abbrev pub is_same : PoolName → PoolName → Bool
is_same (Ctl s) (Ctl t) = s == t
is_same (Pkt s p) (Pkt t q) = s == t && p == q
is_same (Note s) (Note t) = s == t
is_same (App c s) (App d t) = c == d && s == t
is_same (Admin c) (Admin d) = c == d
is_same (Recv h) (Recv i) = h == i
is_same _ _ = false

-- who takes from a pool
abbrev pub taker : PoolName → Actor
taker (Ctl s) = actor.Switch s
taker (Pkt s p) = actor.Switch s
taker (Note s) = actor.Switch s
taker (App c s) = actor.Controller c
taker (Admin c) = actor.Controller c
taker (Recv h) = actor.Host h

-- whether two actors are the same
abbrev pub is_same_actor : Actor → Actor → Bool
is_same_actor actor.Script actor.Script = true
is_same_actor (actor.Switch s) (actor.Switch t) = s == t
is_same_actor (actor.Controller c) (actor.Controller d) = c == d
is_same_actor (actor.Host h) (actor.Host i) = h == i
is_same_actor _ _ = false
