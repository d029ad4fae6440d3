-- Where each pool stands in the order of all of them.
use Rattle.std.specs.Prelude.{◌≡◌, ◌≢◌, ◌⊎◌, ℕ, ◌+◌, ◌-◌, ◌*◌, ◌<◌, ◌≤◌, Bool, true, false, List, [], ◌∷◌, length, map, take, slice_get, slice_index_or, sum, Option, Some, None, option_map}
use Rattle.message_pools.specs.Queue.{Queue, Reserved, head_of}
use Rattle.message_pools.specs.declared.item.Item.{Item}
use Rattle.pool_book.specs.declared.actor.Actor.{Actor}
use Rattle.pool_book.specs.declared.name.PoolName.{PoolName}
use Rattle.pool_book.specs.declared.name.PoolName.TheVariants.{Ctl, Pkt, Note, App, Admin, Recv}
use Rattle.pool_book.specs.Names.{is_same, is_same_actor, names, taker}

-- what tells the names of all pools: the numbers of ports of the switches, and how many controllers and hosts there are
pub record Network : Type 0 where
  pub ports : List ℕ
  pub controllers : ℕ
  pub hosts : ℕ

-- whether a name is that of a pool of the network
abbrev pub IsName : List ℕ → ℕ → ℕ → PoolName → Type 0
IsName ports controllers hosts (Ctl s) = s < length ports
IsName ports controllers hosts (Pkt s p) = (0 < p) × (p ≤ slice_index_or ports s 0)
IsName ports controllers hosts (Note s) = s < length ports
IsName ports controllers hosts (App c s) = (c < controllers) × (s < length ports)
IsName ports controllers hosts (Admin c) = c < controllers
IsName ports controllers hosts (Recv h) = h < hosts

-- the number of the pool at a switch's first port
abbrev pub port_start : List ℕ → ℕ → ℕ
port_start ports s = length ports + sum (take s ports)

-- the numbers of the first pools of notices, of messages to controllers, of policies, and of packets to hosts
abbrev pub note_start : List ℕ → ℕ
note_start ports = length ports + sum ports

abbrev pub app_start : List ℕ → ℕ
app_start ports = note_start ports + length ports

abbrev pub admin_start : List ℕ → ℕ → ℕ
admin_start ports controllers = app_start ports + controllers * length ports

abbrev pub recv_start : List ℕ → ℕ → ℕ
recv_start ports controllers = admin_start ports controllers + controllers

-- how many pools there are
abbrev pub pool_count : List ℕ → ℕ → ℕ → ℕ
pool_count ports controllers hosts = recv_start ports controllers + hosts

-- the number of the pool of a name
abbrev pub place : List ℕ → ℕ → PoolName → ℕ
place ports controllers (Ctl s) = s
place ports controllers (Pkt s p) = port_start ports s + (p - 1)
place ports controllers (Note s) = note_start ports + s
place ports controllers (App c s) = app_start ports + (c * length ports + s)
place ports controllers (Admin c) = admin_start ports controllers + c
place ports controllers (Recv h) = recv_start ports controllers + h

-- what the number of a name is, or that it is the name of no pool
abbrev pub Numbered : Network → PoolName → Option ℕ → Type 0
Numbered net name None = IsName net.ports net.controllers net.hosts name → ⊥
Numbered net name (Some number) = IsName net.ports net.controllers net.hosts name × (number ≡ place net.ports net.controllers name)

-- How the starts that are kept stand for those of a network of few pools.
pub record Laid (ports starts : List ℕ) (controllers hosts : ℕ) : Type 0 where
  pub few : pool_count ports controllers hosts ≤ 4096
  pub count : length starts ≡ length ports + 1
  pub each : (s : ℕ) → s ≤ length ports → slice_index_or starts s 0 ≡ port_start ports s

-- whether something waits in a queue
abbrev pub waits : Queue → Bool
waits queue = are_some queue.items where
  are_some : List Item → Bool
  are_some [] = false
  are_some (item ∷ rest) = true

-- for each pool whether something waits in it
abbrev pub marks : List (PoolName × Reserved) → List Bool
marks pools = map (λ pool. waits pool.1.queue) pools

-- the name of a pool in which something waits, and the number of the first item
abbrev pub head_name : PoolName × Queue → Option (PoolName × ℕ)
head_name pool = option_map (λ head. (pool.0, head.0)) (head_of pool.1)

-- How the pools and the set of those in which something waits belong together.
pub record Booked (net : Network) (pools : List (PoolName × Reserved)) (flags : List Bool) : Type 0 where
  pub named : map (λ pool. pool.0) pools ≡ names net.ports net.controllers net.hosts
  pub marked : flags ≡ marks pools

-- The pool of a name stands at a number and nowhere else, or there is none.
abbrev pub Found : PoolName → List (PoolName × Reserved) → Option ℕ → Type 0
Found name pools None = (k : ℕ) (pool : PoolName × Reserved) → slice_get pools k ≡ Some pool → is_same name pool.0 ≡ false
Found name pools (Some number) = ((pool : Reserved) × (slice_get pools number ≡ Some (name, pool))) × ((k : ℕ) (pool : PoolName × Reserved) → slice_get pools k ≡ Some pool → is_same name pool.0 ≡ true → k ≡ number)

-- the least number of a range in which something waits, or that there is none
abbrev pub FirstWithin : ℕ → ℕ → List Bool → Option ℕ → Type 0
FirstWithin start end flags None = (k : ℕ) → start ≤ k → k < end → slice_get flags k ≢ Some true
FirstWithin start end flags (Some number) = (start ≤ number) × (number < end) × (slice_get flags number ≡ Some true) × ((k : ℕ) → start ≤ k → k < number → slice_get flags k ≢ Some true)

-- Three ranges that ascend have the numbers of the pools from which an actor takes, and no others.
pub record Reaches (net : Network) (who : Actor) (start1 end1 start2 end2 start3 end3 : ℕ) : Type 0 where
  pub one : end1 ≤ start2
  pub two : start2 ≤ end2
  pub three : end2 ≤ start3
  pub first : (k : ℕ) (name : PoolName) → slice_get (names net.ports net.controllers net.hosts) k ≡ Some name → start1 ≤ k → k < end1 → is_same_actor (taker name) who ≡ true
  pub second : (k : ℕ) (name : PoolName) → slice_get (names net.ports net.controllers net.hosts) k ≡ Some name → start2 ≤ k → k < end2 → is_same_actor (taker name) who ≡ true
  pub third : (k : ℕ) (name : PoolName) → slice_get (names net.ports net.controllers net.hosts) k ≡ Some name → start3 ≤ k → k < end3 → is_same_actor (taker name) who ≡ true
  pub others : (k : ℕ) (name : PoolName) → slice_get (names net.ports net.controllers net.hosts) k ≡ Some name → is_same_actor (taker name) who ≡ true → ((start1 ≤ k) × (k < end1)) ⊎ (((start2 ≤ k) × (k < end2)) ⊎ ((start3 ≤ k) × (k < end3)))
