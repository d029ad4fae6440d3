-- What a shared part that is one of a network says of the first item of a pool.
use Rattle.std.proofs.Common.{◌≡◌, ℕ, ◌+◌, ◌<◌, List, [], ◌∷◌, length, map, flat_map, zero, suc, Some, All, arith, subst}
use Rattle.std.specs.List.{enumerate_from, range_with_len}
use Rattle.std.proofs.lemmas.List.Elements.{All-append, All-cons, All-head, All-map, All-nil, All-same, All-weaker}
use Rattle.std.proofs.lemmas.Option.{option_and_then_some, some_pair_parts}
use Rattle.listed.specs.Lists.{all_unmapped}
use Rattle.message_pools.specs.Queue.{Queue, head_of}
use Rattle.message_pools.specs.declared.item.Item.{Item}
use Rattle.pool_book.specs.Names.{names}
use Rattle.pool_book.specs.Pools.{pool_of}
use Rattle.pool_book.specs.declared.name.PoolName.{PoolName}
use Rattle.pool_book.specs.declared.name.PoolName.TheVariants.{Ctl, Pkt, Note, App, Admin, Recv}
use Rattle.topology.specs.declared.network.Topology.{Topology}
use Rattle.event_world.specs.Fits.{IsItemOf, IsPool, IsShared}
use Rattle.event_world.specs.Mail.{Shared}
use Rattle.event_world.specs.World.{first_item}
use Rattle.event_world.proofs.Lists.{all_joined}
use Rattle.event_world.proofs.Named.{all_pool_of}

-- what holds of each item holds of the first one
all_first : (P : Item → Type 0) (number first : ℕ) (item : Item) (items : List Item) → All P items → head_of (record { first = first; items = items }) ≡ Some (number, item) → P item
all_first P number first item [] all e = absurd cc
all_first P number first item (head ∷ items) all e = subst P (some_pair_parts first number head item e).1 (All-head P head items all)

-- the first item of a pool is of the pool's kind
pub item_kind : (topology : Topology) (controllers : ℕ) (name : PoolName) (number : ℕ) (item : Item) (shared : Shared) → IsShared topology controllers shared → first_item name shared ≡ Some (number, item) → IsItemOf topology.ports name item
item_kind topology controllers name number item shared fits first =
    option_and_then_some head_of (pool_of name shared.pools) (number, item) first
    (λ queue at head. all_first (IsItemOf topology.ports name) number queue.first item queue.items (all_pool_of (IsPool topology.ports shared.status shared.events) name shared.pools queue fits.pools at).items head)

-- ---- names of the network

-- a name is of a switch, a controller or a host of the network
abbrev pub IsNameIn : ℕ → ℕ → ℕ → PoolName → Type 0
IsNameIn switches controllers hosts (Ctl s) = s < switches
IsNameIn switches controllers hosts (Pkt s p) = s < switches
IsNameIn switches controllers hosts (Note s) = s < switches
IsNameIn switches controllers hosts (App c s) = (c < controllers) × (s < switches)
IsNameIn switches controllers hosts (Admin c) = c < controllers
IsNameIn switches controllers hosts (Recv h) = h < hosts

-- numbers of a range
all_range : (P : ℕ → Type 0) (from count : ℕ) → ((n : ℕ) → n < from + count → P n) → All P (range_with_len from count)
all_range P from zero below = All-nil P
all_range P from (suc count) below = All-cons P from (range_with_len (from + 1) count) (below from (omega arith)) (all_range P (from + 1) count (λ n lt. below n (omega arith)))

-- numbers of elements
all_numbered : (P : ℕ → Type 0) (from : ℕ) (xs : List ℕ) → ((n : ℕ) → n < from + length xs → P n) → All (λ (one : ℕ × ℕ). P one.0) (enumerate_from from xs)
all_numbered P from [] below = All-nil (λ (one : ℕ × ℕ). P one.0)
all_numbered P from (x ∷ xs) below = All-cons (λ (one : ℕ × ℕ). P one.0) (from, x) (enumerate_from (from + 1) xs) (below from (omega arith)) (all_numbered P (from + 1) xs (λ n lt. below n (omega arith)))

-- all names are of the network
names_in : (ports : List ℕ) (controllers hosts : ℕ) → All (IsNameIn (length ports) controllers hosts) (names ports controllers hosts)
names_in ports controllers hosts =
    let P = IsNameIn (length ports) controllers hosts in
    let switches = range_with_len 0 (length ports) in
    let ctl : All P (map Ctl switches) = All-map P Ctl switches (all_range (λ s. P (Ctl s)) 0 (length ports) (λ s lt. omega arith)) in
    let pkt : All P (flat_map (λ (switch : ℕ × ℕ). map (Pkt switch.0) (range_with_len 1 switch.1)) (enumerate_from 0 ports)) =
    all_joined P (λ (switch : ℕ × ℕ). map (Pkt switch.0) (range_with_len 1 switch.1)) (enumerate_from 0 ports)
    (All-weaker (λ (switch : ℕ × ℕ). switch.0 < length ports) (λ (switch : ℕ × ℕ). All P (map (Pkt switch.0) (range_with_len 1 switch.1)))
    (λ switch lt. All-map P (Pkt switch.0) (range_with_len 1 switch.1) (all_range (λ p. P (Pkt switch.0 p)) 1 switch.1 (λ p below. lt)))
    (enumerate_from 0 ports) (all_numbered (λ s. s < length ports) 0 ports (λ s lt. omega arith))) in
    let note : All P (map Note switches) = All-map P Note switches (all_range (λ s. P (Note s)) 0 (length ports) (λ s lt. omega arith)) in
    let app : All P (flat_map (λ (c : ℕ). map (App c) switches) (range_with_len 0 controllers)) =
    all_joined P (λ (c : ℕ). map (App c) switches) (range_with_len 0 controllers)
    (all_range (λ c. All P (map (App c) switches)) 0 controllers (λ c in_range. All-map P (App c) switches (all_range (λ s. P (App c s)) 0 (length ports) (λ s lt. (omega arith, omega arith))))) in
    let admin : All P (map Admin (range_with_len 0 controllers)) = All-map P Admin (range_with_len 0 controllers) (all_range (λ c. P (Admin c)) 0 controllers (λ c lt. omega arith)) in
    let recv : All P (map Recv (range_with_len 0 hosts)) = All-map P Recv (range_with_len 0 hosts) (all_range (λ h. P (Recv h)) 0 hosts (λ h lt. omega arith)) in
    All-append P _ _ (All-append P _ _ (All-append P _ _ (All-append P _ _ (All-append P _ _ ctl pkt) note) app) admin) recv

-- the name of a pool that has an item is of the network
pub name_in_range : (topology : Topology) (controllers : ℕ) (name : PoolName) (number : ℕ) (item : Item) (shared : Shared) → IsShared topology controllers shared → first_item name shared ≡ Some (number, item) → IsNameIn (length topology.ports) controllers (length topology.hosts) name
name_in_range topology controllers name number item shared fits first =
    let P = IsNameIn (length topology.ports) controllers (length topology.hosts) in
    let all = all_unmapped P (λ (pool : PoolName × Queue). pool.0) shared.pools (All-same P _ _ fits.names (names_in topology.ports controllers (length topology.hosts))) in
    option_and_then_some head_of (pool_of name shared.pools) (number, item) first (λ queue at head. all_pool_of (λ (pool : PoolName × Queue). P pool.0) name shared.pools queue all at)
