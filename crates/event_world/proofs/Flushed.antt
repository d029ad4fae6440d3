-- What throwing away what waits in some pools leaves.
use Rattle.std.proofs.Common.{◌≡◌, ℕ, ◌+◌, ◌-◌, ◌<◌, ◌≤◌, List, [], ◌∷◌, ◌++◌, length, map, get_or, flat_map, slice_index, All, Contains, Some, Bool, true, false, if◌then◌else◌, refl, sym, ap, ◌∙◌, subst, arith, zero, suc, zero-add, le_trans, le_refl}
use Rattle.std.specs.List.{enumerate_from, range_with_len}
use Rattle.std.proofs.lemmas.Bool.{both_ways}
use Rattle.std.proofs.lemmas.List.{get_or_default}
use Rattle.std.proofs.lemmas.Option.{none-some, same_Some}
use Rattle.std.proofs.lemmas.List.Elements.{All-map, All-append, Contains-append_left, Contains-append_right}
use Rattle.std.proofs.lemmas.List.FromFn.{get_or-map-range_with_len, length-map-range_with_len, get_or-range_with_len, length-range_with_len, get_or-enumerate_from, length-enumerate_from}
use Rattle.listed.specs.Lists.{all_unmapped}
use Rattle.message_pools.specs.Queue.{Queue, flushed}
use Rattle.pool_book.specs.Change.{is_itself, names_kept}
use Rattle.pool_book.specs.Names.{is_same, names}
use Rattle.pool_book.specs.Pools.{Named, changed}
use Rattle.pool_book.specs.declared.name.PoolName.{PoolName}
use Rattle.pool_book.specs.declared.name.PoolName.TheVariants.{Ctl, Pkt, Note, App, Admin, Recv}
use Rattle.topology.specs.declared.network.Topology.{Topology}
use Rattle.event_world.specs.Fits.{switch_of}
use Rattle.event_world.specs.Inputs.{app_of, pools_of, ports_of}
use Rattle.event_world.specs.World.{without_all}
use Rattle.event_world.proofs.Delivered.{held, held_changed}
use Rattle.event_world.proofs.Lists.{all_joined}
use Rattle.event_world.proofs.Named.{all_named}

-- ---- one pool

-- a pool, flushed if it has the name
abbrev emptied : PoolName → PoolName × Queue → PoolName × Queue
emptied name pool = if is_same name pool.0 then (pool.0, flushed pool.1) else pool

-- the pool of the name is empty afterwards
emptied_is_empty : (name : PoolName) (pool : PoolName × Queue) (same : Bool) → is_same name pool.0 ≡ same → (emptied name pool).0 ≡ name → (emptied name pool).1.items ≡ []
emptied_is_empty name pool true e here = rw e refl
emptied_is_empty name pool false e here =
    let named : pool.0 ≡ name = subst (λ (b : Bool). (if b then (pool.0, flushed pool.1) else pool).0 ≡ name) e here in
    absurd (both_ways (is_same name pool.0) e (subst (λ (other : PoolName). is_same name other ≡ true) (sym named) (is_itself name)))

-- what flushing keeps of a pool is kept by a flush of pools
pub all_emptied : (P : PoolName × Queue → Type 0) → ((pool : PoolName × Queue) → P pool → P (pool.0, flushed pool.1)) → (name : PoolName) (pools : Named) → All P pools → All P (changed name flushed pools)
all_emptied P keep name pools all = all_named P P name flushed pools all (λ pool h. h) (λ pool same h. keep pool h)

-- ---- all pools

-- what each flush keeps, they keep together
pub kept_by_all : (P : Named → Type 0) → ((name : PoolName) (pools : Named) → P pools → P (changed name flushed pools)) → (names : List PoolName) (pools : Named) → P pools → P (without_all names pools)
kept_by_all P keep [] pools h = h
kept_by_all P keep (name ∷ names) pools h = kept_by_all P keep names (changed name flushed pools) (keep name pools h)

-- each pool keeps what flushing keeps
pub all_without : (P : PoolName × Queue → Type 0) → ((pool : PoolName × Queue) → P pool → P (pool.0, flushed pool.1)) → (names : List PoolName) (pools : Named) → All P pools → All P (without_all names pools)
all_without P keep names pools all = kept_by_all (All P) (λ name pools h. all_emptied P keep name pools h) names pools all

-- the names of the pools stay
pub names_without : (names : List PoolName) (pools : Named) → map (λ pool. pool.0) (without_all names pools) ≡ map (λ pool. pool.0) pools
names_without [] pools = refl
names_without (name ∷ names) pools = names_without names (changed name flushed pools) ∙ names_kept name flushed pools

-- ---- what is empty

-- nothing waits in a pool of the name
abbrev IsEmptyAt : PoolName → Named → Type 0
IsEmptyAt name pools = All (λ pool. pool.0 ≡ name → pool.1.items ≡ []) pools

empty_step : (name : PoolName) (pools : Named) → IsEmptyAt name (changed name flushed pools)
empty_step name pools = All-map (λ (pool : PoolName × Queue). pool.0 ≡ name → pool.1.items ≡ []) (emptied name) pools (λ k d lt here. emptied_is_empty name (get_or pools k d) (is_same name (get_or pools k d).0) refl here)

-- nothing waits in a pool that is among the names
empty_among : (name : PoolName) (names : List PoolName) (pools : Named) → Contains names name → IsEmptyAt name (without_all names pools)
empty_among name [] pools (k, lt, e) = absurd (omega arith)
empty_among name (other ∷ names) pools (zero, lt, e) =
    kept_by_all (IsEmptyAt name) (λ n ps h. all_emptied (λ pool. pool.0 ≡ name → pool.1.items ≡ []) (λ pool g here. refl) n ps h) names (changed other flushed pools)
    (subst (λ (n : PoolName). IsEmptyAt name (changed n flushed pools)) (sym e) (empty_step name pools))
empty_among name (other ∷ names) pools (suc k, lt, e) = empty_among name names (changed other flushed pools) (k, omega arith, e)

-- ---- the pools of a switch

-- a pool of packets is at a port that its switch has
abbrev IsPoolName : List ℕ → PoolName → Type 0
IsPoolName ports (Pkt s p) = (1 ≤ p) × (p ≤ slice_index ports s)
IsPoolName ports other = Unit {0}

-- the pools of packets are at ports
ports_at : (ports : List ℕ) (s n : ℕ) → n ≤ slice_index ports s → All (IsPoolName ports) (map (Pkt s) (range_with_len 1 n))
ports_at ports s n within = All-map (IsPoolName ports) (Pkt s) (range_with_len 1 n) (λ k d lt. let at = get_or-range_with_len 1 n k d (omega (arith, length-range_with_len 1 n)) in let long = length-range_with_len 1 n in (omega arith, omega arith))

ports_named : (ports : List ℕ) → All (IsPoolName ports) (flat_map (λ switch. map (Pkt switch.0) (range_with_len 1 switch.1)) (enumerate_from 0 ports))
ports_named ports = all_joined (IsPoolName ports) (λ (switch : ℕ × ℕ). map (Pkt switch.0) (range_with_len 1 switch.1)) (enumerate_from 0 ports) (λ k d lt.
    let short : k < length ports = omega (arith, length-enumerate_from 0 ports) in
    let at : get_or (enumerate_from 0 ports) k d ≡ (0 + k, get_or ports k d.1) = get_or-enumerate_from 0 ports k d short in
    let same : get_or ports k d.1 ≡ slice_index ports (0 + k) = get_or_default ports k d.1 0 short ∙ ap (λ n. slice_index ports n) (sym (zero-add k)) in
    subst (λ (switch : ℕ × ℕ). All (IsPoolName ports) (map (Pkt switch.0) (range_with_len 1 switch.1))) (sym at) (ports_at ports (0 + k) (get_or ports k d.1) (omega arith)))

-- a list of names of another kind
others_named : {A : Type 0} (ports : List ℕ) (f : A → PoolName) (xs : List A) → ((x : A) → IsPoolName ports (f x)) → All (IsPoolName ports) (map f xs)
others_named ports f xs each = All-map (IsPoolName ports) f xs (λ k d lt. each (get_or xs k d))

names_named : (ports : List ℕ) (controllers hosts : ℕ) → All (IsPoolName ports) (names ports controllers hosts)
names_named ports controllers hosts =
    let switches = range_with_len 0 (length ports) in
    let apps : All (IsPoolName ports) (flat_map (λ c. map (App c) switches) (range_with_len 0 controllers)) =
    all_joined (IsPoolName ports) (λ (c : ℕ). map (App c) switches) (range_with_len 0 controllers) (λ k d lt. others_named ports (App (get_or (range_with_len 0 controllers) k d)) switches (λ s. tt)) in
    let ctls = map Ctl switches in
    let pkts = flat_map (λ (switch : ℕ × ℕ). map (Pkt switch.0) (range_with_len 1 switch.1)) (enumerate_from 0 ports) in
    let notes = map Note switches in
    let heard = flat_map (λ (c : ℕ). map (App c) switches) (range_with_len 0 controllers) in
    let admins = map Admin (range_with_len 0 controllers) in
    let recvs = map Recv (range_with_len 0 hosts) in
    let P = IsPoolName ports in
    All-append P (ctls ++ pkts ++ notes ++ heard ++ admins) recvs
    (All-append P (ctls ++ pkts ++ notes ++ heard) admins
    (All-append P (ctls ++ pkts ++ notes) heard
    (All-append P (ctls ++ pkts) notes
    (All-append P ctls pkts (others_named ports Ctl switches (λ s. tt)) (ports_named ports))
    (others_named ports Note switches (λ s. tt)))
    apps)
    (others_named ports Admin (range_with_len 0 controllers) (λ c. tt)))
    (others_named ports Recv (range_with_len 0 hosts) (λ h. tt))

-- a pool that is lost with the switch is among the switch's pools
port_among : (topology : Topology) (s p : ℕ) → 1 ≤ p → p ≤ slice_index topology.ports s → Contains (pools_of topology s) (Pkt s p)
port_among topology s p low high =
    let ports = map (Pkt s) (ports_of topology s) in
    let short : p - 1 < length ports = omega (arith, length-map-range_with_len (Pkt s) 1 (slice_index topology.ports s)) in
    Contains-append_right (Ctl s ∷ []) (ports ++ Note s ∷ app_of topology s) (Pkt s p)
    (Contains-append_left ports (Note s ∷ app_of topology s) (Pkt s p)
    (p - 1, short, get_or-map-range_with_len (Pkt s) 1 (slice_index topology.ports s) (p - 1) p (Pkt s p) (omega arith) (omega arith)))

note_among : (topology : Topology) (s : ℕ) → Contains (pools_of topology s) (Note s)
note_among topology s =
    let ports = map (Pkt s) (ports_of topology s) in
    Contains-append_right (Ctl s ∷ []) (ports ++ Note s ∷ app_of topology s) (Note s)
    (Contains-append_right ports (Note s ∷ app_of topology s) (Note s) (0, omega arith, refl))

among_pools : (topology : Topology) (s : ℕ) (name : PoolName) → IsPoolName topology.ports name → switch_of name ≡ Some s → Contains (pools_of topology s) name
among_pools topology s (Ctl t) port here = let same : t ≡ s = same_Some t s here in subst (λ (n : ℕ). Contains (pools_of topology s) (Ctl n)) (sym same) (0, omega arith, refl)
among_pools topology s (Pkt t p) port here =
    let same : t ≡ s = same_Some t s here in
    subst (λ (n : ℕ). Contains (pools_of topology n) (Pkt t p)) same (port_among topology t p port.0 port.1)
among_pools topology s (Note t) port here = let same : t ≡ s = same_Some t s here in subst (λ (n : ℕ). Contains (pools_of topology n) (Note t)) same (note_among topology t)
among_pools topology s (App c t) port here = absurd (none-some s here)
among_pools topology s (Admin c) port here = absurd (none-some s here)
among_pools topology s (Recv h) port here = absurd (none-some s here)

-- nothing waits at a switch whose pools were flushed
pub quiet_at : (topology : Topology) (controllers hosts s : ℕ) (pools : Named) → map (λ pool. pool.0) pools ≡ names topology.ports controllers hosts
    → All (λ pool. switch_of pool.0 ≡ Some s → pool.1.items ≡ []) (without_all (pools_of topology s) pools)
quiet_at topology controllers hosts s pools named =
    let after = without_all (pools_of topology s) pools in
    let kept : map (λ (pool : PoolName × Queue). pool.0) after ≡ names topology.ports controllers hosts = names_without (pools_of topology s) pools ∙ named in
    let each = all_unmapped (IsPoolName topology.ports) (λ (pool : PoolName × Queue). pool.0) after (subst (All (IsPoolName topology.ports)) (sym kept) (names_named topology.ports controllers hosts)) in
    λ k d lt here. empty_among (get_or after k d).0 (pools_of topology s) pools (among_pools topology s (get_or after k d).0 (each k d lt) here) k d lt refl

-- ---- what a pool is measured by

-- a measure that flushing does not raise is not raised
pub measure_without : (measure : Queue → ℕ) → ((queue : Queue) → measure (flushed queue) ≤ measure queue) → (wanted : PoolName) (names : List PoolName) (pools : Named)
    → held measure wanted (without_all names pools) ≤ held measure wanted pools
measure_without measure lower wanted [] pools = le_refl (held measure wanted pools)
measure_without measure lower wanted (name ∷ names) pools =
    le_trans (measure_without measure lower wanted names (changed name flushed pools)) (held_changed measure flushed wanted name pools lower)
