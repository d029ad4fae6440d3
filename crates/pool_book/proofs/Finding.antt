-- The pool of a name, and what a change to it leaves.
use Rattle.std.proofs.Common.{◌≡◌, ◌≢◌, ◌∙◌, ◌⊎◌, ℕ, ◌+◌, ◌<◌, ◌≤◌, Bool, true, false, cond, List, [], ◌∷◌, length, max, map, replicate, slice_get, slice_set, Option, Some, None, option_map, zero, suc, ap, arith, inl, inr, refl, subst, sym}
use Rattle.std.specs.Prelude.{filter_map, unwrap_or}
use Rattle.std.proofs.lemmas.Bool.{both_ways, cases_Bool}
use Rattle.std.proofs.lemmas.List.{length-map, map-set}
use Rattle.std.proofs.lemmas.Option.{slice_get-map, slice_get_within}
use Rattle.listed.specs.Lists.{map_same}
use Rattle.message_pools.specs.Queue.{Queue, Reserved, empty_queue}
use Rattle.pool_book.specs.declared.name.PoolName.{PoolName}
use Rattle.pool_book.specs.Change.{is_itself, same_name}
use Rattle.pool_book.specs.Names.{is_same, names}
use Rattle.pool_book.specs.Places.{Booked, Found, IsName, Network, Numbered, marks, place, waits}
use Rattle.pool_book.specs.Pools.{HasRoomFor, HasRoomUpTo, UsesRoom, changed, pool_of, queues, room_of}
use Rattle.pool_book.specs.Order.{named, placed}

-- ---- names

pub differs : (a b : PoolName) → a ≢ b → is_same a b ≡ false
differs a b not = elim (cases_Bool (is_same a b)) [
  | inl holds ↦ absurd (not (same_name a b holds))
  | inr fails ↦ fails
]

-- ---- the first of what is given

-- where a function gives something at a place and nothing before, that is the first of what it gives
pub first_given : {X Y : Type 0} (h : X → Option Y) (xs : List X) (n : ℕ) (x : X) (y : Y) → slice_get xs n ≡ Some x → h x ≡ Some y → ((k : ℕ) (z : X) → k < n → slice_get xs k ≡ Some z → h z ≡ None) → slice_get (filter_map h xs) 0 ≡ Some y
first_given h [] n x y e hx before = absurd cc
first_given h (z ∷ zs) zero x y e hx before = let same : z ≡ x = cc in let here : h z ≡ Some y = ap h same ∙ hx in rw here refl
first_given h (z ∷ zs) (suc n) x y e hx before =
    let none : h z ≡ None = before 0 z (omega arith) refl in
    rw none (first_given h zs n x y e hx (λ k w below at. before (suc k) w (omega arith) at))

pub none_given : {X Y : Type 0} (h : X → Option Y) (xs : List X) → ((k : ℕ) (z : X) → slice_get xs k ≡ Some z → h z ≡ None) → slice_get (filter_map h xs) 0 ≡ None
none_given h [] all = refl
none_given h (z ∷ zs) all = let none : h z ≡ None = all 0 z refl in rw none (none_given h zs (λ k w at. all (suc k) w at))

-- ---- the pool of a name

-- what `pool_of` gives of a pool
abbrev taken_as : {A : Type 0} → PoolName → PoolName × A → Option A
taken_as name pool = cond (is_same name pool.0) (Some pool.1) None

pub pool_there : {A : Type 0} (name : PoolName) (pools : List (PoolName × A)) (n : ℕ) (pool : A) → slice_get pools n ≡ Some (name, pool) → ((k : ℕ) (other : PoolName × A) → slice_get pools k ≡ Some other → is_same name other.0 ≡ true → k ≡ n) → pool_of name pools ≡ Some pool
pool_there name pools n pool at only =
    first_given (taken_as name) pools n (name, pool) pool at (let holds = is_itself name in rw holds refl)
    (λ k other below there. elim (cases_Bool (is_same name other.0)) [
      | inl holds ↦ let same = only k other there holds in absurd (omega arith)
      | inr fails ↦ rw fails refl
    ])

pub pool_missing : {A : Type 0} (name : PoolName) (pools : List (PoolName × A)) → ((k : ℕ) (other : PoolName × A) → slice_get pools k ≡ Some other → is_same name other.0 ≡ false) → pool_of name pools ≡ None
pool_missing name pools none = none_given (taken_as name) pools (λ k other there. let fails = none k other there in rw fails refl)

-- the pool of a name, without its room
pub pool_of_queues : (name : PoolName) (pools : List (PoolName × Reserved)) → pool_of name (queues pools) ≡ option_map (λ pool. pool.queue) (pool_of name pools)
pool_of_queues name [] = refl
pool_of_queues name (pool ∷ pools) = elim (cases_Bool (is_same name pool.0)) [
  | inl holds ↦ rw holds refl
  | inr fails ↦ rw fails (pool_of_queues name pools)
]

-- ---- a pool that is written

-- where no pool has the name, a change to it changes nothing
pub unchanged : (name : PoolName) (f : Queue → Queue) (pools : List (PoolName × Reserved)) → ((k : ℕ) (other : PoolName × Reserved) → slice_get pools k ≡ Some other → is_same name other.0 ≡ false) → changed name f (queues pools) ≡ queues pools
unchanged name f [] none = refl
unchanged name f (pool ∷ pools) none = let fails = none 0 pool refl in rw fails (ap (λ rest. (pool.0, pool.1.queue) ∷ rest) (unchanged name f pools (λ k other there. none (suc k) other there)))

-- the pools where a name has a changed pool, without their room
pub written : (name : PoolName) (f : Queue → Queue) (pools : List (PoolName × Reserved)) (n : ℕ) (old new : Reserved) → slice_get pools n ≡ Some (name, old) → ((k : ℕ) (other : PoolName × Reserved) → slice_get pools k ≡ Some other → is_same name other.0 ≡ true → k ≡ n) → new.queue ≡ f old.queue → queues (slice_set pools n (name, new)) ≡ changed name f (queues pools)
written name f [] n old new at only e = absurd cc
written name f (pool ∷ pools) zero old new at only e =
    let holds = is_itself name in
    let same : pool ≡ (name, old) = cc in
    let none = unchanged name f pools (λ k other there. elim (cases_Bool (is_same name other.0)) [
      | inl holds ↦ let zero' = only (suc k) other there holds in absurd (omega arith)
      | inr fails ↦ fails
    ]) in
    rw (same, holds, e, none) refl
written name f (pool ∷ pools) (suc n) old new at only e =
    let fails : is_same name pool.0 ≡ false = elim (cases_Bool (is_same name pool.0)) [
      | inl holds ↦ let zero' = only 0 pool refl holds in absurd (omega arith)
      | inr fails ↦ fails
    ] in
    rw fails (ap (λ rest. (pool.0, pool.1.queue) ∷ rest) (written name f pools n old new at (λ k other there holds. let same = only (suc k) other there holds in omega arith) e))

-- the pools where a name has a pool with the same queue, without their room
pub same_queues : (name : PoolName) (pools : List (PoolName × Reserved)) (n : ℕ) (old new : Reserved) → slice_get pools n ≡ Some (name, old) → new.queue ≡ old.queue → queues (slice_set pools n (name, new)) ≡ queues pools
same_queues name pools n old new at e = map_same (λ (pool : PoolName × Reserved). (pool.0, pool.1.queue)) pools n (name, old) (name, new) at (ap (λ q. (name, q)) e)

-- ---- room

-- a write to the pool of a name leaves those of the other names
other_pool : (name other : PoolName) (pools : List (PoolName × Reserved)) (n : ℕ) (old new : Reserved) → is_same other name ≡ false → slice_get pools n ≡ Some (name, old) → pool_of other (slice_set pools n (name, new)) ≡ pool_of other pools
other_pool name other [] n old new fails at = absurd cc
other_pool name other (pool ∷ pools) zero old new fails at = let same : pool ≡ (name, old) = cc in rw (same, fails) refl
other_pool name other (pool ∷ pools) (suc n) old new fails at = elim (cases_Bool (is_same other pool.0)) [
  | inl holds ↦ rw holds refl
  | inr not ↦ rw not (other_pool name other pools n old new fails at)
]

own_pool : (name : PoolName) (pools : List (PoolName × Reserved)) (n : ℕ) (old new : Reserved) → slice_get pools n ≡ Some (name, old) → ((k : ℕ) (other : PoolName × Reserved) → slice_get pools k ≡ Some other → is_same name other.0 ≡ true → k ≡ n) → pool_of name (slice_set pools n (name, new)) ≡ Some new
own_pool name [] n old new at only = absurd cc
own_pool name (pool ∷ pools) zero old new at only = let holds = is_itself name in rw holds refl
own_pool name (pool ∷ pools) (suc n) old new at only =
    let fails : is_same name pool.0 ≡ false = elim (cases_Bool (is_same name pool.0)) [
      | inl holds ↦ let zero' = only 0 pool refl holds in absurd (omega arith)
      | inr fails ↦ fails
    ] in
    rw fails (own_pool name pools n old new at (λ k other there holds. let same = only (suc k) other there holds in omega arith))

-- the rooms of all names where the pool of one of them is written
room_after : (name : PoolName) (pools : List (PoolName × Reserved)) (n : ℕ) (old new : Reserved) → slice_get pools n ≡ Some (name, old) → ((k : ℕ) (other : PoolName × Reserved) → slice_get pools k ≡ Some other → is_same name other.0 ≡ true → k ≡ n) → (other : PoolName) → ((is_same name other ≡ true) × (room_of other pools ≡ old.spare) × (room_of other (slice_set pools n (name, new)) ≡ new.spare)) ⊎ ((is_same name other ≡ false) × (room_of other (slice_set pools n (name, new)) ≡ room_of other pools))
room_after name pools n old new at only other = elim (cases_Bool (is_same name other)) [
  | inl holds ↦
      let same = same_name name other holds in
      let before = pool_there name pools n old at only in
      let after = own_pool name pools n old new at only in
      inl (holds, subst (λ o. room_of o pools ≡ old.spare) same (rw before refl), subst (λ o. room_of o (slice_set pools n (name, new)) ≡ new.spare) same (rw after refl))
  | inr fails ↦
      let back : is_same other name ≡ false = differs other name (λ e. both_ways (is_same name other) fails (subst (λ o. is_same name o ≡ true) (sym e) (is_itself name))) in
      inr (fails, ap (λ pool. unwrap_or (option_map (λ pool. pool.spare) pool) 0) (other_pool name other pools n old new back at))
]

pub has_room : (name : PoolName) (more : ℕ) (pools : List (PoolName × Reserved)) (n : ℕ) (old new : Reserved) → slice_get pools n ≡ Some (name, old) → ((k : ℕ) (other : PoolName × Reserved) → slice_get pools k ≡ Some other → is_same name other.0 ≡ true → k ≡ n) → old.spare + more ≤ new.spare → HasRoomFor name more pools (slice_set pools n (name, new))
has_room name more pools n old new at only enough other = elim (room_after name pools n old new at only other) [
  | inl (holds, before, after) ↦ rw (holds, before, after) enough
  | inr (fails, same) ↦ rw (fails, same) (omega arith)
]

pub uses_room : (name : PoolName) (used : ℕ) (pools : List (PoolName × Reserved)) (n : ℕ) (old new : Reserved) → slice_get pools n ≡ Some (name, old) → ((k : ℕ) (other : PoolName × Reserved) → slice_get pools k ≡ Some other → is_same name other.0 ≡ true → k ≡ n) → old.spare ≤ new.spare + used → UsesRoom name used pools (slice_set pools n (name, new))
uses_room name used pools n old new at only enough other = elim (room_after name pools n old new at only other) [
  | inl (holds, before, after) ↦ rw (holds, before, after) enough
  | inr (fails, same) ↦ rw (fails, same) (omega arith)
]

room_up_to : (name : PoolName) (most : ℕ) (pools : List (PoolName × Reserved)) (n : ℕ) (old new : Reserved) → slice_get pools n ≡ Some (name, old) → ((k : ℕ) (other : PoolName × Reserved) → slice_get pools k ≡ Some other → is_same name other.0 ≡ true → k ≡ n) → new.spare ≤ max old.spare most → HasRoomUpTo name most pools (slice_set pools n (name, new))
room_up_to name most pools n old new at only enough other = elim (room_after name pools n old new at only other) [
  | inl (holds, before, after) ↦ rw (holds, before, after) enough
  | inr (fails, same) ↦ rw (fails, same) (omega arith)
]

-- nothing changes the room
pub same_room : (name : PoolName) (pools : List (PoolName × Reserved)) → HasRoomFor name 0 pools pools
same_room name pools other = elim (cases_Bool (is_same name other)) [
  | inl holds ↦ rw holds (omega arith)
  | inr fails ↦ rw fails (omega arith)
]

-- ---- the pools and their marks

pub rebooked : (net : Network) (name : PoolName) (pools : List (PoolName × Reserved)) (flags : List Bool) (n : ℕ) (old new : Reserved) → Booked net pools flags → slice_get pools n ≡ Some (name, old) → Booked net (slice_set pools n (name, new)) (slice_set flags n (waits new.queue))
rebooked net name pools flags n old new book at = record {
  named = map_same (λ (pool : PoolName × Reserved). pool.0) pools n (name, old) (name, new) at refl ∙ book.named;
  marked = ap (λ all. slice_set all n (waits new.queue)) book.marked ∙ sym (map-set (λ (pool : PoolName × Reserved). waits pool.1.queue) pools n (name, new));
}

pub still_booked : (net : Network) (name : PoolName) (pools : List (PoolName × Reserved)) (flags : List Bool) (n : ℕ) (old new : Reserved) → Booked net pools flags → slice_get pools n ≡ Some (name, old) → waits new.queue ≡ waits old.queue → Booked net (slice_set pools n (name, new)) flags
still_booked net name pools flags n old new book at same = record {
  named = map_same (λ (pool : PoolName × Reserved). pool.0) pools n (name, old) (name, new) at refl ∙ book.named;
  marked = book.marked ∙ sym (map_same (λ (pool : PoolName × Reserved). waits pool.1.queue) pools n (name, old) (name, new) at same);
}

-- ---- from names to numbers

pub name_at : (net : Network) (pools : List (PoolName × Reserved)) (flags : List Bool) (k : ℕ) (pool : PoolName × Reserved) → Booked net pools flags → slice_get pools k ≡ Some pool → slice_get (names net.ports net.controllers net.hosts) k ≡ Some pool.0
name_at net pools flags k pool book at =
    ap (λ all. slice_get all k) (sym book.named) ∙ slice_get-map (λ (pool : PoolName × Reserved). pool.0) pools k ∙ ap (option_map (λ (pool : PoolName × Reserved). pool.0)) at

-- what stands at a number has the name that stands there
with_name : (name : PoolName) (o : Option (PoolName × Reserved)) → option_map (λ pool. pool.0) o ≡ Some name → (pool : Reserved) × (o ≡ Some (name, pool))
with_name name None e = absurd cc
with_name name (Some pool) e = let same : pool.0 ≡ name = cc in (pool.1, ap (λ n. Some (n, pool.1)) same)

pub found : (net : Network) (pools : List (PoolName × Reserved)) (flags : List Bool) (name : PoolName) (o : Option ℕ) → Booked net pools flags → Numbered net name o → Found name pools o
found net pools flags name None book none = λ k pool at. elim (cases_Bool (is_same name pool.0)) [
  | inl holds ↦
      let there = named net.ports net.controllers net.hosts k pool.0 (name_at net pools flags k pool book at) in
      absurd (none (subst (IsName net.ports net.controllers net.hosts) (sym (same_name name pool.0 holds)) there.0))
  | inr fails ↦ fails
]
found net pools flags name (Some number) book (is, at) =
    let there = placed net.ports net.controllers net.hosts name is in
    let here : option_map (λ pool. pool.0) (slice_get pools number) ≡ Some name =
    sym (slice_get-map (λ (pool : PoolName × Reserved). pool.0) pools number) ∙ ap (λ all. slice_get all number) book.named ∙ ap (slice_get (names net.ports net.controllers net.hosts)) at ∙ there in (
      with_name name (slice_get pools number) here,
      λ k pool other holds.
          let stands = named net.ports net.controllers net.hosts k pool.0 (name_at net pools flags k pool book other) in
          stands.1 ∙ ap (place net.ports net.controllers) (sym (same_name name pool.0 holds)) ∙ sym at,
    )

-- ---- a call that writes the pool at the number of a name, as it sees the pools

found_name : (name : PoolName) (pools : List (PoolName × Reserved)) (n : ℕ) (pool : PoolName × Reserved) → Found name pools (Some n) → slice_get pools n ≡ Some pool → slice_get pools n ≡ Some (name, pool.1)
found_name name pools n pool (here, only) at = let same : (name, here.0) ≡ pool = cc in at ∙ ap (λ m. Some (m, pool.1)) (sym (ap (λ (p : PoolName × Reserved). p.0) same))

found_same : (name : PoolName) (pools : List (PoolName × Reserved)) (n : ℕ) (pool : PoolName × Reserved) → Found name pools (Some n) → slice_get pools n ≡ Some pool → name ≡ pool.0
found_same name pools n pool (here, only) at = let same : (name, here.0) ≡ pool = cc in ap (λ (p : PoolName × Reserved). p.0) same

pub found_within : (name : PoolName) (pools : List (PoolName × Reserved)) (n : ℕ) → Found name pools (Some n) → n < length pools
found_within name pools n (here, only) = slice_get_within pools n (name, here.0) here.1

pub within_flags : (net : Network) (pools : List (PoolName × Reserved)) (flags : List Bool) (n : ℕ) → Booked net pools flags → n < length pools → n < length flags
within_flags net pools flags n book below = let long = ap length book.marked ∙ length-map pools (λ (pool : PoolName × Reserved). waits pool.1.queue) in omega arith

-- the pool of the name
pub found_pool : (name : PoolName) (pools : List (PoolName × Reserved)) (n : ℕ) (pool : PoolName × Reserved) → Found name pools (Some n) → slice_get pools n ≡ Some pool → pool_of name pools ≡ Some pool.1
found_pool name pools n pool found at = pool_there name pools n pool.1 (found_name name pools n pool found at) found.1

pub found_queue : (name : PoolName) (pools : List (PoolName × Reserved)) (n : ℕ) (pool : PoolName × Reserved) → Found name pools (Some n) → slice_get pools n ≡ Some pool → pool_of name (queues pools) ≡ Some pool.1.queue
found_queue name pools n pool found at = pool_of_queues name pools ∙ ap (option_map (λ (pool : Reserved). pool.queue)) (found_pool name pools n pool found at)

pub missing_queue : (name : PoolName) (pools : List (PoolName × Reserved)) → Found name pools None → pool_of name (queues pools) ≡ None
missing_queue name pools none = pool_of_queues name pools ∙ ap (option_map (λ (pool : Reserved). pool.queue)) (pool_missing name pools none)

-- the pools after the write
pub touched_queues : (name : PoolName) (f : Queue → Queue) (pools : List (PoolName × Reserved)) (n : ℕ) (pool : PoolName × Reserved) (new : Reserved) → Found name pools (Some n) → slice_get pools n ≡ Some pool → new.queue ≡ f pool.1.queue → queues (slice_set pools n (pool.0, new)) ≡ changed name f (queues pools)
touched_queues name f pools n pool new found at e =
    subst (λ m. queues (slice_set pools n (m, new)) ≡ changed name f (queues pools)) (found_same name pools n pool found at)
    (written name f pools n pool.1 new (found_name name pools n pool found at) found.1 e)

pub touched_room : (name : PoolName) (more : ℕ) (pools : List (PoolName × Reserved)) (n : ℕ) (pool : PoolName × Reserved) (new : Reserved) → Found name pools (Some n) → slice_get pools n ≡ Some pool → pool.1.spare + more ≤ new.spare → HasRoomFor name more pools (slice_set pools n (pool.0, new))
touched_room name more pools n pool new found at enough =
    subst (λ m. HasRoomFor name more pools (slice_set pools n (m, new))) (found_same name pools n pool found at)
    (has_room name more pools n pool.1 new (found_name name pools n pool found at) found.1 enough)

-- the pool that was written has the room that it was given
pub touched_own : (name : PoolName) (pools : List (PoolName × Reserved)) (n : ℕ) (pool : PoolName × Reserved) (new : Reserved) → Found name pools (Some n) → slice_get pools n ≡ Some pool → room_of name (slice_set pools n (pool.0, new)) ≡ new.spare
touched_own name pools n pool new found at =
    subst (λ m. room_of name (slice_set pools n (m, new)) ≡ new.spare) (found_same name pools n pool found at)
    (ap (λ (pool : Option Reserved). unwrap_or (option_map (λ pool. pool.spare) pool) 0) (own_pool name pools n pool.1 new (found_name name pools n pool found at) found.1))

pub touched_up_to : (name : PoolName) (most : ℕ) (pools : List (PoolName × Reserved)) (n : ℕ) (pool : PoolName × Reserved) (new : Reserved) → Found name pools (Some n) → slice_get pools n ≡ Some pool → new.spare ≤ max pool.1.spare most → HasRoomUpTo name most pools (slice_set pools n (pool.0, new))
touched_up_to name most pools n pool new found at enough =
    subst (λ m. HasRoomUpTo name most pools (slice_set pools n (m, new))) (found_same name pools n pool found at)
    (room_up_to name most pools n pool.1 new (found_name name pools n pool found at) found.1 enough)

pub touched_use : (name : PoolName) (used : ℕ) (pools : List (PoolName × Reserved)) (n : ℕ) (pool : PoolName × Reserved) (new : Reserved) → Found name pools (Some n) → slice_get pools n ≡ Some pool → pool.1.spare ≤ new.spare + used → UsesRoom name used pools (slice_set pools n (pool.0, new))
touched_use name used pools n pool new found at enough =
    subst (λ m. UsesRoom name used pools (slice_set pools n (m, new))) (found_same name pools n pool found at)
    (uses_room name used pools n pool.1 new (found_name name pools n pool found at) found.1 enough)

-- the pools and their marks after the write
pub touched_mark : (net : Network) (pools : List (PoolName × Reserved)) (flags after : List Bool) (n : ℕ) (pool : PoolName × Reserved) (new : Reserved) (mark : Bool) → Booked net pools flags → slice_get pools n ≡ Some pool → waits new.queue ≡ mark → after ≡ slice_set flags n mark → Booked net (slice_set pools n (pool.0, new)) after
touched_mark net pools flags after n pool new mark book at is e =
    subst (Booked net (slice_set pools n (pool.0, new))) (ap (slice_set flags n) is ∙ sym e) (rebooked net pool.0 pools flags n pool.1 new book at)

-- ---- pools that are made

names_kept : (pools : List (PoolName × Reserved)) → map (λ pool. pool.0) (queues pools) ≡ map (λ pool. pool.0) pools
names_kept [] = refl
names_kept (pool ∷ pools) = ap (λ rest. pool.0 ∷ rest) (names_kept pools)

marks_kept : (pools : List (PoolName × Reserved)) → map (λ pool. waits pool.1) (queues pools) ≡ marks pools
marks_kept [] = refl
marks_kept (pool ∷ pools) = ap (λ rest. waits pool.1.queue ∷ rest) (marks_kept pools)

names_made : (all : List PoolName) → map (λ (pool : PoolName × Queue). pool.0) (map (λ name. (name, empty_queue)) all) ≡ all
names_made [] = refl
names_made (name ∷ all) = ap (λ rest. name ∷ rest) (names_made all)

marks_made : (all : List PoolName) → map (λ (pool : PoolName × Queue). waits pool.1) (map (λ name. (name, empty_queue)) all) ≡ replicate (length all) false
marks_made [] = refl
marks_made (name ∷ all) = ap (λ rest. false ∷ rest) (marks_made all)

-- pools with a name each in which nothing waits
pub length_made : (pools : List (PoolName × Reserved)) (all : List PoolName) → queues pools ≡ map (λ name. (name, empty_queue)) all → length pools ≡ length all
length_made pools all e = sym (length-map pools (λ (pool : PoolName × Reserved). (pool.0, pool.1.queue))) ∙ ap length e ∙ length-map all (λ (name : PoolName). (name, empty_queue))

pub started : (net : Network) (all : List PoolName) (pools : List (PoolName × Reserved)) (flags : List Bool) (n : ℕ) → queues pools ≡ map (λ name. (name, empty_queue)) all → all ≡ names net.ports net.controllers net.hosts → flags ≡ replicate n false → n ≡ length pools → Booked net pools flags
started net all pools flags n e is clear long = record {
  named = sym (names_kept pools) ∙ ap (map (λ (pool : PoolName × Queue). pool.0)) e ∙ names_made all ∙ is;
  marked = clear ∙ ap (λ n. replicate n false) (long ∙ length_made pools all e) ∙ sym (marks_made all) ∙ sym (ap (map (λ (pool : PoolName × Queue). waits pool.1)) e) ∙ marks_kept pools;
}

-- other pools with the same names, queues and marks
pub copied : (net again : Network) (pools copies : List (PoolName × Reserved)) (flags after : List Bool) → Booked net pools flags → again ≡ net → queues copies ≡ queues pools → after ≡ flags → Booked again copies after
copied net again pools copies flags after book same e marked = record {
  named = sym (names_kept copies) ∙ ap (map (λ (pool : PoolName × Queue). pool.0)) e ∙ names_kept pools ∙ book.named ∙ ap (λ (n : Network). names n.ports n.controllers n.hosts) (sym same);
  marked = marked ∙ book.marked ∙ sym (marks_kept pools) ∙ sym (ap (map (λ (pool : PoolName × Queue). waits pool.1)) e) ∙ marks_kept copies;
}
