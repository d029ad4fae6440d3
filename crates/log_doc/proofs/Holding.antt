-- What an entry of a run holds can be written.
use Rattle.std.proofs.Common.{◌≡◌, ℕ, ◌<◌, ◌≤◌, ◌^◌, zero, suc, List, [], ◌∷◌, length, take, get_or, slice_get, Option, Some, None, All, arith, inl, inr, refl, subst, sym}
use Rattle.std.specs.Prelude.{◌==◌, IfSome, slice_index_or}
use Rattle.std.proofs.lemmas.List.{length-take-le}
use Rattle.std.proofs.lemmas.List.Elements.{All-contains}
use Rattle.std.proofs.lemmas.List.Sums.{count_by-le-length}
use Rattle.std.proofs.lemmas.Option.{slice_get-get_or, slice_get_cases}
use Rattle.controller_api.specs.Reaction.{Reaction}
use Rattle.controller_api.specs.declared.item.UpItem.{UpItem}
use Rattle.machine_setup.specs.Setup.{IsValidSetup}
use Rattle.machine_setup.specs.declared.setup.Setup.{Setup}
use Rattle.message_pools.specs.Item.{IsValidItem}
use Rattle.message_pools.specs.declared.item.Item.{Item}
use Rattle.message_pools.specs.declared.item.Item.TheVariants as item
use Rattle.pool_book.specs.Names.{names}
use Rattle.pool_book.specs.Order.{named}
use Rattle.pool_book.specs.Places.{IsName}
use Rattle.pool_book.specs.declared.name.PoolName.{PoolName}
use Rattle.pool_book.specs.declared.name.PoolName.TheVariants as pool
use Rattle.event_world.specs.Answers.{IsInputEvent}
use Rattle.event_world.specs.Events.{number_of, pool_name}
use Rattle.event_world.specs.Fits.{IsItemOf as MayWait}
use Rattle.event_world.specs.declared.event.Event.{Event}
use Rattle.event_world.specs.declared.event.Event.TheVariants.{In, Ctl, Pkt, Note, App, Admin, Recv}
use Rattle.event_machine.specs.Holding.{IsEntryOf, IsSomeItemOf}
use Rattle.event_machine.specs.Legal.{IsLegalRun}
use Rattle.event_machine.specs.declared.trace.Entry.{Entry}
use Rattle.event_machine.specs.declared.trace.Trace.{Trace}
use Rattle.log_doc.specs.Written.{HasTaken, HasValidItem, IsItemOf, IsNarrowEvent, IsTaken, IsWritableEntry}
use Rattle.log_doc.specs.declared.items.ItemKind.{ItemKind}
use Rattle.log_doc.specs.declared.items.ItemKind.TheVariants as kind

-- ---- items

-- the kind of the items of a pool
abbrev kind_of : PoolName → ItemKind
kind_of (pool.Ctl s) = kind.Message
kind_of (pool.Pkt s p) = kind.Packet
kind_of (pool.Note s) = kind.Notice
kind_of (pool.App c s) = kind.News
kind_of (pool.Admin c) = kind.Policy
kind_of (pool.Recv h) = kind.Packet

-- what may wait in a pool is of its kind, and valid
taken_is : (ports : List ℕ) (name : PoolName) (one : Item) → MayWait ports name one → IsItemOf (kind_of name) one × IsValidItem one
taken_is ports (pool.Ctl s) (item.Message message) of = (tt, of)
taken_is ports (pool.Ctl s) item.Gone of = absurd of
taken_is ports (pool.Ctl s) (item.Packet packet) of = absurd of
taken_is ports (pool.Ctl s) (item.Notice notice) of = absurd of
taken_is ports (pool.Ctl s) (item.Policy deny) of = absurd of
taken_is ports (pool.Pkt s p) (item.Packet packet) of = (tt, of)
taken_is ports (pool.Pkt s p) (item.Message message) of = absurd of
taken_is ports (pool.Pkt s p) item.Gone of = absurd of
taken_is ports (pool.Pkt s p) (item.Notice notice) of = absurd of
taken_is ports (pool.Pkt s p) (item.Policy deny) of = absurd of
taken_is ports (pool.Note s) (item.Notice notice) of = (tt, tt)
taken_is ports (pool.Note s) (item.Message message) of = absurd of
taken_is ports (pool.Note s) item.Gone of = absurd of
taken_is ports (pool.Note s) (item.Packet packet) of = absurd of
taken_is ports (pool.Note s) (item.Policy deny) of = absurd of
taken_is ports (pool.App c s) (item.Message message) of = (tt, of)
taken_is ports (pool.App c s) item.Gone of = (tt, tt)
taken_is ports (pool.App c s) (item.Packet packet) of = absurd of
taken_is ports (pool.App c s) (item.Notice notice) of = absurd of
taken_is ports (pool.App c s) (item.Policy deny) of = absurd of
taken_is ports (pool.Admin c) (item.Policy deny) of = (tt, of)
taken_is ports (pool.Admin c) (item.Message message) of = absurd of
taken_is ports (pool.Admin c) item.Gone of = absurd of
taken_is ports (pool.Admin c) (item.Packet packet) of = absurd of
taken_is ports (pool.Admin c) (item.Notice notice) of = absurd of
taken_is ports (pool.Recv h) (item.Packet packet) of = (tt, of)
taken_is ports (pool.Recv h) (item.Message message) of = absurd of
taken_is ports (pool.Recv h) item.Gone of = absurd of
taken_is ports (pool.Recv h) (item.Notice notice) of = absurd of
taken_is ports (pool.Recv h) (item.Policy deny) of = absurd of

some_taken : (ports : List ℕ) (name : PoolName) (taken : Option Item) → IsSomeItemOf ports name taken → IsTaken (kind_of name) taken
some_taken ports name None of = absurd of
some_taken ports name (Some one) of = taken_is ports name one of

-- an event that took what may wait in its pool has taken an item of the pool's kind
has_taken : (ports : List ℕ) (event : Event) (taken : Option Item) → (IsInputEvent event → taken ≡ None)
    → ((name : PoolName) → pool_name event ≡ Some name → IsSomeItemOf ports name taken) → HasTaken event taken
has_taken ports (In position) taken none some = none tt
has_taken ports (Ctl s n) taken none some = some_taken ports (pool.Ctl s) taken (some (pool.Ctl s) refl)
has_taken ports (Pkt s p n) taken none some = some_taken ports (pool.Pkt s p) taken (some (pool.Pkt s p) refl)
has_taken ports (Note s n) taken none some = some_taken ports (pool.Note s) taken (some (pool.Note s) refl)
has_taken ports (App c s n) taken none some = some_taken ports (pool.App c s) taken (some (pool.App c s) refl)
has_taken ports (Admin c n) taken none some = some_taken ports (pool.Admin c) taken (some (pool.Admin c) refl)
has_taken ports (Recv h n) taken none some = some_taken ports (pool.Recv h) taken (some (pool.Recv h) refl)

-- what was taken is valid
taken_valid : (pool : ItemKind) (taken : Option Item) → IsTaken pool taken → IfSome taken IsValidItem
taken_valid pool None is = absurd is
taken_valid pool (Some one) is = is.1

valid_by : (event : Event) (taken : Option Item) → HasTaken event taken → IfSome taken IsValidItem
valid_by (In position) taken none = subst (λ (one : Option Item). IfSome one IsValidItem) (sym none) tt
valid_by (Ctl s n) taken is = taken_valid kind.Message taken is
valid_by (Pkt s p n) taken is = taken_valid kind.Packet taken is
valid_by (Note s n) taken is = taken_valid kind.Notice taken is
valid_by (App c s n) taken is = taken_valid kind.News taken is
valid_by (Admin c n) taken is = taken_valid kind.Policy taken is
valid_by (Recv h n) taken is = taken_valid kind.Packet taken is

-- ---- names

-- the names of a network are names of it
all_names : (ports : List ℕ) (controllers hosts : ℕ) → All (IsName ports controllers hosts) (names ports controllers hosts)
all_names ports controllers hosts = λ k d below.
    (named ports controllers hosts k (slice_index_or (names ports controllers hosts) k d) (slice_get-get_or (names ports controllers hosts) k d below)).0

-- a number stands where there is one
index_within : (xs : List ℕ) (n : ℕ) → 0 < slice_index_or xs n 0 → n < length xs
index_within [] n some = absurd (omega arith)
index_within (x ∷ xs) zero some = omega arith
index_within (x ∷ xs) (suc n) some = let rest = index_within xs n some in omega arith

-- a port stands at a switch that is there, and is at most its last one
port_within : (ports : List ℕ) (s p : ℕ) → All (λ count. (1 ≤ count) × (count ≤ 48)) ports → 0 < p → p ≤ slice_index_or ports s 0 → (s < length ports) × (p ≤ 48)
port_within ports s p few some last =
    let below : s < length ports = index_within ports s (omega arith) in
    let most : slice_index_or ports s 0 ≤ 48 = (few s 0 below).1 in
    (below, omega arith)

module _ {C : Type 0} where
  -- the names and the numbers of an event of a run are in their ranges
  narrow_event : (setup : Setup C) (event : Event) → IsValidSetup setup → (IsInputEvent event → number_of event < length setup.script)
      → ((name : PoolName) → pool_name event ≡ Some name → IsName setup.topology.ports (length setup.controllers) (length setup.topology.hosts) name)
      → number_of event < 2 ^ 63 → IsNarrowEvent event
  narrow_event setup (In position) valid line name number = let below : position < length setup.script = line tt in let short : length setup.script ≤ 256 = valid.lines in omega arith
  narrow_event setup (Ctl s n) valid line name number =
      let is : s < length setup.topology.ports = name (pool.Ctl s) refl in
      let few : length setup.topology.ports ≤ 64 = valid.network.switches.count in
      (omega arith, omega arith)
  narrow_event setup (Pkt s p n) valid line name number =
      let is : (0 < p) × (p ≤ slice_index_or setup.topology.ports s 0) = name (pool.Pkt s p) refl in
      let few : length setup.topology.ports ≤ 64 = valid.network.switches.count in
      let within = port_within setup.topology.ports s p valid.network.switches.ports is.0 is.1 in
      let below : s < length setup.topology.ports = within.0 in
      let most : p ≤ 48 = within.1 in
      (omega arith, omega arith, omega arith)
  narrow_event setup (Note s n) valid line name number =
      let is : s < length setup.topology.ports = name (pool.Note s) refl in
      let few : length setup.topology.ports ≤ 64 = valid.network.switches.count in
      (omega arith, omega arith)
  narrow_event setup (App c s n) valid line name number =
      let is : (c < length setup.controllers) × (s < length setup.topology.ports) = name (pool.App c s) refl in
      let own : c < length setup.controllers = is.0 in
      let other : s < length setup.topology.ports = is.1 in
      let few : length setup.controllers ≤ 8 = valid.few in
      let switches : length setup.topology.ports ≤ 64 = valid.network.switches.count in
      (omega arith, omega arith, omega arith)
  narrow_event setup (Admin c n) valid line name number =
      let is : c < length setup.controllers = name (pool.Admin c) refl in
      let few : length setup.controllers ≤ 8 = valid.few in
      (omega arith, omega arith)
  narrow_event setup (Recv h n) valid line name number =
      let is : h < length setup.topology.hosts = name (pool.Recv h) refl in
      let few : length setup.topology.hosts ≤ 128 = valid.network.hosts in
      (omega arith, omega arith)

  -- ---- entries

  took : (setup : Setup C) (entry : Entry) → IsEntryOf setup entry → HasTaken entry.event entry.item
  took setup entry of = has_taken setup.topology.ports entry.event entry.item (λ input. (of.line input).0) (λ name is. (of.pool name is).1)

  -- the item of an entry of a run is valid
  pub has_valid : (setup : Setup C) (entry : Entry) → IsEntryOf setup entry → HasValidItem entry
  has_valid setup entry of = valid_by entry.event entry.item (took setup entry of)

  -- an entry of a run can be written where it is one of the workers'
  pub writable : (setup : Setup C) (workers : ℕ) (entry : Entry)
      → IsValidSetup setup → IsEntryOf setup entry → entry.worker ≤ workers → workers < 2 ^ 32 → entry.number < 2 ^ 64 → IsWritableEntry workers entry
  writable setup workers entry valid of within few number =
      let ports : List ℕ = setup.topology.ports in
      let controllers : ℕ = length setup.controllers in
      let hosts : ℕ = length setup.topology.hosts in
      record {
        worker = within;
        narrow = omega arith;
        number = number;
        names = narrow_event setup entry.event valid (λ input. (of.line input).1)
            (λ name is. All-contains (IsName ports controllers hosts) (names ports controllers hosts) name (all_names ports controllers hosts) (of.pool name is).0) of.number;
        taken = took setup entry of;
      }

  -- ---- a whole run

  module _ (react : C → UpItem → Reaction C) (first : C → C) where
    -- a legal run has no more entries than the setup's limit, which is at most 16,384
    pub run_few : (setup : Setup C) (trace : Trace) → IsValidSetup setup → IsLegalRun react first setup trace → length trace.entries ≤ 16384
    run_few setup trace valid legal =
        let most : setup.limits.max_events ≤ 16384 = valid.bounds.max_events.1 in
        elim (slice_get_cases trace.entries setup.limits.max_events).1 [
          | inl (entry, below, there, same) ↦ let past : setup.limits.max_events < setup.limits.max_events = (legal.entries setup.limits.max_events entry below there).0.0 in absurd (omega arith)
          | inr (past, none) ↦ omega arith
        ]

    -- the number of an entry of a legal run is at most its place
    number_below : (setup : Setup C) (trace : Trace) (at : ℕ) (entry : Entry) → IsValidSetup setup → IsLegalRun react first setup trace → at < length trace.entries
        → slice_get trace.entries at ≡ Some entry → entry.number < 2 ^ 64
    number_below setup trace at entry valid legal below there =
        let number = (legal.entries at entry below there).1 in
        let before = count_by-le-length (λ (other : Entry). other.worker == entry.worker) (take at trace.entries) in
        let few = run_few setup trace valid legal in
        let long = length-take-le at trace.entries (omega arith) in
        omega arith

    -- the entries of a legal run can be written where they are the workers', and such as a run can have
    pub run_writable : (setup : Setup C) (workers : ℕ) (trace : Trace) → IsValidSetup setup → IsLegalRun react first setup trace
        → All (IsEntryOf setup) trace.entries → All (λ entry. entry.worker ≤ workers) trace.entries → workers < 2 ^ 32 → All (IsWritableEntry workers) trace.entries
    run_writable setup workers trace valid legal of within few = λ k d below.
        let entry : Entry = get_or trace.entries k d in
        writable setup workers entry valid (of k d below) (within k d below) few (number_below setup trace k entry valid legal below (slice_get-get_or trace.entries k d below))
