-- What waits, and that the first event of an actor may stand next.
use Rattle.std.proofs.Common.{◌≡◌, ◌∙◌, ℕ, zero, suc, Bool, true, false, not, ◌&&◌, List, length, [], ◌∷◌, map, slice_get, Option, Some, None, option_map, ap, inl, inr, refl, subst, sym}
use Rattle.std.specs.Prelude.{filter, filter_map, if◌then◌else◌, option_and_then}
use Rattle.std.proofs.lemmas.Bool.{cases_Bool, eqb-true}
use Rattle.std.proofs.lemmas.Option.{none-some, option_and_then_some, same_Some, slice_get-map}
use Rattle.machine_setup.specs.declared.script.Line.{Line}
use Rattle.machine_setup.specs.declared.setup.Setup.{Setup}
use Rattle.message_pools.specs.Queue.{Queue, head_of}
use Rattle.message_pools.specs.declared.item.Item.{Item}
use Rattle.pool_book.specs.Change.{same_name}
use Rattle.pool_book.specs.Names.{is_same_actor, names, taker}
use Rattle.pool_book.specs.Order.{named}
use Rattle.pool_book.specs.Places.{place}
use Rattle.pool_book.specs.Pools.{IsQuiet, Named, first_waiting, first_waiting_for, pool_of, waiting}
use Rattle.pool_book.specs.declared.actor.Actor.{Actor}
use Rattle.pool_book.specs.declared.actor.Actor.TheVariants as actor
use Rattle.pool_book.specs.declared.name.PoolName.{PoolName}
use Rattle.pool_book.specs.declared.name.PoolName.TheVariants as pool
use Rattle.pool_book.proofs.Finding.{pool_there}
use Rattle.event_world.specs.Answers.{first_event_of, is_quiet, next_line}
use Rattle.event_world.specs.Events.{actor_of, event_of, pool_name}
use Rattle.event_world.specs.Mail.{Shared}
use Rattle.event_world.specs.World.{Situation, first_item, head_for}
use Rattle.event_world.specs.declared.event.Event.{Event}
use Rattle.event_world.specs.declared.event.Event.TheVariants.{In}
use Rattle.event_world.proofs.Named.{all_pool_of}
use Rattle.event_world.proofs.Reading.{none_waits}
use Rattle.event_machine.specs.Legal.{IsLegalEvent}

-- ---- what a filter gives

-- something that is given comes of an element
abbrev Comes : {X Y : Type 0} → (X → Option Y) → List X → Y → Type 0
Comes {X} {Y} h xs y = (k : ℕ) × (x : X) × (slice_get xs k ≡ Some x) × (h x ≡ Some y)

comes_of_more : {X Y : Type 0} (h : X → Option Y) (x : X) (xs : List X) (n : ℕ) (y : Y) (o : Option Y) → h x ≡ o → ((m : ℕ) → slice_get (filter_map h xs) m ≡ Some y → Comes h xs y) → slice_get (filter_map h (x ∷ xs)) n ≡ Some y → Comes h (x ∷ xs) y
comes_of_more h x xs n y None e rest at = let one = rest n (rw e at at) in (suc one.0, one.1, one.2, one.3)
comes_of_more {Y = Y} h x xs zero y (Some z) e rest at = let here : ◌≡◌ {A = Option Y} (Some z) (Some y) = rw e at at in (0, x, refl, e ∙ here)
comes_of_more h x xs (suc n) y (Some z) e rest at = let one = rest n (rw e at at) in (suc one.0, one.1, one.2, one.3)

comes_of : {X Y : Type 0} (h : X → Option Y) (xs : List X) (n : ℕ) (y : Y) → slice_get (filter_map h xs) n ≡ Some y → Comes h xs y
comes_of h [] n y at = absurd cc
comes_of h (x ∷ xs) n y at = comes_of_more h x xs n y (h x) refl (λ m there. comes_of h xs m y there) at

-- the first of those that pass a test is one of them all, and passes
first_passes : {X : Type 0} (p : X → Bool) (xs : List X) (x : X) → slice_get (filter p xs) 0 ≡ Some x → (n : ℕ) × (slice_get xs n ≡ Some x) × (p x ≡ true)
first_passes p [] x at = absurd cc
first_passes {X} p (y ∷ ys) x at = elim (cases_Bool (p y)) [
  | inl holds ↦ let here : ◌≡◌ {A = Option X} (Some y) (Some x) = rw holds at at in (0, here, ap p (sym (same_Some y x here)) ∙ holds)
  | inr fails ↦ let rest = first_passes p ys x (rw fails at at) in (suc rest.0, rest.1, rest.2)
]

-- what a change gives comes of something
changed_from : {X Y : Type 0} (f : X → Y) (o : Option X) (y : Y) → option_map f o ≡ Some y → (x : X) × (o ≡ Some x) × (f x ≡ y)
changed_from f None y e = absurd cc
changed_from f (Some x) y e = (x, refl, same_Some (f x) y e)

-- ---- the pool in which something waits

-- a pool that stands among those of a network is the one of its name
pool_at : (ports : List ℕ) (controllers hosts : ℕ) (pools : Named) (k : ℕ) (one : PoolName × Queue) → map (λ (pool : PoolName × Queue). pool.0) pools ≡ names ports controllers hosts → slice_get pools k ≡ Some one → pool_of one.0 pools ≡ Some one.1
pool_at ports controllers hosts pools k one all at = pool_there one.0 pools k one.1 at (λ j other there holds.
    let same : one.0 ≡ other.0 = same_name one.0 other.0 holds in
    (placed_at j other there) ∙ ap (place ports controllers) (sym same) ∙ sym (placed_at k one at)) where
      placed_at : (n : ℕ) (pool : PoolName × Queue) → slice_get pools n ≡ Some pool → n ≡ place ports controllers pool.0
      placed_at n pool there =
          (named ports controllers hosts n pool.0 (ap (λ (all : List PoolName). slice_get all n) (sym all) ∙ slice_get-map (λ (pool : PoolName × Queue). pool.0) pools n ∙ ap (option_map (λ (pool : PoolName × Queue). pool.0)) there)).1

-- where something waits there is a first item, and it has the number that is told
head_waits : (ports : List ℕ) (controllers hosts : ℕ) (shared : Shared) (n : ℕ) (one : PoolName × ℕ) → map (λ (pool : PoolName × Queue). pool.0) shared.pools ≡ names ports controllers hosts → slice_get (waiting shared.pools) n ≡ Some one
    → (item : Item) × (first_item one.0 shared ≡ Some (one.1, item))
head_waits ports controllers hosts shared n one all at =
    let from = comes_of (λ (pool : PoolName × Queue). option_map (λ (head : ℕ × Item). (pool.0, head.0)) (head_of pool.1)) shared.pools n one at in
    let found : PoolName × Queue = from.1 in
    let head = changed_from (λ (head : ℕ × Item). (found.0, head.0)) (head_of found.1) one from.3 in
    let there : first_item found.0 shared ≡ Some head.0 = ap (option_and_then head_of) (pool_at ports controllers hosts shared.pools from.0 found all from.2) ∙ head.1 in
    (head.0.1, subst (λ (x : PoolName × ℕ). first_item x.0 shared ≡ Some (x.1, head.0.1)) head.2 there)

-- ---- nothing waits

no_head : (first : ℕ) (items : List Item) (head : ℕ × Item) → items ≡ [] → head_of (record { first = first; items = items }) ≡ Some head → ⊥
no_head first [] head e at = none-some head at
no_head first (item ∷ rest) head e at = cc

-- where nothing waits no event has an item to take
quiet_head : (shared : Shared) (event : Event) (head : ℕ × Item) → IsQuiet shared.pools → head_for shared event ≡ Some head → ⊥
quiet_head shared event head quiet at = option_and_then_some (λ (name : PoolName). first_item name shared) (pool_name event) head at (λ name is there.
    option_and_then_some head_of (pool_of name shared.pools) head there (λ queue here first.
    no_head queue.first queue.items head (all_pool_of (λ (pool : PoolName × Queue). pool.1.items ≡ []) name shared.pools queue quiet here) first))

waits_by : (shared : Shared) (event : Event) (head : ℕ × Item) (found : Option (PoolName × ℕ)) → first_waiting shared.pools ≡ found → head_for shared event ≡ Some head → is_quiet shared.pools ≡ false
waits_by shared event head None e at = absurd (quiet_head shared event head (none_waits shared.pools e) at)
waits_by shared event head (Some one) e at = rw e refl

-- where an event has an item to take, something waits
pub head_is_waiting : (shared : Shared) (event : Event) (head : ℕ × Item) → head_for shared event ≡ Some head → is_quiet shared.pools ≡ false
head_is_waiting shared event head at = waits_by shared event head (first_waiting shared.pools) refl at

-- ---- the next line

-- what a test that fails lets through
let_through : {A : Type 0} (b : Bool) (x y : A) → ◌≡◌ {A = Option A} (if b then None else Some x) (Some y) → (b ≡ false) × (x ≡ y)
let_through true x y e = absurd (none-some y e)
let_through false x y e = (refl, same_Some x y e)

-- What it is that an event is the script's next line: the script has the line, which has not to wait, and the event is its input.
pub record IsDue (script : List Line) (shared : Shared) (event : Event) : Type 0 where
  pub line : Line
  pub there : slice_get script shared.inputs ≡ Some line
  pub ready : (line.after_quiet && not (is_quiet shared.pools)) ≡ false
  pub input : In shared.inputs ≡ event

due_by : (script : List Line) (shared : Shared) (event : Event) (found : Option Line) → slice_get script shared.inputs ≡ found → next_line script shared ≡ Some event → IsDue script shared event
due_by script shared event None e due = let never : ◌≡◌ {A = Option Event} None (Some event) = rw e at due in absurd (none-some event never)
due_by script shared event (Some line) e due =
    let parts = let_through (line.after_quiet && not (is_quiet shared.pools)) (In shared.inputs) event (rw e at due) in
    record { line = line; there = e; ready = parts.0; input = parts.1 }

pub is_due : (script : List Line) (shared : Shared) (event : Event) → next_line script shared ≡ Some event → IsDue script shared event
is_due script shared event due = due_by script shared event (slice_get script shared.inputs) refl due

-- ---- the first event of an actor

-- actors that are found to be the same are the same
same_actor : (a b : Actor) → is_same_actor a b ≡ true → a ≡ b
same_actor actor.Script actor.Script e = refl
same_actor (actor.Switch s) (actor.Switch t) e = ap actor.Switch (eqb-true s t e)
same_actor (actor.Controller c) (actor.Controller d) e = ap actor.Controller (eqb-true c d e)
same_actor (actor.Host h) (actor.Host i) e = ap actor.Host (eqb-true h i e)
same_actor _ _ e = absurd cc

actor_taking : (name : PoolName) (number : ℕ) → actor_of (event_of name number) ≡ taker name
actor_taking (pool.Ctl s) number = refl
actor_taking (pool.Pkt s p) number = refl
actor_taking (pool.Note s) number = refl
actor_taking (pool.App c s) number = refl
actor_taking (pool.Admin c) number = refl
actor_taking (pool.Recv h) number = refl

-- the first event of an actor that takes from pools
from_pools : (who : Actor) (pools : Named) (event : Event) → option_map (λ (one : PoolName × ℕ). event_of one.0 one.1) (first_waiting_for who pools) ≡ Some event
    → (n : ℕ) × (one : PoolName × ℕ) × (slice_get (waiting pools) n ≡ Some one) × (event_of one.0 one.1 ≡ event) × (is_same_actor (taker one.0) who ≡ true)
from_pools who pools event e =
    let first = changed_from (λ (one : PoolName × ℕ). event_of one.0 one.1) (first_waiting_for who pools) event e in
    let passes = first_passes (λ (one : PoolName × ℕ). is_same_actor (taker one.0) who) (waiting pools) first.0 first.1 in
    (passes.0, first.0, passes.1, first.2, passes.2)

of_pools : (who : Actor) (pools : Named) (event : Event) → option_map (λ (one : PoolName × ℕ). event_of one.0 one.1) (first_waiting_for who pools) ≡ Some event → actor_of event ≡ who
of_pools who pools event e =
    let from = from_pools who pools event e in
    ap actor_of (sym from.3) ∙ actor_taking from.1.0 from.1.1 ∙ same_actor (taker from.1.0) who from.4

module _ {C : Type 0} where
  -- The first event of an actor is one of its own.
  pub actor_of_first : (setup : Setup C) (world : Situation C) (who : Actor) (event : Event) → first_event_of setup world.shared who ≡ Some event → actor_of event ≡ who
  actor_of_first setup world actor.Script event e = ap actor_of (sym (is_due setup.script world.shared event e).input)
  actor_of_first setup world (actor.Switch s) event e = of_pools (actor.Switch s) world.shared.pools event e
  actor_of_first setup world (actor.Controller c) event e = of_pools (actor.Controller c) world.shared.pools event e
  actor_of_first setup world (actor.Host h) event e = of_pools (actor.Host h) world.shared.pools event e

  -- an event that takes the first item of a pool may stand next, with that item
  legal_taking : (setup : Setup C) (world : Situation C) (name : PoolName) (number : ℕ) (item : Item) → first_item name world.shared ≡ Some (number, item) → IsLegalEvent setup world (event_of name number) (Some item)
  legal_taking setup world (pool.Ctl s) number item at = (item, refl, at)
  legal_taking setup world (pool.Pkt s p) number item at = (item, refl, at)
  legal_taking setup world (pool.Note s) number item at = (item, refl, at)
  legal_taking setup world (pool.App c s) number item at = (item, refl, at)
  legal_taking setup world (pool.Admin c) number item at = (item, refl, at)
  legal_taking setup world (pool.Recv h) number item at = (item, refl, at)

  -- a world has the pools of its setup's network
  abbrev pub HasPools : Setup C → Situation C → Type 0
  HasPools setup world = map (λ (pool : PoolName × Queue). pool.0) world.shared.pools ≡ names setup.topology.ports (length setup.controllers) (length setup.topology.hosts)

  -- an event that takes what is told to wait may stand next
  pub legal_waiting : (setup : Setup C) (world : Situation C) (n : ℕ) (one : PoolName × ℕ) → HasPools setup world → slice_get (waiting world.shared.pools) n ≡ Some one → (item : Option Item) × IsLegalEvent setup world (event_of one.0 one.1) item
  legal_waiting setup world n one all at =
      let head = head_waits setup.topology.ports (length setup.controllers) (length setup.topology.hosts) world.shared n one all at in
      (Some head.0, legal_taking setup world one.0 one.1 head.0 head.1)

  -- the next line may stand next
  pub legal_line : (setup : Setup C) (world : Situation C) (event : Event) → next_line setup.script world.shared ≡ Some event → (item : Option Item) × IsLegalEvent setup world event item
  legal_line setup world event e =
      let due = is_due setup.script world.shared event e in
      (None, subst (λ (x : Event). IsLegalEvent setup world x None) due.input (e ∙ ap Some (sym due.input), refl))

  legal_pools : (setup : Setup C) (world : Situation C) (who : Actor) (event : Event) → HasPools setup world → option_map (λ (one : PoolName × ℕ). event_of one.0 one.1) (first_waiting_for who world.shared.pools) ≡ Some event
      → (item : Option Item) × IsLegalEvent setup world event item
  legal_pools setup world who event all e =
      let from = from_pools who world.shared.pools event e in
      subst (λ (x : Event). (item : Option Item) × IsLegalEvent setup world x item) from.3 (legal_waiting setup world from.0 from.1 all from.2)

  -- The first event of an actor may stand next.
  pub legal_first : (setup : Setup C) (world : Situation C) (who : Actor) (event : Event) → HasPools setup world → first_event_of setup world.shared who ≡ Some event → (item : Option Item) × IsLegalEvent setup world event item
  legal_first setup world actor.Script event all e = legal_line setup world event e
  legal_first setup world (actor.Switch s) event all e = legal_pools setup world (actor.Switch s) event all e
  legal_first setup world (actor.Controller c) event all e = legal_pools setup world (actor.Controller c) event all e
  legal_first setup world (actor.Host h) event all e = legal_pools setup world (actor.Host h) event all e
