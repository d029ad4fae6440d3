-- The events that a replay takes are enabled.
use Rattle.std.proofs.Common.{◌≡◌, ℕ, ◌<◌, length, Option, Some, None, option_map, ap, arith, subst, sym, refl}
use Rattle.std.proofs.lemmas.Option.{same_Some, slice_get_within}
use Rattle.machine_setup.specs.declared.setup.Setup.{Setup}
use Rattle.message_pools.specs.declared.item.Item.{Item}
use Rattle.pool_book.specs.Pools.{first_waiting}
use Rattle.pool_book.specs.declared.name.PoolName.{PoolName}
use Rattle.pool_book.specs.declared.name.PoolName.TheVariants as pool
use Rattle.event_world.specs.Answers.{IsInputEvent}
use Rattle.event_world.specs.Events.{event_of, input_count, number_of}
use Rattle.event_world.specs.Fits.{Fits}
use Rattle.event_world.specs.World.{IsEnabled, Situation, first_event, first_item}
use Rattle.event_world.specs.declared.event.Event.{Event}
use Rattle.event_world.specs.declared.event.Event.TheVariants.{In}
use Rattle.event_machine.specs.Legal.{IsLegalEvent}
use Rattle.event_machine.specs.declared.trace.Entry.{Entry}
use Rattle.event_machine.proofs.FirstEvents.{HasPools, is_due, legal_waiting}
use Rattle.causal_replay.specs.Replay.{IsExpected}

module _ {C : Type 0} where
  -- an internal event that can happen
  pub record IsInternal (setup : Setup C) (world : Situation C) (event : Event) : Type 0 where
    pub enabled : IsEnabled setup world event
    pub no_input : ¬ IsInputEvent event
    pub counts : input_count event ≡ 0

  -- an event that takes from a pool can happen where it may stand next
  by_name : (setup : Setup C) (world : Situation C) (name : PoolName) (number : ℕ) (item : Option Item) → IsLegalEvent setup world (event_of name number) item → IsInternal setup world (event_of name number)
  by_name setup world (pool.Ctl s) number item (head, is, at) = record { enabled = ap (option_map (λ (head : ℕ × Item). head.0)) at; no_input = λ no. no; counts = refl }
  by_name setup world (pool.Pkt s p) number item (head, is, at) = record { enabled = ap (option_map (λ (head : ℕ × Item). head.0)) at; no_input = λ no. no; counts = refl }
  by_name setup world (pool.Note s) number item (head, is, at) = record { enabled = ap (option_map (λ (head : ℕ × Item). head.0)) at; no_input = λ no. no; counts = refl }
  by_name setup world (pool.App c s) number item (head, is, at) = record { enabled = ap (option_map (λ (head : ℕ × Item). head.0)) at; no_input = λ no. no; counts = refl }
  by_name setup world (pool.Admin c) number item (head, is, at) = record { enabled = ap (option_map (λ (head : ℕ × Item). head.0)) at; no_input = λ no. no; counts = refl }
  by_name setup world (pool.Recv h) number item (head, is, at) = record { enabled = ap (option_map (λ (head : ℕ × Item). head.0)) at; no_input = λ no. no; counts = refl }

  first_by : (setup : Setup C) (world : Situation C) (event : Event) (found : Option (PoolName × ℕ)) → first_waiting world.shared.pools ≡ found → HasPools setup world
      → option_map (λ (one : PoolName × ℕ). event_of one.0 one.1) found ≡ Some event → IsInternal setup world event
  first_by setup world event None e all is = absurd cc
  first_by setup world event (Some one) e all is =
      let legal = legal_waiting setup world 0 one all e in
      subst (IsInternal setup world) (same_Some (event_of one.0 one.1) event is) (by_name setup world one.0 one.1 legal.0 legal.1)

  -- where a world has the pools of its network, the first event in their order can happen
  pub first_internal : (setup : Setup C) (world : Situation C) (event : Event) → HasPools setup world → first_event world.shared ≡ Some event → IsInternal setup world event
  first_internal setup world event all is = first_by setup world event (first_waiting world.shared.pools) refl all is

  -- the first event in the order of pools can happen
  pub first_enabled : (policies : C → ℕ) (setup : Setup C) (world : Situation C) (event : Event) → Fits policies setup world → first_event world.shared ≡ Some event → IsInternal setup world event
  first_enabled policies setup world event fits is = first_internal setup world event fits.shared.names is

  expected_by : (setup : Setup C) (world : Situation C) (name : PoolName) (number : ℕ) (item : Item) → first_item name world.shared ≡ Some (number, item) → IsInternal setup world (event_of name number)
  expected_by setup world (pool.Ctl s) number item at = by_name setup world (pool.Ctl s) number (Some item) (item, refl, at)
  expected_by setup world (pool.Pkt s p) number item at = by_name setup world (pool.Pkt s p) number (Some item) (item, refl, at)
  expected_by setup world (pool.Note s) number item at = by_name setup world (pool.Note s) number (Some item) (item, refl, at)
  expected_by setup world (pool.App c s) number item at = by_name setup world (pool.App c s) number (Some item) (item, refl, at)
  expected_by setup world (pool.Admin c) number item at = by_name setup world (pool.Admin c) number (Some item) (item, refl, at)
  expected_by setup world (pool.Recv h) number item at = by_name setup world (pool.Recv h) number (Some item) (item, refl, at)

  -- so can an expected event
  pub expected_enabled : (setup : Setup C) (world : Situation C) (entry : Entry) (event : Event) → IsExpected world.shared entry event → IsInternal setup world event
  expected_enabled setup world entry event known = subst (IsInternal setup world) (sym known.event_is) (expected_by setup world known.name known.number known.head known.first)

  -- an input that may stand next has the position of the next line, which the script has
  pub line_of_input : (setup : Setup C) (world : Situation C) (position : ℕ) (item : Option Item) → IsLegalEvent setup world (In position) item → (position ≡ world.shared.inputs) × (position < length setup.script)
  line_of_input setup world position item legal =
      let due = is_due setup.script world.shared (In position) legal.0 in
      let below = slice_get_within setup.script world.shared.inputs due.line due.there in
      let same : world.shared.inputs ≡ position = ap number_of due.input in
      (sym same, omega arith)
