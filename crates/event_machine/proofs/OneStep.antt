-- What one event makes of the state of one switch, and of one controller.
use Rattle.std.proofs.Common.{◌≡◌, ◌≢◌, ◌∙◌, ℕ, ◌<◌, ◌==◌, zero, suc, Bool, true, false, if◌then◌else◌, List, [], ◌∷◌, length, slice_get, slice_set, slice_index, Option, Some, None, option_map, ap, refl, subst, sym, arith}
use Rattle.std.specs.Prelude.{option_and_then}
use Rattle.std.specs.Option.{option_map_or}
use Rattle.std.proofs.lemmas.Bool.{eqb-true, eqb-false}
use Rattle.std.proofs.lemmas.List.{length-set}
use Rattle.std.proofs.lemmas.Option.{same_Some}
use Rattle.listed.specs.Lists.{changed_at, length_changed, set_changed}
use Rattle.controller_api.specs.Reaction.{Reaction}
use Rattle.controller_api.specs.declared.item.UpItem.{UpItem}
use Rattle.machine_setup.specs.declared.script.Line.{Line}
use Rattle.machine_setup.specs.declared.setup.Setup.{Setup}
use Rattle.message_pools.specs.declared.item.Item.{Item}
use Rattle.pool_book.specs.Names.{is_same_actor, taker}
use Rattle.pool_book.specs.declared.actor.Actor.{Actor}
use Rattle.pool_book.specs.declared.actor.Actor.TheVariants.{Controller, Switch}
use Rattle.pool_book.specs.declared.name.PoolName.{PoolName}
use Rattle.pool_book.specs.declared.name.PoolName.TheVariants as pool
use Rattle.switch_core.specs.State.{fresh}
use Rattle.switch_core.specs.declared.state.State.{State}
use Rattle.topology.specs.declared.network.Topology.{Topology}
use Rattle.event_world.specs.Events.{actor_of, pool_name}
use Rattle.event_world.specs.Inputs.{fails}
use Rattle.event_world.specs.World.{Situation, acted, at_controller, at_switch, by_controller, by_switch, heard_by, next, switch_step, taken, with_item, with_line}
use Rattle.event_world.specs.declared.event.Event.{Event}
use Rattle.event_world.specs.declared.event.Event.TheVariants.{In, Ctl, Pkt, Note, App, Admin, Recv}
use Rattle.event_machine.specs.Actors.{lost_at}
use Rattle.event_machine.specs.Legal.{TakesHead}

-- ---- a list after a change at one place

-- where nothing stands nothing changes
changed_none : {A : Type 0} (xs : List A) (n : ℕ) (f : A → A) → slice_get xs n ≡ None → changed_at n f xs ≡ xs
changed_none [] n f e = refl
changed_none (x ∷ xs) zero f e = absurd cc
changed_none (x ∷ xs) (suc n) f e = ap (λ ys. x ∷ ys) (changed_none xs n f e)

-- writing a change of what is found changes the list there
found_changed : {A : Type 0} (xs : List A) (n : ℕ) (f : A → A) (found : Option A) → slice_get xs n ≡ found → option_map_or (λ x. slice_set xs n (f x)) found xs ≡ changed_at n f xs
found_changed xs n f None e = sym (changed_none xs n f e)
found_changed xs n f (Some x) e = set_changed xs n f x (f x) e refl

-- writing is a change
set_is_change : {A : Type 0} (xs : List A) (n : ℕ) (x : A) → slice_set xs n x ≡ changed_at n (λ y. x) xs
set_is_change [] n x = refl
set_is_change (y ∷ ys) zero x = refl
set_is_change (y ∷ ys) (suc n) x = ap (λ zs. y ∷ zs) (set_is_change ys n x)

-- what stands at the place is changed
get_there : {A : Type 0} (xs : List A) (n : ℕ) (f : A → A) (x : A) → slice_get xs n ≡ Some x → slice_get (changed_at n f xs) n ≡ Some (f x)
get_there [] n f x e = absurd cc
get_there (y ∷ ys) zero f x e = ap (λ z. Some (f z)) (same_Some y x e)
get_there (y ∷ ys) (suc n) f x e = get_there ys n f x e

-- what stands elsewhere is as it was
get_elsewhere : {A : Type 0} (xs : List A) (n k : ℕ) (f : A → A) → k ≢ n → slice_get (changed_at n f xs) k ≡ slice_get xs k
get_elsewhere [] n k f apart = refl
get_elsewhere (x ∷ xs) zero zero f apart = absurd (apart refl)
get_elsewhere (x ∷ xs) zero (suc k) f apart = refl
get_elsewhere (x ∷ xs) (suc n) zero f apart = refl
get_elsewhere (x ∷ xs) (suc n) (suc k) f apart = get_elsewhere xs n k f (λ e. apart (ap suc e))

-- what stands at a place is changed if the place is that of the change
get_after_change : {A : Type 0} (xs : List A) (n k : ℕ) (f : A → A) (x : A) (same : Bool) → (k == n) ≡ same → slice_get xs k ≡ Some x → slice_get (changed_at n f xs) k ≡ Some (if same then f x else x)
get_after_change xs n k f x true e here =
    let equal : k ≡ n = eqb-true k n e in
    subst (λ (m : ℕ). slice_get (changed_at m f xs) k ≡ Some (f x)) equal (get_there xs k f x here)
get_after_change xs n k f x false e here = get_elsewhere xs n k f (eqb-false k n e) ∙ here

-- what is written is there
set_there : {A : Type 0} (xs : List A) (n : ℕ) (x : A) → n < length xs → slice_get (slice_set xs n x) n ≡ Some x
set_there [] n x below = absurd (omega arith)
set_there (y ∷ ys) zero x below = refl
set_there (y ∷ ys) (suc n) x below = set_there ys n x (omega arith)

-- ---- what an actor takes

-- the item that an event takes and its pool, if it is the actor that takes it
abbrev pub taken_at : Actor → Event → Option Item → Option (PoolName × Item)
taken_at who event item = if is_same_actor who (actor_of event) then option_and_then (λ name. option_map (λ item. (name, item)) item) (pool_name event) else None

-- an actor that takes the item of a pool comes to what it makes of it, and another stays as it is
taken_or_not : {S : Type 0} (step : S → PoolName × Item → S) (state : S) (name : PoolName) (item : Option Item) (first : Item) (own : Bool) → item ≡ Some first → (if own then step state (name, first) else state) ≡ option_map_or (step state) (if own then option_map (λ item. (name, item)) item else None) state
taken_or_not step state name item first true e = rw e refl
taken_or_not step state name item first false e = refl

-- what a switch makes of an item
abbrev pub switch_after : State → PoolName × Item → State
switch_after state one = (switch_step state one.0 one.1).state

module _ {C : Type 0} (react : C → UpItem → Reaction C) where
  -- what a controller makes of an item
  abbrev pub controller_after : C → PoolName × Item → C
  controller_after state one = option_map_or (λ item. (react state item).state) (heard_by one.0 one.1) state

  -- ---- all switches and all controllers after a step

  -- a step of a switch changes that switch
  switches_after_switch : (topology : Topology) (name : PoolName) (it : Item) (s : ℕ) (world : Situation C) → (at_switch react topology name it s world).switches ≡ changed_at s (λ state. switch_after state (name, it)) world.switches
  switches_after_switch topology name it s world =
      found (slice_get world.switches s) ∙ found_changed world.switches s (λ state. switch_after state (name, it)) (slice_get world.switches s) refl where
        found : (state : Option State) → (option_map_or (λ state. by_switch react topology s (switch_step state name it) world) state world).switches ≡ option_map_or (λ state. slice_set world.switches s (switch_step state name it).state) state world.switches
        found None = refl
        found (Some state) = refl

  -- and no controller
  controllers_after_switch : (topology : Topology) (name : PoolName) (it : Item) (s : ℕ) (world : Situation C) → (at_switch react topology name it s world).controllers ≡ world.controllers
  controllers_after_switch topology name it s world = found (slice_get world.switches s) where
    found : (state : Option State) → (option_map_or (λ state. by_switch react topology s (switch_step state name it) world) state world).controllers ≡ world.controllers
    found None = refl
    found (Some state) = refl

  -- a reaction of a controller changes that controller
  controllers_after_news : (topology : Topology) (item : Option UpItem) (c : ℕ) (world : Situation C) → (at_controller react topology item c world).controllers ≡ option_map_or (λ item. changed_at c (λ state. (react state item).state) world.controllers) item world.controllers
  controllers_after_news topology None c world = refl
  controllers_after_news topology (Some item) c world =
      found (slice_get world.controllers c) ∙ found_changed world.controllers c (λ state. (react state item).state) (slice_get world.controllers c) refl where
        found : (state : Option C) → (option_map_or (λ state. by_controller react topology c (react state item) world) state world).controllers ≡ option_map_or (λ state. slice_set world.controllers c (react state item).state) state world.controllers
        found None = refl
        found (Some state) = refl

  -- and no switch
  switches_after_news : (topology : Topology) (item : Option UpItem) (c : ℕ) (world : Situation C) → (at_controller react topology item c world).switches ≡ world.switches
  switches_after_news topology None c world = refl
  switches_after_news topology (Some item) c world = found (slice_get world.controllers c) where
    found : (state : Option C) → (option_map_or (λ state. by_controller react topology c (react state item) world) state world).switches ≡ world.switches
    found None = refl
    found (Some state) = refl

  -- ---- one of them after an item was taken

  -- a switch after a switch took its step
  one_switch : (topology : Topology) (name : PoolName) (it : Item) (t : ℕ) (world : Situation C) (s : ℕ) (state : State) → slice_get world.switches s ≡ Some state → slice_get (at_switch react topology name it t world).switches s ≡ Some (if s == t then switch_after state (name, it) else state)
  one_switch topology name it t world s state here =
      ap (λ (all : List State). slice_get all s) (switches_after_switch topology name it t world)
      ∙ get_after_change world.switches t s (λ state. switch_after state (name, it)) state (s == t) refl here

  -- a controller after a controller heard something
  one_controller : (topology : Topology) (name : PoolName) (it : Item) (d : ℕ) (world : Situation C) (c : ℕ) (state : C) → slice_get world.controllers c ≡ Some state → slice_get (at_controller react topology (heard_by name it) d world).controllers c ≡ Some (if c == d then controller_after state (name, it) else state)
  one_controller topology name it d world c state here =
      ap (λ (all : List C). slice_get all c) (controllers_after_news topology (heard_by name it) d world) ∙ of_news (heard_by name it) (c == d) refl where
        of_news : (item : Option UpItem) (same : Bool) → (c == d) ≡ same
            → slice_get (option_map_or (λ item. changed_at d (λ state. (react state item).state) world.controllers) item world.controllers) c ≡ Some (if same then option_map_or (λ item. (react state item).state) item state else state)
        of_news None true e = here
        of_news None false e = here
        of_news (Some item) same e = get_after_change world.controllers d c (λ state. (react state item).state) state same e here

  -- the first item of a pool is taken: a switch
  switch_acted : (topology : Topology) (name : PoolName) (it : Item) (world : Situation C) (s : ℕ) (state : State) → slice_get world.switches s ≡ Some state → slice_get (acted react topology name it world).switches s ≡ Some (if is_same_actor (Switch s) (taker name) then switch_after state (name, it) else state)
  switch_acted topology (pool.Ctl t) it world s state here = one_switch topology (pool.Ctl t) it t world s state here
  switch_acted topology (pool.Pkt t p) it world s state here = one_switch topology (pool.Pkt t p) it t world s state here
  switch_acted topology (pool.Note t) it world s state here = one_switch topology (pool.Note t) it t world s state here
  switch_acted topology (pool.App c t) it world s state here = ap (λ (all : List State). slice_get all s) (switches_after_news topology (heard_by (pool.App c t) it) c world) ∙ here
  switch_acted topology (pool.Admin c) it world s state here = ap (λ (all : List State). slice_get all s) (switches_after_news topology (heard_by (pool.Admin c) it) c world) ∙ here
  switch_acted topology (pool.Recv h) it world s state here = here

  -- a controller
  controller_acted : (topology : Topology) (name : PoolName) (it : Item) (world : Situation C) (c : ℕ) (state : C) → slice_get world.controllers c ≡ Some state → slice_get (acted react topology name it world).controllers c ≡ Some (if is_same_actor (Controller c) (taker name) then controller_after state (name, it) else state)
  controller_acted topology (pool.Ctl t) it world c state here = ap (λ (all : List C). slice_get all c) (controllers_after_switch topology (pool.Ctl t) it t world) ∙ here
  controller_acted topology (pool.Pkt t p) it world c state here = ap (λ (all : List C). slice_get all c) (controllers_after_switch topology (pool.Pkt t p) it t world) ∙ here
  controller_acted topology (pool.Note t) it world c state here = ap (λ (all : List C). slice_get all c) (controllers_after_switch topology (pool.Note t) it t world) ∙ here
  controller_acted topology (pool.App d t) it world c state here = one_controller topology (pool.App d t) it d world c state here
  controller_acted topology (pool.Admin d) it world c state here = one_controller topology (pool.Admin d) it d world c state here
  controller_acted topology (pool.Recv h) it world c state here = here

  -- all switches are there still
  count_acted : (topology : Topology) (name : PoolName) (it : Item) (world : Situation C) → length (acted react topology name it world).switches ≡ length world.switches
  count_acted topology (pool.Ctl t) it world = ap length (switches_after_switch topology (pool.Ctl t) it t world) ∙ length_changed t (λ state. switch_after state (pool.Ctl t, it)) world.switches
  count_acted topology (pool.Pkt t p) it world = ap length (switches_after_switch topology (pool.Pkt t p) it t world) ∙ length_changed t (λ state. switch_after state (pool.Pkt t p, it)) world.switches
  count_acted topology (pool.Note t) it world = ap length (switches_after_switch topology (pool.Note t) it t world) ∙ length_changed t (λ state. switch_after state (pool.Note t, it)) world.switches
  count_acted topology (pool.App c t) it world = ap length (switches_after_news topology (heard_by (pool.App c t) it) c world)
  count_acted topology (pool.Admin c) it world = ap length (switches_after_news topology (heard_by (pool.Admin c) it) c world)
  count_acted topology (pool.Recv h) it world = refl

  -- ---- one of them after an event

  -- an item is taken from its pool: a switch
  switch_item : (topology : Topology) (name : PoolName) (head : Option (ℕ × Item)) (number : ℕ) (first : Item) (item : Option Item) (world : Situation C) (s : ℕ) (state : State) → item ≡ Some first → head ≡ Some (number, first) → slice_get world.switches s ≡ Some state
      → slice_get (with_item react topology name head world).switches s ≡ Some (option_map_or (switch_after state) (if is_same_actor (Switch s) (taker name) then option_map (λ item. (name, item)) item else None) state)
  switch_item topology name head number first item world s state is at here =
      ap (λ (head : Option (ℕ × Item)). slice_get (with_item react topology name head world).switches s) at
      ∙ switch_acted topology name first (record world { shared = taken name world.shared }) s state here
      ∙ ap Some (taken_or_not switch_after state name item first (is_same_actor (Switch s) (taker name)) is)

  -- a controller
  controller_item : (topology : Topology) (name : PoolName) (head : Option (ℕ × Item)) (number : ℕ) (first : Item) (item : Option Item) (world : Situation C) (c : ℕ) (state : C) → item ≡ Some first → head ≡ Some (number, first) → slice_get world.controllers c ≡ Some state
      → slice_get (with_item react topology name head world).controllers c ≡ Some (option_map_or (controller_after state) (if is_same_actor (Controller c) (taker name) then option_map (λ item. (name, item)) item else None) state)
  controller_item topology name head number first item world c state is at here =
      ap (λ (head : Option (ℕ × Item)). slice_get (with_item react topology name head world).controllers c) at
      ∙ controller_acted topology name first (record world { shared = taken name world.shared }) c state here
      ∙ ap Some (taken_or_not controller_after state name item first (is_same_actor (Controller c) (taker name)) is)

  -- all switches are there still
  count_item : (topology : Topology) (name : PoolName) (head : Option (ℕ × Item)) (world : Situation C) → length (with_item react topology name head world).switches ≡ length world.switches
  count_item topology name None world = refl
  count_item topology name (Some head) world = count_acted topology name head.1 (record world { shared = taken name world.shared })

  -- a line of the script leaves a switch as it is, unless the switch fails by it
  switch_line : (topology : Topology) (line : Option Line) (world : Situation C) (s : ℕ) (state : State) → (option_and_then (λ line. fails world.shared.status line.input) line ≢ Some s) → slice_get world.switches s ≡ Some state → slice_get (with_line react topology line world).switches s ≡ Some state
  switch_line topology None world s state stays here = here
  switch_line topology (Some line) world s state stays here = of_failed (fails world.shared.status line.input) stays where
    of_failed : (failed : Option ℕ) → failed ≢ Some s → slice_get (option_map_or (λ t. slice_set world.switches t (fresh t (slice_index topology.ports t))) failed world.switches) s ≡ Some state
    of_failed None apart = here
    of_failed (Some t) apart =
        ap (λ (all : List State). slice_get all s) (set_is_change world.switches t (fresh t (slice_index topology.ports t)))
        ∙ get_elsewhere world.switches t s (λ state. fresh t (slice_index topology.ports t)) (λ e. apart (ap Some (sym e))) ∙ here

  -- a switch that fails by it is a fresh one
  switch_fresh : (topology : Topology) (line : Option Line) (world : Situation C) (s : ℕ) → option_and_then (λ line. fails world.shared.status line.input) line ≡ Some s → s < length world.switches → slice_get (with_line react topology line world).switches s ≡ Some (fresh s (slice_index topology.ports s))
  switch_fresh topology None world s lost below = absurd cc
  switch_fresh topology (Some line) world s lost below =
      ap (λ (failed : Option ℕ). slice_get (option_map_or (λ t. slice_set world.switches t (fresh t (slice_index topology.ports t))) failed world.switches) s) lost
      ∙ set_there world.switches s (fresh s (slice_index topology.ports s)) below

  -- a line leaves the controllers as they are
  controllers_line : (topology : Topology) (line : Option Line) (world : Situation C) → (with_line react topology line world).controllers ≡ world.controllers
  controllers_line topology None world = refl
  controllers_line topology (Some line) world = refl

  -- and all switches are there still
  count_line : (topology : Topology) (line : Option Line) (world : Situation C) → length (with_line react topology line world).switches ≡ length world.switches
  count_line topology None world = refl
  count_line topology (Some line) world = of_failed (fails world.shared.status line.input) where
    of_failed : (failed : Option ℕ) → length (option_map_or (λ t. slice_set world.switches t (fresh t (slice_index topology.ports t))) failed world.switches) ≡ length world.switches
    of_failed None = refl
    of_failed (Some t) = length-set world.switches t (fresh t (slice_index topology.ports t))

  -- A switch that does not lose its state comes to what the item makes of it, if it is the one that takes it.
  pub switch_next : (setup : Setup C) (world : Situation C) (event : Event) (item : Option Item) (s : ℕ) (state : State) → TakesHead world.shared event item → lost_at setup world event ≢ Some s → slice_get world.switches s ≡ Some state
      → slice_get (next react setup world event).switches s ≡ Some (option_map_or (switch_after state) (taken_at (Switch s) event item) state)
  switch_next setup world (In position) item s state takes stays here = switch_line setup.topology (slice_get setup.script position) world s state stays here
  switch_next setup world (Ctl t n) item s state takes stays here = switch_item setup.topology (pool.Ctl t) _ n takes.0 item world s state takes.1 takes.2 here
  switch_next setup world (Pkt t p n) item s state takes stays here = switch_item setup.topology (pool.Pkt t p) _ n takes.0 item world s state takes.1 takes.2 here
  switch_next setup world (Note t n) item s state takes stays here = switch_item setup.topology (pool.Note t) _ n takes.0 item world s state takes.1 takes.2 here
  switch_next setup world (App c t n) item s state takes stays here = switch_item setup.topology (pool.App c t) _ n takes.0 item world s state takes.1 takes.2 here
  switch_next setup world (Admin c n) item s state takes stays here = switch_item setup.topology (pool.Admin c) _ n takes.0 item world s state takes.1 takes.2 here
  switch_next setup world (Recv h n) item s state takes stays here = switch_item setup.topology (pool.Recv h) _ n takes.0 item world s state takes.1 takes.2 here

  -- A switch that loses its state is a fresh one.
  pub switch_lost : (setup : Setup C) (world : Situation C) (event : Event) (s : ℕ) → lost_at setup world event ≡ Some s → s < length world.switches → slice_get (next react setup world event).switches s ≡ Some (fresh s (slice_index setup.topology.ports s))
  switch_lost setup world (In position) s lost below = switch_fresh setup.topology (slice_get setup.script position) world s lost below
  switch_lost setup world _ s lost below = absurd cc

  -- A controller comes to what the item makes of it, if it is the one that takes it.
  pub controller_next : (setup : Setup C) (world : Situation C) (event : Event) (item : Option Item) (c : ℕ) (state : C) → TakesHead world.shared event item → slice_get world.controllers c ≡ Some state
      → slice_get (next react setup world event).controllers c ≡ Some (option_map_or (controller_after state) (taken_at (Controller c) event item) state)
  controller_next setup world (In position) item c state takes here = ap (λ (all : List C). slice_get all c) (controllers_line setup.topology (slice_get setup.script position) world) ∙ here
  controller_next setup world (Ctl t n) item c state takes here = controller_item setup.topology (pool.Ctl t) _ n takes.0 item world c state takes.1 takes.2 here
  controller_next setup world (Pkt t p n) item c state takes here = controller_item setup.topology (pool.Pkt t p) _ n takes.0 item world c state takes.1 takes.2 here
  controller_next setup world (Note t n) item c state takes here = controller_item setup.topology (pool.Note t) _ n takes.0 item world c state takes.1 takes.2 here
  controller_next setup world (App d t n) item c state takes here = controller_item setup.topology (pool.App d t) _ n takes.0 item world c state takes.1 takes.2 here
  controller_next setup world (Admin d n) item c state takes here = controller_item setup.topology (pool.Admin d) _ n takes.0 item world c state takes.1 takes.2 here
  controller_next setup world (Recv h n) item c state takes here = controller_item setup.topology (pool.Recv h) _ n takes.0 item world c state takes.1 takes.2 here

  -- All switches are there still.
  pub count_next : (setup : Setup C) (world : Situation C) (event : Event) → length (next react setup world event).switches ≡ length world.switches
  count_next setup world (In position) = count_line setup.topology (slice_get setup.script position) world
  count_next setup world (Ctl t n) = count_item setup.topology (pool.Ctl t) _ world
  count_next setup world (Pkt t p n) = count_item setup.topology (pool.Pkt t p) _ world
  count_next setup world (Note t n) = count_item setup.topology (pool.Note t) _ world
  count_next setup world (App c t n) = count_item setup.topology (pool.App c t) _ world
  count_next setup world (Admin c n) = count_item setup.topology (pool.Admin c) _ world
  count_next setup world (Recv h n) = count_item setup.topology (pool.Recv h) _ world
