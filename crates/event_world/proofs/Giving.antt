-- What a controller hears and comes to, what an input does, and which event is enabled.
use Rattle.std.proofs.Common.{◌≡◌, ◌∙◌, ℕ, ◌+◌, ◌<◌, ◌≤◌, ◌^◌, List, [], ◌∷◌, length, slice_get, slice_set, slice_index, Option, Some, None, option_map, Result, Ok, Err, ap, arith, refl, subst, sym, zero, suc}
use Rattle.std.specs.Prelude.{IsSome, OnOk, option_and_then}
use Rattle.std.specs.Option.{option_map_or}
use Rattle.std.proofs.lemmas.Option.{same_Some}
use Rattle.controller_api.specs.Reaction.{AreValidMessages, CountsPolicies, IsValidUpItem, Reaction}
use Rattle.controller_api.specs.declared.item.UpItem.{UpItem}
use Rattle.controller_api.specs.declared.item.UpItem.TheVariants as heard
use Rattle.machine_setup.specs.declared.script.Input.{Input}
use Rattle.machine_setup.specs.declared.setup.Setup.{Setup}
use Rattle.listed.specs.Lists.{changed_at}
use Rattle.message_pools.specs.Queue.{rest_of}
use Rattle.message_pools.specs.declared.item.Item.{Item}
use Rattle.message_pools.specs.declared.item.Item.TheVariants as item
use Rattle.of10_messages.specs.declared.message.Message.{Message}
use Rattle.pool_book.specs.Names.{taker}
use Rattle.pool_book.specs.Pools.{Named, changed}
use Rattle.pool_book.specs.declared.actor.Actor.TheVariants.{Controller}
use Rattle.pool_book.specs.declared.name.PoolName.{PoolName}
use Rattle.pool_book.specs.declared.name.PoolName.TheVariants.{Ctl, Pkt, Note, App, Admin, Recv}
use Rattle.switch_core.specs.declared.state.State.{State}
use Rattle.topology.specs.declared.network.Topology.{Topology}
use Rattle.topology.specs.declared.status.Status.{Status}
use Rattle.event_world.specs.Answers.{IsInputEvent}
use Rattle.event_world.specs.Events.{input_count, number_of, pool_name}
use Rattle.event_world.specs.Fits.{Fits, IsItemOf, IsShared}
use Rattle.event_world.specs.Inputs.{effect}
use Rattle.event_world.specs.Mail.{Mail, Shared, mail_down}
use Rattle.event_world.specs.Room.{CanNumber}
use Rattle.event_world.specs.World.{IsEnabled, Situation, acted, at_controller, by_controller, counted_world, delivered, first_item, happened, heard_by, news_at, received_by, taken, with_item, with_line}
use Rattle.event_world.specs.declared.effect.Effect.{Effect}
use Rattle.event_world.specs.declared.event.Event.{Event}
use Rattle.event_world.specs.declared.event.Event.TheVariants as event
use Rattle.event_world.proofs.Delivered.{can_number}
use Rattle.event_world.proofs.Fitting.{fits_by_controller, fits_by_host}
use Rattle.event_world.proofs.InputsFit.{effect_few}
use Rattle.event_world.proofs.Lists.{some_is}
use Rattle.event_world.proofs.Sent.{length_down}
use Rattle.event_world.proofs.Within.{IsNameIn, item_kind, name_in_range}

-- what follows of what holds on success holds on success
pub on_ok : {T E P Q : Type 0} (r : Result T E) → OnOk r P → (P → Q) → OnOk r Q
on_ok (Ok x) p follows = follows p
on_ok (Err e) p follows = tt

-- ---- what a controller hears

-- What a controller hears at the first item of a pool: the item, what it is to the controller, and that the controller is there.
pub record Hears (controllers c : ℕ) (name : PoolName) (shared : Shared) : Type 0 where
  pub number : ℕ
  pub what : Item
  pub news : UpItem
  pub first : first_item name shared ≡ Some (number, what)
  pub hears : heard_by name what ≡ Some news
  pub valid : IsValidUpItem news
  pub own : taker name ≡ Controller c
  pub there : c < controllers

-- an item of a controller's pool is one that it can hear
hears_first : (topology : Topology) (controllers c number : ℕ) (name : PoolName) (it : Item) (shared : Shared) → taker name ≡ Controller c → IsItemOf topology.ports name it → IsNameIn (length topology.ports) controllers (length topology.hosts) name → first_item name shared ≡ Some (number, it) → Hears controllers c name shared
hears_first topology controllers c number (App d s) (item.Message message) shared own kind within first =
    let same : d ≡ c = cc in
    record { number = number; what = item.Message message; news = heard.FromSwitch s message; first = first; hears = refl; valid = kind; own = own; there = subst (λ (n : ℕ). n < controllers) same within.0 }
hears_first topology controllers c number (App d s) item.Gone shared own kind within first =
    let same : d ≡ c = cc in
    record { number = number; what = item.Gone; news = heard.Gone s; first = first; hears = refl; valid = tt; own = own; there = subst (λ (n : ℕ). n < controllers) same within.0 }
hears_first topology controllers c number (Admin d) (item.Policy deny) shared own kind within first =
    let same : d ≡ c = cc in
    record { number = number; what = item.Policy deny; news = heard.Policy deny; first = first; hears = refl; valid = kind; own = own; there = subst (λ (n : ℕ). n < controllers) same within }
hears_first topology controllers c number (App d s) _ shared own kind within first = absurd kind
hears_first topology controllers c number (Admin d) _ shared own kind within first = absurd kind
hears_first topology controllers c number _ it shared own kind within first = absurd cc

-- a controller hears the first item of a pool of its own
pub hears : (topology : Topology) (controllers c : ℕ) (name : PoolName) (shared : Shared) → IsShared topology controllers shared → taker name ≡ Controller c → IsSome (first_item name shared) → Hears controllers c name shared
hears topology controllers c name shared fits own some =
    let head = some_is (first_item name shared) some in
    hears_first topology controllers c head.0.0 name head.0.1 shared own (item_kind topology controllers name head.0.0 head.0.1 shared fits head.1) (name_in_range topology controllers name head.0.0 head.0.1 shared fits head.1) head.1

-- what it hears
pub news_heard : (controllers c : ℕ) (name : PoolName) (shared : Shared) (h : Hears controllers c name shared) → news_at name shared ≡ Some h.news
news_heard controllers c name shared h = ap (λ (head : Option (ℕ × Item)). option_and_then (λ (head : ℕ × Item). heard_by name head.1) head) h.first ∙ h.hears

pub is_some_news : (controllers c : ℕ) (name : PoolName) (shared : Shared) → Hears controllers c name shared → IsSome (news_at name shared)
is_some_news controllers c name shared h = rw (news_heard controllers c name shared h) refl

-- what was heard is that
pub same_news : (controllers c : ℕ) (name : PoolName) (shared : Shared) (h : Hears controllers c name shared) (news : UpItem) → news_at name shared ≡ Some news → h.news ≡ news
same_news controllers c name shared h news e = same_Some h.news news (sym (news_heard controllers c name shared h) ∙ e)

-- a controller has few policies
pub few_policies : (kept waiting inputs : ℕ) → kept + waiting ≤ inputs → inputs ≤ 4294 → kept < 2 ^ 24
few_policies kept waiting inputs some few = omega arith

module _ {C : Type 0} (react : C → UpItem → Reaction C) where
  -- the pool's actor is the controller
  acted_controller : (topology : Topology) (name : PoolName) (it : Item) (c : ℕ) (world : Situation C) → taker name ≡ Controller c → acted react topology name it world ≡ at_controller react topology (heard_by name it) c world
  acted_controller topology (App d s) it c world own = let same : d ≡ c = cc in ap (λ (n : ℕ). at_controller react topology (heard_by (App d s) it) n world) same
  acted_controller topology (Admin d) it c world own = let same : d ≡ c = cc in ap (λ (n : ℕ). at_controller react topology (heard_by (Admin d) it) n world) same
  acted_controller topology _ it c world own = absurd cc

  -- what the item does, where the controller reacts
  with_heard : (topology : Topology) (controllers c : ℕ) (name : PoolName) (state : C) (world : Situation C) (h : Hears controllers c name world.shared) → slice_get world.controllers c ≡ Some state → with_item react topology name (first_item name world.shared) world ≡ by_controller react topology c (react state h.news) (record world { shared = taken name world.shared })
  with_heard topology controllers c name state world h at =
      let after : Situation C = record world { shared = taken name world.shared } in
      ap (λ (head : Option (ℕ × Item)). with_item react topology name head world) h.first
      ∙ acted_controller topology name h.what c after h.own
      ∙ ap (λ (news : Option UpItem). at_controller react topology news c after) h.hears
      ∙ ap (λ (found : Option C). option_map_or (λ (state : C). by_controller react topology c (react state h.news) after) found after) at

  -- what was done is what the item does
  pub heard_is : (topology : Topology) (controllers c : ℕ) (name : PoolName) (state : C) (news : UpItem) (world : Situation C) (shared : Shared) (states : List C) (h : Hears controllers c name world.shared) → news_at name world.shared ≡ Some news → slice_get world.controllers c ≡ Some state
      → shared ≡ delivered (mail_down topology world.shared.status c (react state news).sent) (taken name world.shared) → states ≡ slice_set world.controllers c (react state news).state
      → ◌≡◌ {A = Situation C} (record { shared = shared; switches = world.switches; controllers = states }) (with_item react topology name (first_item name world.shared) world)
  heard_is topology controllers c name state news world shared states h is at sent written =
      ap (λ (shared : Shared). record { shared = shared; switches = world.switches; controllers = states }) sent
      ∙ ap (λ (states : List C). record { shared = delivered (mail_down topology world.shared.status c (react state news).sent) (taken name world.shared); switches = world.switches; controllers = states }) written
      ∙ ap (λ (news : UpItem). by_controller react topology c (react state news) (record world { shared = taken name world.shared })) (sym (same_news controllers c name world.shared h news is))
      ∙ sym (with_heard topology controllers c name state world h at)

  -- the same of a world that was read
  pub heard_was : (topology : Topology) (controllers c : ℕ) (name : PoolName) (state : C) (news : UpItem) (world inside : Situation C) (shared : Shared) (states : List C) → inside ≡ world → (h : Hears controllers c name world.shared) → news_at name world.shared ≡ Some news → slice_get world.controllers c ≡ Some state
      → shared ≡ delivered (mail_down topology inside.shared.status c (react state news).sent) (taken name inside.shared) → states ≡ slice_set inside.controllers c (react state news).state
      → ◌≡◌ {A = Situation C} (record { shared = shared; switches = inside.switches; controllers = states }) (with_item react topology name (first_item name world.shared) world)
  heard_was topology controllers c name state news world inside shared states same h is at sent written =
      ap (λ (switches : List State). record { shared = shared; switches = switches; controllers = states }) (ap (λ (w : Situation C). w.switches) same)
      ∙ heard_is topology controllers c name state news world shared states h is at
      (sent ∙ ap (λ (w : Situation C). delivered (mail_down topology w.shared.status c (react state news).sent) (taken name w.shared)) same)
      (written ∙ ap (λ (w : Situation C). slice_set w.controllers c (react state news).state) same)

  -- and the world still fits
  pub fits_heard : (policies : C → ℕ) (setup : Setup C) (c : ℕ) (name : PoolName) (state : C) (news : UpItem) (world after : Situation C) (h : Hears (length setup.controllers) c name world.shared) → Fits policies setup world → news_at name world.shared ≡ Some news → slice_get world.controllers c ≡ Some state
      → AreValidMessages (react state news).sent → length (react state news).sent < 2 ^ 32 → CountsPolicies news (policies state) (policies (react state news).state)
      → after ≡ with_item react setup.topology name (first_item name world.shared) world → Fits policies setup (counted_world 0 after)
  fits_heard policies setup c name state news world after h fits is at valid few counts done =
      let same = same_news (length setup.controllers) c name world.shared h news is in
      subst (λ (world : Situation C). Fits policies setup (counted_world 0 world)) (sym (done ∙ with_heard setup.topology (length setup.controllers) c name state world h at))
      (fits_by_controller policies react setup name c h.number h.what h.news state (react state h.news) world fits h.own h.first h.hears at
      (subst (λ (news : UpItem). AreValidMessages (react state news).sent) (sym same) valid)
      (subst (λ (news : UpItem). length (react state news).sent < 2 ^ 32) (sym same) few)
      (subst (λ (news : UpItem). CountsPolicies news (policies state) (policies (react state news).state)) (sym same) counts))

  -- ---- hosts

  host_takes : (topology : Topology) (h : ℕ) (world : Situation C) → IsSome (first_item (Recv h) world.shared) → with_item react topology (Recv h) (first_item (Recv h) world.shared) world ≡ record world { shared = received_by h (taken (Recv h) world.shared) }
  host_takes topology h world some = let head = some_is (first_item (Recv h) world.shared) some in ap (λ (head : Option (ℕ × Item)). with_item react topology (Recv h) head world) head.1

  -- what was done is what the packet does
  pub host_was : (topology : Topology) (h : ℕ) (world inside : Situation C) (pools : Named) (received : List ℕ) → inside ≡ world → IsSome (first_item (Recv h) world.shared) → pools ≡ changed (Recv h) rest_of inside.shared.pools → received ≡ changed_at h (λ count. count + 1) inside.shared.received
      → ◌≡◌ {A = Situation C} (record inside { shared = record inside.shared { pools = pools; received = received } }) (with_item react topology (Recv h) (first_item (Recv h) world.shared) world)
  host_was topology h world inside pools received same some rest more =
      ap (λ (pools : Named). record inside { shared = record inside.shared { pools = pools; received = received } }) rest
      ∙ ap (λ (received : List ℕ). record inside { shared = record inside.shared { pools = changed (Recv h) rest_of inside.shared.pools; received = received } }) more
      ∙ ap (λ (w : Situation C). record w { shared = received_by h (taken (Recv h) w.shared) }) same
      ∙ sym (host_takes topology h world some)

  -- and the world still fits
  pub fits_host : (policies : C → ℕ) (setup : Setup C) (h : ℕ) (world after : Situation C) → Fits policies setup world → IsSome (first_item (Recv h) world.shared) → after ≡ with_item react setup.topology (Recv h) (first_item (Recv h) world.shared) world → Fits policies setup (counted_world 0 after)
  fits_host policies setup h world after fits some done =
      subst (λ (world : Situation C). Fits policies setup (counted_world 0 world)) (sym (done ∙ host_takes setup.topology h world some)) (fits_by_host policies setup h world fits)

  -- ---- events

  -- an internal event does what the first item of its pool does
  pub item_happened : (setup : Setup C) (event : Event) (name : PoolName) (world : Situation C) → pool_name event ≡ Some name → with_item react setup.topology name (first_item name world.shared) world ≡ happened react setup world event
  item_happened setup (event.In position) name world e = absurd cc
  item_happened setup (event.Ctl s it) name world e = ap (λ (n : PoolName). with_item react setup.topology n (first_item n world.shared) world) (sym (same_Some (Ctl s) name e))
  item_happened setup (event.Pkt s p it) name world e = ap (λ (n : PoolName). with_item react setup.topology n (first_item n world.shared) world) (sym (same_Some (Pkt s p) name e))
  item_happened setup (event.Note s it) name world e = ap (λ (n : PoolName). with_item react setup.topology n (first_item n world.shared) world) (sym (same_Some (Note s) name e))
  item_happened setup (event.App c s it) name world e = ap (λ (n : PoolName). with_item react setup.topology n (first_item n world.shared) world) (sym (same_Some (App c s) name e))
  item_happened setup (event.Admin c it) name world e = ap (λ (n : PoolName). with_item react setup.topology n (first_item n world.shared) world) (sym (same_Some (Admin c) name e))
  item_happened setup (event.Recv h it) name world e = ap (λ (n : PoolName). with_item react setup.topology n (first_item n world.shared) world) (sym (same_Some (Recv h) name e))

  -- an input does what the script's line says
  pub line_happened : (setup : Setup C) (event : Event) (world : Situation C) → pool_name event ≡ None → with_line react setup.topology (slice_get setup.script (number_of event)) world ≡ happened react setup world event
  line_happened setup (event.In position) world e = refl
  line_happened setup _ world e = absurd cc

-- an event that takes from a pool is no input, and one that takes from none is
pub no_inputs : (event : Event) (name : PoolName) → pool_name event ≡ Some name → input_count event ≡ 0
no_inputs (event.In position) name e = absurd cc
no_inputs _ name e = refl

pub one_input : (event : Event) → pool_name event ≡ None → input_count event ≡ 1
one_input (event.In position) e = refl
one_input _ e = absurd cc

pub is_input : (event : Event) → pool_name event ≡ None → IsInputEvent event
is_input (event.In position) e = tt
is_input _ e = absurd cc

head_is_some : (head : Option (ℕ × Item)) (number : ℕ) → option_map (λ (head : ℕ × Item). head.0) head ≡ Some number → IsSome head
head_is_some None number e = absurd cc
head_is_some (Some head) number e = refl

module _ {C : Type 0} where
  -- the pool of an internal event that is enabled has an item
  pub enabled_head : (setup : Setup C) (world : Situation C) (event : Event) (name : PoolName) → IsEnabled setup world event → pool_name event ≡ Some name → IsSome (first_item name world.shared)
  enabled_head setup world (event.In position) name enabled e = absurd cc
  enabled_head setup world (event.Ctl s it) name enabled e = subst (λ (n : PoolName). IsSome (first_item n world.shared)) (same_Some (Ctl s) name e) (head_is_some (first_item (Ctl s) world.shared) it enabled)
  enabled_head setup world (event.Pkt s p it) name enabled e = subst (λ (n : PoolName). IsSome (first_item n world.shared)) (same_Some (Pkt s p) name e) (head_is_some (first_item (Pkt s p) world.shared) it enabled)
  enabled_head setup world (event.Note s it) name enabled e = subst (λ (n : PoolName). IsSome (first_item n world.shared)) (same_Some (Note s) name e) (head_is_some (first_item (Note s) world.shared) it enabled)
  enabled_head setup world (event.App c s it) name enabled e = subst (λ (n : PoolName). IsSome (first_item n world.shared)) (same_Some (App c s) name e) (head_is_some (first_item (App c s) world.shared) it enabled)
  enabled_head setup world (event.Admin c it) name enabled e = subst (λ (n : PoolName). IsSome (first_item n world.shared)) (same_Some (Admin c) name e) (head_is_some (first_item (Admin c) world.shared) it enabled)
  enabled_head setup world (event.Recv h it) name enabled e = subst (λ (n : PoolName). IsSome (first_item n world.shared)) (same_Some (Recv h) name e) (head_is_some (first_item (Recv h) world.shared) it enabled)

  -- the script has the line of an input that is enabled
  pub enabled_line : (setup : Setup C) (world : Situation C) (event : Event) → IsEnabled setup world event → pool_name event ≡ None → number_of event < length setup.script
  enabled_line setup world (event.In position) enabled e = enabled
  enabled_line setup world _ enabled e = absurd cc

-- ---- inputs

-- what stands where a world was read stands there in the world
pub number_within : {A : Type 0} (xs : List A) (n most : ℕ) → n < most → length xs ≡ most → n < length xs
number_within xs n most within same = omega arith

-- an input brings no more than the pools can number
pub input_numbers : (topology : Topology) (controllers : ℕ) (input : Input) (change : Effect) (shared : Shared) → IsShared topology controllers shared → shared.events < 2 ^ 31 → ((s : ℕ) → slice_index topology.ports s ≤ 48) → change ≡ effect topology shared.status input → CanNumber (length change.mail) shared.pools
input_numbers topology controllers input change shared fits events few is =
    can_number topology controllers (length change.mail) shared fits events (subst (λ (change : Effect). length change.mail < 2 ^ 32) (sym is) (effect_few topology shared.status input fits.status few))

-- and what a controller sends brings no more either
pub sent_numbers : (topology : Topology) (controllers c : ℕ) (status : Status) (sent : List (ℕ × Message)) (mail : Mail) (shared : Shared) → IsShared topology controllers shared → shared.events < 2 ^ 31 → length sent < 2 ^ 32 → mail ≡ mail_down topology status c sent → CanNumber (length mail) shared.pools
sent_numbers topology controllers c status sent mail shared fits events few is =
    can_number topology controllers (length mail) shared fits events (subst (λ (mail : Mail). length mail < 2 ^ 32) (sym is) (let less = length_down topology status c sent in omega arith))

-- a host that has a packet is there
pub host_there : (topology : Topology) (controllers h : ℕ) (shared : Shared) → IsShared topology controllers shared → IsSome (first_item (Recv h) shared) → h < length shared.received
host_there topology controllers h shared fits some =
    let head = some_is (first_item (Recv h) shared) some in
    number_within shared.received h (length topology.hosts) (name_in_range topology controllers (Recv h) head.0.0 head.0.1 shared fits head.1) fits.received

-- and its count is not full
pub host_counts : (topology : Topology) (controllers h : ℕ) (shared : Shared) → IsShared topology controllers shared → shared.events < 2 ^ 31 → IsSome (first_item (Recv h) shared) → slice_index shared.received h + 1 < 2 ^ 64
host_counts topology controllers h shared fits events some = let few = fits.counts h 0 (host_there topology controllers h shared fits some) in omega arith

-- one more where a number stood is a change there
one_more : (xs : List ℕ) (n : ℕ) → n < length xs → slice_set xs n (slice_index xs n + 1) ≡ changed_at n (λ count. count + 1) xs
one_more [] n within = absurd (omega arith)
one_more (x ∷ xs) zero within = refl
one_more (x ∷ xs) (suc n) within = ap (λ (ys : List ℕ). x ∷ ys) (one_more xs n (omega arith))

-- the same where the number was read
pub counted_one : (xs ys after : List ℕ) (h at : ℕ) → ys ≡ xs → at ≡ h → h < length xs → after ≡ slice_set xs at (slice_index ys at + 1) → after ≡ changed_at h (λ count. count + 1) xs
counted_one xs ys after h at same here within is =
    is ∙ ap (λ (ys : List ℕ). slice_set xs at (slice_index ys at + 1)) same ∙ ap (λ (n : ℕ). slice_set xs n (slice_index xs n + 1)) here ∙ one_more xs h within
