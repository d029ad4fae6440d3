-- What an entry that may stand next holds.
use Rattle.std.proofs.Common.{◌≡◌, ◌∙◌, ℕ, ◌+◌, ◌-◌, ◌*◌, ◌<◌, ◌≤◌, ◌^◌, List, [], ◌∷◌, ◌++◌, length, Option, Some, None, All, ap, arith, refl, subst, sym}
use Rattle.std.specs.Prelude.{option_and_then}
use Rattle.std.specs.List.{Contains}
use Rattle.std.proofs.lemmas.List.Elements.{All-contains_itself, All-head, All-push}
use Rattle.std.proofs.lemmas.Option.{none-some, option_and_then_some, same_Some, slice_get_within}
use Rattle.controller_api.specs.Reaction.{Reaction}
use Rattle.controller_api.specs.declared.item.UpItem.{UpItem}
use Rattle.listed.specs.Lists.{all_unmapped}
use Rattle.machine_setup.specs.Setup.{IsValidSetup}
use Rattle.machine_setup.specs.declared.setup.Setup.{Setup}
use Rattle.message_pools.specs.Queue.{Queue, head_of, next_number}
use Rattle.message_pools.specs.declared.item.Item.{Item}
use Rattle.pool_book.specs.Names.{names}
use Rattle.pool_book.specs.Pools.{pool_of}
use Rattle.pool_book.specs.declared.name.PoolName.{PoolName}
use Rattle.pool_book.specs.declared.name.PoolName.TheVariants as pool
use Rattle.event_world.specs.Answers.{IsInputEvent}
use Rattle.event_world.specs.Events.{number_of, pool_name}
use Rattle.event_world.specs.Fits.{Fits, IsItemOf, IsPool}
use Rattle.event_world.specs.World.{Situation, first_item}
use Rattle.event_world.specs.declared.event.Event.{Event}
use Rattle.event_world.specs.declared.event.Event.TheVariants.{In, Ctl, Pkt, Note, App, Admin, Recv}
use Rattle.event_world.proofs.Named.{all_pool_of}
use Rattle.event_machine.specs.Holding.{IsEntryOf, IsSomeItemOf}
use Rattle.event_machine.specs.Legal.{IsHead, IsLegalEvent, world_before}
use Rattle.event_machine.specs.declared.trace.Entry.{Entry}
use Rattle.event_machine.proofs.FirstEvents.{is_due}
use Rattle.run_recorder.specs.Recording.{Begun, IsBegun}

-- the first item of a queue is one of its items, and has the queue's first number
head_is : (first : ℕ) (items : List Item) (head : ℕ × Item) → head_of (record { first = first; items = items }) ≡ Some head
    → (rest : List Item) × (items ≡ head.1 ∷ rest) × (first ≡ head.0)
head_is first [] head e = absurd (none-some head e)
head_is first (item ∷ rest) head e =
    let same : (first, item) ≡ head = same_Some (first, item) head e in
    (rest, ap (λ (h : ℕ × Item). h.1 ∷ rest) same, ap (λ (h : ℕ × Item). h.0) same)

-- an item that is there may wait
some_item : (ports : List ℕ) (name : PoolName) (item : Item) (taken : Option Item) → taken ≡ Some item → IsItemOf ports name item → IsSomeItemOf ports name taken
some_item ports name item taken is of = subst (IsSomeItemOf ports name) (sym is) of

module _ {C : Type 0} where
  -- What it is that an event took this item, of this number, from this pool.
  abbrev IsTakenOf : Setup C → PoolName → ℕ → Item → Type 0
  IsTakenOf setup name number item =
      Contains (names setup.topology.ports (length setup.controllers) (length setup.topology.hosts)) name × IsItemOf setup.topology.ports name item × (number < 2 ^ 63)

  -- The first item of a pool of a world is of the pool's kind, and its number is small where few events happened.
  first_of_pool : (policies : C → ℕ) (setup : Setup C) (world : Situation C) (name : PoolName) (number : ℕ) (item : Item) (queue : Queue)
      → Fits policies setup world → world.shared.events < 2 ^ 30 → pool_of name world.shared.pools ≡ Some queue → head_of queue ≡ Some (number, item)
      → IsTakenOf setup name number item
  first_of_pool policies setup world name number item queue fits few at head =
      let all : List PoolName = names setup.topology.ports (length setup.controllers) (length setup.topology.hosts) in
      let named : All (λ (pool : PoolName × Queue). Contains all pool.0) world.shared.pools =
      all_unmapped (Contains all) (λ (pool : PoolName × Queue). pool.0) world.shared.pools
      (subst (λ (xs : List PoolName). All (Contains all) xs) (sym fits.shared.names) (All-contains_itself all)) in
      let here : IsPool setup.topology.ports world.shared.status world.shared.events (name, queue) =
      all_pool_of (IsPool setup.topology.ports world.shared.status world.shared.events) name world.shared.pools queue fits.shared.pools at in
      let first = head_is queue.first queue.items (number, item) head in
      let items : All (IsItemOf setup.topology.ports name) (item ∷ first.0) = subst (All (IsItemOf setup.topology.ports name)) first.1 here.items in
      let numbers : next_number queue ≤ 1 + world.shared.events * (2 ^ 32 - 1) = here.numbers in
      let is : queue.first ≡ number = first.2 in (
        all_pool_of (λ (pool : PoolName × Queue). Contains all pool.0) name world.shared.pools queue named at,
        All-head (IsItemOf setup.topology.ports name) item first.0 items,
        omega arith,
      )

  -- an entry of an event that took the first item of a pool
  taken_holds : (policies : C → ℕ) (setup : Setup C) (world : Situation C) (entry : Entry) (name : PoolName)
      → Fits policies setup world → world.shared.events < 2 ^ 30 → pool_name entry.event ≡ Some name → ¬ IsInputEvent entry.event
      → IsHead world.shared entry.event entry.item → IsEntryOf setup entry
  taken_holds policies setup world entry name fits few from internal head =
      let at : first_item name world.shared ≡ Some (number_of entry.event, head.0) =
      ap (λ (pool : Option PoolName). option_and_then (λ name. first_item name world.shared) pool) (sym from) ∙ head.2 in
      let taken : IsTakenOf setup name (number_of entry.event) head.0 =
      option_and_then_some head_of (pool_of name world.shared.pools) (number_of entry.event, head.0) at
      (λ queue there first. first_of_pool policies setup world name (number_of entry.event) head.0 queue fits few there first) in
      record {
        line = λ input. absurd (internal input);
        pool = λ other is.
            let same : name ≡ other = same_Some name other (sym from ∙ is) in
            subst (λ (n : PoolName). Contains (names setup.topology.ports (length setup.controllers) (length setup.topology.hosts)) n × IsSomeItemOf setup.topology.ports n entry.item) same
            (taken.0, some_item setup.topology.ports name head.0 entry.item head.1 taken.1);
        number = taken.2;
      }

  -- an entry of the script's next line
  line_holds : (setup : Setup C) (world : Situation C) (entry : Entry) (position : ℕ)
      → IsValidSetup setup → entry.event ≡ In position → IsLegalEvent setup world (In position) entry.item → IsEntryOf setup entry
  line_holds setup world entry position valid is legal =
      let due = is_due setup.script world.shared (In position) legal.0 in
      let here : world.shared.inputs ≡ position = ap number_of due.input in
      let within = slice_get_within setup.script world.shared.inputs due.line due.there in
      let short : length setup.script ≤ 256 = valid.lines in
      let below : number_of entry.event < length setup.script = subst (λ (event : Event). number_of event < length setup.script) (sym is) (omega arith) in
      record {
        line = λ input. (legal.1, below);
        pool = λ name from. let never : None ≡ Some name = ap pool_name (sym is) ∙ from in absurd (none-some name never);
        number = omega arith;
      }

  -- An entry that may stand next, in a world that fits its setup and in which few events happened, is one that a run can have.
  pub may_hold : (policies : C → ℕ) (setup : Setup C) (world : Situation C) (worker number : ℕ) (event : Event) (item : Option Item)
      → IsValidSetup setup → Fits policies setup world → world.shared.events < 2 ^ 30 → IsLegalEvent setup world event item
      → IsEntryOf setup (record { worker = worker; number = number; event = event; item = item })
  may_hold policies setup world worker number (In position) item valid fits few legal =
      line_holds setup world (record { worker = worker; number = number; event = In position; item = item }) position valid refl legal
  may_hold policies setup world worker number (Ctl s n) item valid fits few legal =
      taken_holds policies setup world (record { worker = worker; number = number; event = Ctl s n; item = item }) (pool.Ctl s) fits few refl (λ input. input) legal
  may_hold policies setup world worker number (Pkt s p n) item valid fits few legal =
      taken_holds policies setup world (record { worker = worker; number = number; event = Pkt s p n; item = item }) (pool.Pkt s p) fits few refl (λ input. input) legal
  may_hold policies setup world worker number (Note s n) item valid fits few legal =
      taken_holds policies setup world (record { worker = worker; number = number; event = Note s n; item = item }) (pool.Note s) fits few refl (λ input. input) legal
  may_hold policies setup world worker number (App c s n) item valid fits few legal =
      taken_holds policies setup world (record { worker = worker; number = number; event = App c s n; item = item }) (pool.App c s) fits few refl (λ input. input) legal
  may_hold policies setup world worker number (Admin c n) item valid fits few legal =
      taken_holds policies setup world (record { worker = worker; number = number; event = Admin c n; item = item }) (pool.Admin c) fits few refl (λ input. input) legal
  may_hold policies setup world worker number (Recv h n) item valid fits few legal =
      taken_holds policies setup world (record { worker = worker; number = number; event = Recv h n; item = item }) (pool.Recv h) fits few refl (λ input. input) legal

  module _ (react : C → UpItem → Reaction C) (first : C → C) where
    -- the events of a world are as many as the entries that led to it
    abbrev pub EventsOn : Type 0
    EventsOn = (setup : Setup C) (entries : List Entry) → (world_before react first setup entries (length entries)).shared.events ≡ length entries

    -- The entries of a beginning of a run, with one more that may stand next, are entries that a run can have.
    pub holding_on : (policies : C → ℕ) (begun : Begun C) (entry : Entry) → EventsOn → IsBegun react first policies begun
        → IsLegalEvent begun.setup begun.world entry.event entry.item → All (IsEntryOf begun.setup) (begun.entries ++ entry ∷ [])
    holding_on policies begun entry events_on known legal =
        let count : begun.world.shared.events ≡ length begun.entries = ap (λ (w : Situation C). w.shared.events) known.comes_to ∙ events_on begun.setup begun.entries in
        let some : length begun.entries ≤ begun.setup.limits.max_events = known.few in
        let most : begun.setup.limits.max_events ≤ 16384 = known.valid.bounds.max_events.1 in
        let few : begun.world.shared.events < 2 ^ 30 = omega arith in
        All-push (IsEntryOf begun.setup) begun.entries entry known.holding
        (may_hold policies begun.setup begun.world entry.worker entry.number entry.event entry.item known.valid known.fits few legal)
