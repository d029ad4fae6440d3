-- How the beginning of a run goes on by an entry that may stand next.
use Rattle.std.proofs.Common.{◌≡◌, ◌≢◌, ◌∙◌, ℕ, ◌+◌, ◌<◌, ◌≤◌, List, [], ◌∷◌, ◌++◌, length, length-append, Option, option_map, ap, arith, inr, refl, subst, sym}
use Rattle.std.proofs.lemmas.List.Elements.{All-push}
use Rattle.controller_api.specs.Reaction.{Reaction}
use Rattle.controller_api.specs.declared.item.UpItem.{UpItem}
use Rattle.machine_setup.specs.declared.setup.Setup.{Setup}
use Rattle.message_pools.specs.declared.item.Item.{Item}
use Rattle.event_world.specs.Events.{actor_of}
use Rattle.event_world.specs.Fits.{Fits}
use Rattle.event_world.specs.Mail.{Shared}
use Rattle.event_world.specs.World.{Situation, next}
use Rattle.event_world.specs.declared.event.Event.{Event}
use Rattle.event_world.specs.declared.event.Event.TheVariants.{In, Ctl, Pkt, Note, App, Admin, Recv}
use Rattle.event_machine.specs.Legal.{IsHead, IsLegalEvent, IsLegalIn, IsNextOfWorker, IsSoundTo, world_before}
use Rattle.event_machine.specs.declared.trace.Entry.{Entry}
use Rattle.run_recorder.specs.Recording.{Begun, IsBegun, IsComplete, IsDealt, MayStand, item_for, world_at}
use Rattle.run_recorder.specs.Workers.{worker_of}
use Rattle.run_recorder.proofs.Holding.{EventsOn, holding_on}

-- an event that takes the first item of its pool takes what stands first there
takes_first : (shared : Shared) (event : Event) (item : Option Item) → IsHead shared event item → IsHead shared event (item_for shared event)
takes_first shared event item (first, is, at) = (first, ap (option_map (λ (head : ℕ × Item). head.1)) at, at)

module _ {C : Type 0} where
  -- an event that is legal with some item may stand next
  pub may_stand : (setup : Setup C) (world : Situation C) (event : Event) (item : Option Item) → IsLegalEvent setup world event item → MayStand setup world event
  may_stand setup world (In position) item legal = (legal.0, refl)
  may_stand setup world (Ctl s n) item legal = takes_first world.shared (Ctl s n) item legal
  may_stand setup world (Pkt s p n) item legal = takes_first world.shared (Pkt s p n) item legal
  may_stand setup world (Note s n) item legal = takes_first world.shared (Note s n) item legal
  may_stand setup world (App c s n) item legal = takes_first world.shared (App c s n) item legal
  may_stand setup world (Admin c n) item legal = takes_first world.shared (Admin c n) item legal
  may_stand setup world (Recv h n) item legal = takes_first world.shared (Recv h n) item legal

  -- A recording in which each entry is of the worker that has its actor stays so by an entry of that worker.
  pub dealt_on : (old new : Begun C) (workers : ℕ) (entry : Entry) → IsDealt old.setup workers old.entries
      → entry.worker ≡ worker_of old.setup workers (actor_of entry.event) → new.setup ≡ old.setup → new.entries ≡ old.entries ++ entry ∷ []
      → IsDealt new.setup workers new.entries
  dealt_on old new workers entry dealt own setup entries =
      subst (λ (s : Setup C). IsDealt s workers new.entries) (sym setup)
      (subst (λ (all : List Entry). IsDealt old.setup workers all) (sym entries)
      (All-push (λ (entry : Entry). entry.worker ≡ worker_of old.setup workers (actor_of entry.event)) old.entries entry dealt own))

  module _ (react : C → UpItem → Reaction C) (first : C → C) (policies : C → ℕ) where
    -- where a beginning is not complete there is room for an entry
    pub has_room : (setup : Setup C) (entries : List Entry) → length entries ≤ setup.limits.max_events → ¬ IsComplete react first setup entries → length entries < setup.limits.max_events
    has_room setup entries few undone =
        let apart : length entries ≢ setup.limits.max_events = λ full. undone (inr full) in
        omega arith

    -- a history that is sound stays so by an entry that may stand next
    abbrev pub SoundOn : Type 0
    SoundOn = (setup : Setup C) (entries : List Entry) (entry : Entry)
        → IsSoundTo react first setup entries (length entries)
        → IsLegalIn setup (world_before react first setup entries (length entries)) (length entries) entry
        → IsNextOfWorker entries (length entries) entry
        → IsSoundTo react first setup (entries ++ entry ∷ []) (length (entries ++ entry ∷ []))

    -- and comes to the next world
    abbrev pub WorldOn : Type 0
    WorldOn = (setup : Setup C) (entries : List Entry) (entry : Entry)
        → world_before react first setup (entries ++ entry ∷ []) (length (entries ++ entry ∷ []))
        ≡ next react setup (world_before react first setup entries (length entries)) entry.event

    -- The beginning of a run goes on by an entry that may stand next.
    pub begun_on : (setup : Setup C) (entries : List Entry) (world new : Situation C) (entry : Entry)
        → SoundOn → WorldOn → EventsOn react first
        → IsBegun react first policies (record { setup = setup; entries = entries; world = world })
        → ¬ IsComplete react first setup entries → IsLegalEvent setup world entry.event entry.item → IsNextOfWorker entries (length entries) entry
        → new ≡ next react setup world entry.event → Fits policies setup new
        → IsBegun react first policies (record { setup = setup; entries = entries ++ entry ∷ []; world = new })
    begun_on setup entries world new entry sound_on world_on events_on begun undone legal number now fits =
        let room = has_room setup entries begun.few undone in
        let longer : length (entries ++ entry ∷ []) ≡ length entries + 1 = length-append entries (entry ∷ []) in
        let there : IsLegalEvent setup (world_at react first setup entries) entry.event entry.item = subst (λ (w : Situation C). IsLegalEvent setup w entry.event entry.item) begun.comes_to legal in
        record {
          valid = begun.valid;
          comes_to = now ∙ ap (λ (w : Situation C). next react setup w entry.event) begun.comes_to ∙ sym (world_on setup entries entry);
          fits = fits;
          sound = sound_on setup entries entry begun.sound (room, there) number;
          few = omega arith;
          holding = holding_on react first policies (record { setup = setup; entries = entries; world = world }) entry events_on begun legal;
        }
