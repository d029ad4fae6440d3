-- A complete history does not go on.
use Rattle.std.proofs.Common.{◌≡◌, ◌∙◌, true, List, length, map, take, slice_get, Option, Some, ap, arith, inl, inr, subst, sym}
use Rattle.std.specs.Prelude.{is_none}
use Rattle.std.proofs.lemmas.List.{take-append-le}
use Rattle.std.proofs.lemmas.Option.{slice_get_within}
use mathlib.Core.List.{IsPrefix}
use Rattle.controller_api.specs.Reaction.{Reaction}
use Rattle.controller_api.specs.declared.item.UpItem.{UpItem}
use Rattle.machine_setup.specs.declared.setup.Setup.{Setup}
use Rattle.message_pools.specs.declared.item.Item.{Item}
use Rattle.pool_book.specs.Pools.{IsQuiet}
use Rattle.turn_book.proofs.Begins.{get_below}
use Rattle.event_world.specs.Answers.{is_quiet}
use Rattle.event_world.specs.Mail.{Shared}
use Rattle.event_world.specs.World.{Situation, after_all}
use Rattle.event_world.specs.declared.event.Event.{Event}
use Rattle.event_world.specs.declared.event.Event.TheVariants.{In, Ctl, Pkt, Note, App, Admin, Recv}
use Rattle.event_world.proofs.Reading.{quiet_none}
use Rattle.event_machine.specs.Legal.{IsDone, IsHead, IsLegalEvent, IsSoundTo, world_before}
use Rattle.event_machine.specs.declared.trace.Entry.{Entry}
use Rattle.event_machine.proofs.FirstEvents.{head_is_waiting, is_due}
use Rattle.run_recorder.specs.Recording.{IsComplete, world_at}

-- where nothing waits no event takes an item
nothing_to_take : (shared : Shared) (event : Event) (item : Option Item) → IsQuiet shared.pools → ¬ IsHead shared event item
nothing_to_take shared event item quiet (first, is, at) =
    let waits = head_is_waiting shared event _ at in
    let still : is_quiet shared.pools ≡ true = ap is_none (quiet_none shared.pools quiet) in
    cc

module _ {C : Type 0} where
  -- where all is done no event may stand next
  nothing_stands : (setup : Setup C) (world : Situation C) (event : Event) (item : Option Item) → IsDone setup world → ¬ IsLegalEvent setup world event item
  nothing_stands setup world (In position) item done legal =
      let due = is_due setup.script world.shared (In position) legal.0 in
      let within = slice_get_within setup.script world.shared.inputs due.line due.there in
      omega (arith, done.0)
  nothing_stands setup world (Ctl s n) item done legal = nothing_to_take world.shared (Ctl s n) item done.1 legal
  nothing_stands setup world (Pkt s p n) item done legal = nothing_to_take world.shared (Pkt s p n) item done.1 legal
  nothing_stands setup world (Note s n) item done legal = nothing_to_take world.shared (Note s n) item done.1 legal
  nothing_stands setup world (App c s n) item done legal = nothing_to_take world.shared (App c s n) item done.1 legal
  nothing_stands setup world (Admin c n) item done legal = nothing_to_take world.shared (Admin c n) item done.1 legal
  nothing_stands setup world (Recv h n) item done legal = nothing_to_take world.shared (Recv h n) item done.1 legal

  -- in a sound history a beginning after which an entry comes is not complete
  pub goes_on : (react : C → UpItem → Reaction C) (first : C → C) (setup : Setup C) (beginning entries : List Entry) (entry : Entry)
      → IsSoundTo react first setup entries (length entries) → IsPrefix beginning entries → slice_get entries (length beginning) ≡ Some entry
      → ¬ IsComplete react first setup beginning
  goes_on react first setup beginning entries entry sound begins there complete =
      let legal = (sound (length beginning) entry (get_below entries (length beginning) entry there) there).0 in
      let fronts : take (length beginning) entries ≡ take (length beginning) beginning =
      ap (λ (list : List Entry). take (length beginning) list) (sym begins.1) ∙ take-append-le (length beginning) beginning begins.0 (omega arith) in
      let worlds : world_before react first setup entries (length beginning) ≡ world_at react first setup beginning =
      ap (λ (front : List Entry). after_all react first setup (map (λ (entry : Entry). entry.event) front)) fronts in
      elim complete [
        | inl done ↦ nothing_stands setup (world_at react first setup beginning) entry.event entry.item done
            (subst (λ (w : Situation C). IsLegalEvent setup w entry.event entry.item) worlds legal.1)
        | inr full ↦ let room = legal.0 in omega arith
      ]
