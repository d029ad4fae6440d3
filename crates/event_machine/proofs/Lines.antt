-- Inputs and the script's lines along a history.
use Rattle.std.proofs.Common.{◌≡◌, ◌≢◌, ◌∙◌, ℕ, ◌+◌, ◌≤◌, Bool, true, false, not, ◌&&◌, List, length, slice_get, Option, Some, ap, arith, refl}
use Rattle.std.proofs.lemmas.Bool.{true≢false}
use Rattle.std.proofs.lemmas.Option.{slice_get_within}
use Rattle.controller_api.specs.Reaction.{Reaction}
use Rattle.controller_api.specs.declared.item.UpItem.{UpItem}
use Rattle.machine_setup.specs.declared.script.Line.{Line}
use Rattle.machine_setup.specs.declared.setup.Setup.{Setup}
use Rattle.message_pools.specs.declared.item.Item.{Item}
use Rattle.pool_book.specs.declared.actor.Actor.TheVariants.{Script}
use Rattle.event_world.specs.Answers.{is_quiet, next_line}
use Rattle.event_world.specs.Events.{actor_of, input_count}
use Rattle.event_world.specs.Mail.{Shared}
use Rattle.event_world.specs.World.{Situation, next}
use Rattle.event_world.specs.declared.event.Event.{Event}
use Rattle.event_world.specs.declared.event.Event.TheVariants.{In, Ctl, Pkt, Note, App, Admin, Recv}
use Rattle.event_world.proofs.Reading.{line_unmarked}
use Rattle.event_machine.specs.Legal.{IsHead, IsLegalEvent, IsSoundTo, world_before}
use Rattle.event_machine.specs.declared.trace.Entry.{Entry}
use Rattle.event_machine.proofs.FirstEvents.{head_is_waiting, is_due}
use Rattle.event_machine.proofs.Histories.{along, next_inputs, world_more}

-- the line is not marked where something waits
unmarked : (marked quiet : Bool) → (marked && not quiet) ≡ false → quiet ≡ false → marked ≡ false
unmarked marked true ready e = absurd (true≢false e)
unmarked true false ready e = ready
unmarked false false ready e = refl

-- the next line stays the next one where something waits, as long as there are as many inputs
still_due : (script : List Line) (shared later : Shared) (event : Event) → next_line script shared ≡ Some event → is_quiet shared.pools ≡ false → later.inputs ≡ shared.inputs → next_line script later ≡ Some event
still_due script shared later event e waits same =
    let due = is_due script shared event e in
    line_unmarked script later due.line (ap (slice_get script) same ∙ due.there) (unmarked due.line.after_quiet (is_quiet shared.pools) due.ready waits) ∙ ap (λ n. Some (In n)) same ∙ ap Some due.input

module _ {C : Type 0} where
  -- a legal event that the script does not give is no input, and takes the first item of its pool
  internal : (setup : Setup C) (world : Situation C) (event : Event) (item : Option Item) → IsLegalEvent setup world event item → actor_of event ≢ Script → IsHead world.shared event item × (input_count event ≡ 0)
  internal setup world (In position) item legal apart = absurd (apart refl)
  internal setup world (Ctl s n) item legal apart = (legal, refl)
  internal setup world (Pkt s p n) item legal apart = (legal, refl)
  internal setup world (Note s n) item legal apart = (legal, refl)
  internal setup world (App c s n) item legal apart = (legal, refl)
  internal setup world (Admin c n) item legal apart = (legal, refl)
  internal setup world (Recv h n) item legal apart = (legal, refl)

  -- a legal event is an input only where the script has a line for it
  lines_left : (setup : Setup C) (world : Situation C) (event : Event) (item : Option Item) → IsLegalEvent setup world event item → world.shared.inputs ≤ length setup.script → world.shared.inputs + input_count event ≤ length setup.script
  lines_left setup world (In position) item legal few =
      let due = is_due setup.script world.shared (In position) legal.0 in
      let below = slice_get_within setup.script world.shared.inputs due.line due.there in
      omega arith
  lines_left setup world (Ctl s n) item legal few = omega arith
  lines_left setup world (Pkt s p n) item legal few = omega arith
  lines_left setup world (Note s n) item legal few = omega arith
  lines_left setup world (App c s n) item legal few = omega arith
  lines_left setup world (Admin c n) item legal few = omega arith
  lines_left setup world (Recv h n) item legal few = omega arith

  module _ (react : C → UpItem → Reaction C) (first : C → C) where
    -- In a sound history there were no more inputs than the script has lines.
    pub inputs_within : (setup : Setup C) (entries : List Entry) → IsSoundTo react first setup entries (length entries) → (world_before react first setup entries (length entries)).shared.inputs ≤ length setup.script
    inputs_within setup entries sound = along (λ at. (world_before react first setup entries at).shared.inputs ≤ length setup.script) entries 0 (omega arith) (omega arith) (λ at entry low here few.
        let world : Situation C = world_before react first setup entries at in
        let most = lines_left setup world entry.event entry.item (sound at entry (slice_get_within entries at entry here) here).0.1 few in
        let more = ap (λ (w : Situation C). w.shared.inputs) (world_more react first setup entries at entry here) ∙ next_inputs react setup world entry.event in
        omega arith)

    -- The next line stays due as long as the script gives no input.
    pub stays_due : (setup : Setup C) (entries : List Entry) (from : ℕ) (event : Event) → IsSoundTo react first setup entries (length entries) → from ≤ length entries
        → next_line setup.script (world_before react first setup entries from).shared ≡ Some event
        → ((at : ℕ) (entry : Entry) → from ≤ at → slice_get entries at ≡ Some entry → actor_of entry.event ≢ Script)
        → next_line setup.script (world_before react first setup entries (length entries)).shared ≡ Some event
    stays_due setup entries from event sound within due apart = along (λ at. next_line setup.script (world_before react first setup entries at).shared ≡ Some event) entries from within due (λ at entry low here now.
        let world : Situation C = world_before react first setup entries at in
        let own = internal setup world entry.event entry.item (sound at entry (slice_get_within entries at entry here) here).0.1 (apart at entry low here) in
        let same : (next react setup world entry.event).shared.inputs ≡ world.shared.inputs = omega (arith, next_inputs react setup world entry.event, own.1) in
        ap (λ (w : Situation C). next_line setup.script w.shared) (world_more react first setup entries at entry here)
        ∙ still_due setup.script world.shared (next react setup world entry.event).shared event now (head_is_waiting world.shared entry.event _ own.0.2) same)
