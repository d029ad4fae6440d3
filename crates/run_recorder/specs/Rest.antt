-- What happens once the workers have left: one thread goes on by a rule.
use Rattle.std.specs.Prelude.{◌≡◌, ℕ, ◌≤◌, List, [], ◌∷◌, ◌++◌, length, slice_get, Some}
use mathlib.Core.List.{IsPrefix}
use Rattle.controller_api.specs.Reaction.{Reaction}
use Rattle.controller_api.specs.declared.item.UpItem.{UpItem}
use Rattle.machine_setup.specs.declared.setup.Setup.{Setup}
use Rattle.event_world.specs.World.{Situation}
use Rattle.event_world.specs.declared.event.Event.{Event}
use Rattle.event_machine.specs.Legal.{world_before}
use Rattle.event_machine.specs.Rule.{rule_event}
use Rattle.event_machine.specs.declared.trace.Entry.{Entry}
use Rattle.run_recorder.specs.Recording.{entry_in}

module _ {C : Type 0} where
  -- the event that the rule of one thread wants next is entered last, as worker 0's
  abbrev pub IsRuled : Setup C → Situation C → ℕ → List Entry → List Entry → Type 0
  IsRuled setup world number entries after = (event : Event) × (rule_event setup world.shared ≡ Some event) × (after ≡ entries ++ entry_in world 0 number event ∷ [])

  -- The entries go on from their beginning by worker 0 alone, each by the rule of one thread.
  pub record GoesOnAlone (react : C → UpItem → Reaction C) (first : C → C) (setup : Setup C) (beginning entries : List Entry) : Type 0 where
    pub begins : IsPrefix beginning entries
    pub alone : (at : ℕ) (entry : Entry) → length beginning ≤ at → slice_get entries at ≡ Some entry
        → (entry.worker ≡ 0) × (rule_event setup (world_before react first setup entries at).shared ≡ Some entry.event)

  -- each entry of worker 0 is what the rule of one thread wants next
  abbrev pub RestIsRuled : (C → UpItem → Reaction C) → (C → C) → Setup C → List Entry → Type 0
  RestIsRuled react first setup entries = (at : ℕ) (entry : Entry) → slice_get entries at ≡ Some entry → entry.worker ≡ 0
      → rule_event setup (world_before react first setup entries at).shared ≡ Some entry.event
