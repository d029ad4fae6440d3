-- Which steps are legal: each can be taken after the earlier ones, and they follow the script.
use Rattle.std.specs.Prelude.{◌≡◌, ℕ, ◌<◌, List, filter_map, take, slice_get, AllPairs, Option, Some, None}
use Rattle.controller_api.specs.Reaction.{Reaction}
use Rattle.controller_api.specs.declared.item.UpItem.{UpItem}
use Rattle.machine_setup.specs.declared.setup.Setup.{Setup}
use Rattle.event_world.specs.World.{IsEnabled}
use Rattle.event_world.specs.declared.event.Event.{Event}
use Rattle.event_world.specs.declared.event.Event.TheVariants.{In}
use Rattle.causal_replay.specs.Replay.{world_at}
use Rattle.causal_replay.specs.declared.replayed.Taken.{Taken}

-- the position in the script of an input; another event has none
abbrev pub position_of : Event → Option ℕ
position_of (In position) = Some position
position_of internal = None

-- the positions of the inputs among steps, in order
abbrev pub input_positions : List Taken → List ℕ
input_positions steps = filter_map (λ step. position_of step.event) steps

module _ {C : Type 0} (react : C → UpItem → Reaction C) (first : C → C) where
  -- Steps are legal: each event can happen in the world to which the earlier ones lead, and the inputs come in the order of the
  -- script, each once at most.
  pub record AreLegalSteps (setup : Setup C) (steps : List Taken) : Type 0 where
    pub each : (at : ℕ) (step : Taken) → slice_get steps at ≡ Some step → IsEnabled setup (world_at react first setup (take at steps)) step.event
    pub ascending : AllPairs (λ one other. one < other) (input_positions steps)
