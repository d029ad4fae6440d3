-- What happens next where one thread runs the machine, and which runs come of it.
use Rattle.std.specs.Prelude.{◌≡◌, ℕ, slice_get, All, Option, Some}
use Rattle.std.specs.Option.{option_or}
use Rattle.controller_api.specs.Reaction.{Reaction}
use Rattle.controller_api.specs.declared.item.UpItem.{UpItem}
use Rattle.machine_setup.specs.declared.setup.Setup.{Setup}
use Rattle.event_world.specs.Answers.{next_line}
use Rattle.event_world.specs.Mail.{Shared}
use Rattle.event_world.specs.World.{first_event}
use Rattle.event_world.specs.declared.event.Event.{Event}
use Rattle.event_machine.specs.Legal.{IsLegalRun, world_before}
use Rattle.event_machine.specs.declared.trace.Entry.{Entry}
use Rattle.event_machine.specs.declared.trace.Trace.{Trace}

module _ {C : Type 0} where
  -- what happens next where one thread runs the machine: the first internal event in the order of pools, and where nothing waits
  -- the script's next line
  abbrev pub rule_event : Setup C → Shared → Option Event
  rule_event setup shared = option_or (first_event shared) (next_line setup.script shared)

  module _ (react : C → UpItem → Reaction C) (first : C → C) where
    -- a run of one thread: a legal run of worker 0 alone, each of whose entries is what the rule says
    pub record IsOneThreadRun (setup : Setup C) (trace : Trace) : Type 0 where
      pub legal : IsLegalRun react first setup trace
      pub alone : All (λ entry. entry.worker ≡ 0) trace.entries
      pub ruled : (at : ℕ) (entry : Entry) → slice_get trace.entries at ≡ Some entry
          → rule_event setup (world_before react first setup trace.entries at).shared ≡ Some entry.event
