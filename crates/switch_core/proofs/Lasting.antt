-- What each step leaves as it is.
use Rattle.std.proofs.Common.{◌==◌, ℕ, true, List, length, Option, Some, None, Result, Ok, Err, if◌then◌else◌, refl}
use Rattle.std.specs.Option.{option_map_or}
use Rattle.std.proofs.lemmas.Bool.{cond_both}
use Rattle.of10_match.specs.Packet.{packet_of}
use Rattle.of10_match.specs.declared.packet.Packet.{Packet}
use Rattle.of10_messages.specs.declared.action.Action.{Action}
use Rattle.of10_messages.specs.declared.message.Message.{Message}
use Rattle.of10_messages.specs.declared.message.Message.TheVariants as message
use Rattle.of10_messages.specs.declared.notice.Notice.{Notice}
use Rattle.of10_messages.specs.declared.notice.Notice.TheVariants.{Tick, Port, Join}
use Rattle.flow_table.specs.Command.{After, command}
use Rattle.flow_table.specs.declared.command.Command.{Command}
use Rattle.flow_table.specs.declared.effect.TableNo.{TableNo}
use Rattle.flow_table.specs.declared.effect.TableNo.TheVariants.{Overlap, Full, OutOfMemory}
use Rattle.switch_core.specs.Refusal.{actions_refusal, flow_mod_refusal}
use Rattle.switch_core.specs.State.{IsAt}
use Rattle.switch_core.specs.Step.{Step, applied, command_of, commanded, handled, noticed, packet_out, received, refuses, time_after}
use Rattle.switch_core.specs.declared.state.State.{State}

module _ (s : State) where
  -- the step leaves the switch as it is, and no time passes
  abbrev pub Lasts : Step → Type 0
  Lasts step = IsAt s.clock s step.state

  refused : (request : Message) (refusal : ℕ × ℕ) → Lasts (refuses s request refusal.0 refusal.1)
  refused request refusal = record { number = refl; ports = refl; clock = refl }

  -- a step by a refusal that may be none
  by_refusal : (request : Message) (refusal : Option (ℕ × ℕ)) (step : Step) → Lasts step
      → Lasts (option_map_or (λ (r : ℕ × ℕ). refuses s request r.0 r.1) refusal step)
  by_refusal request None step lasts = lasts
  by_refusal request (Some r) step lasts = refused request r

  by_table : (request : Message) (how : Command) (result : Result After TableNo) → Lasts (commanded s request how result)
  by_table request how (Ok after) = record { number = refl; ports = refl; clock = refl }
  by_table request how (Err Full) = record { number = refl; ports = refl; clock = refl }
  by_table request how (Err (Overlap with)) = record { number = refl; ports = refl; clock = refl }
  by_table request how (Err OutOfMemory) = record { number = refl; ports = refl; clock = refl }

  sent_out_lasts : (request : Message) (in_port : ℕ) (actions : List Action) (content : List ℕ) → Lasts (packet_out s request in_port actions content)
  sent_out_lasts request in_port actions content =
      by_refusal request (actions_refusal true s.ports actions) (if length content == 36 then applied s in_port actions (packet_of content) else refuses s request 1 6)
      (cond_both (length content == 36) (applied s in_port actions (packet_of content)) (refuses s request 1 6) Lasts
      (λ _. record { number = refl; ports = refl; clock = refl }) (λ _. refused request (1, 6)))

pub message_lasts : (s : State) (m : Message) → IsAt s.clock s (handled s m).state
message_lasts s (message.FlowMod xid mods) =
    by_refusal s (message.FlowMod xid mods) (flow_mod_refusal s.ports mods)
    (commanded s (message.FlowMod xid mods) (command_of mods.command) (command (command_of mods.command) s.table mods s.clock))
    (by_table s (message.FlowMod xid mods) (command_of mods.command) (command (command_of mods.command) s.table mods s.clock))
message_lasts s (message.PacketOut xid buffer_id in_port said actions content) =
    sent_out_lasts s (message.PacketOut xid buffer_id in_port said actions content) in_port actions content
message_lasts s _ = record { number = refl; ports = refl; clock = refl }

pub packet_lasts : (s : State) (in_port : ℕ) (packet : Packet) → IsAt s.clock s (received s in_port packet).state
packet_lasts s in_port packet = record { number = refl; ports = refl; clock = refl }

pub notice_lasts : (s : State) (n : Notice) → IsAt (time_after s n) s (noticed s n).state
notice_lasts s (Tick seconds) = record { number = refl; ports = refl; clock = refl }
notice_lasts s (Port port down) = record { number = refl; ports = refl; clock = refl }
notice_lasts s (Join down) = record { number = refl; ports = refl; clock = refl }
