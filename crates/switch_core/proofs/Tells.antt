-- What a step tells that sends no packet.
use Rattle.std.proofs.Common.{◌≡◌, ◌+◌, ◌≤◌, ℕ, true, false, List, [], ◌∷◌, length, map, filter, max, Option, Some, None, Result, Ok, Err, refl, arith}
use Rattle.std.specs.Option.{option_map_or}
use Rattle.std.proofs.lemmas.List.{length-map}
use Rattle.of10_messages.specs.declared.message.FlowMod.{FlowMod}
use Rattle.of10_messages.specs.declared.message.Message.{Message}
use Rattle.of10_messages.specs.declared.message.Message.TheVariants as message
use Rattle.of10_messages.specs.declared.notice.Notice.{Notice}
use Rattle.of10_messages.specs.declared.notice.Notice.TheVariants.{Tick, Port, Join}
use Rattle.flow_table.specs.Command.{After, command, deleted, is_named, without}
use Rattle.flow_table.specs.Expiry.{gone, staying}
use Rattle.flow_table.specs.declared.command.Command.{Command}
use Rattle.flow_table.specs.declared.command.Command.TheVariants.{Add, Modify, ModifyStrict, Delete, DeleteStrict}
use Rattle.flow_table.specs.declared.effect.TableNo.{TableNo}
use Rattle.flow_table.specs.declared.effect.TableNo.TheVariants.{Overlap, Full, OutOfMemory}
use Rattle.flow_table.specs.declared.entry.Entry.{Entry}
use Rattle.switch_core.specs.Leaving.{Sent, leave, leave_all, nothing_sent}
use Rattle.switch_core.specs.Plan.{is_packet_out}
use Rattle.switch_core.specs.Refusal.{flow_mod_refusal}
use Rattle.switch_core.specs.Step.{Step, command_of, commanded, handled, is_delete, noticed, refuses, sends, wants_removal}
use Rattle.switch_core.specs.declared.leaving.Leaving.{Leaving}
use Rattle.switch_core.specs.declared.leaving.Leaving.TheVariants.{Told}
use Rattle.switch_core.specs.declared.leaving.News.{News}
use Rattle.switch_core.specs.declared.leaving.News.TheVariants.{Removal}
use Rattle.switch_core.specs.declared.state.State.{State}
use Rattle.switch_core.proofs.Few.{sends_count}
use Rattle.switch_core.proofs.Stays.{few_gone, few_pass}

-- no packet, and at most one message, or so many
abbrev pub TellsFew : ℕ → Step → Type 0
TellsFew n step = (length step.up ≤ max 1 n) × (step.out ≡ [])

-- what is told is no packet
told_only : {A : Type 0} (news : A → News) (xs : List A) (sent : Sent) → (leave_all sent (map (λ x. Told (news x)) xs)).out ≡ sent.out
told_only news [] sent = refl
told_only news (x ∷ xs) sent = told_only news xs (leave sent (Told (news x)))

-- at most so many are told of
tells : {A : Type 0} (n : ℕ) (s : State) (news : A → News) (xs : List A) → length xs ≤ n → TellsFew n (sends s (map (λ x. Told (news x)) xs))
tells {A = A} n s news xs most =
    let f : A → Leaving = λ x. Told (news x) in
    let no_packet = told_only news xs (nothing_sent s.next_xid) in
    let all = sends_count s (map f xs) in
    let none : length (sends s (map f xs)).out ≡ 0 = rw no_packet refl in
    (omega (arith, all, none, length-map xs f, most), no_packet)

-- the table's answer to a command that takes nothing out that is told
other_tells : (n : ℕ) (s : State) (request : Message) (how : Command) (r : Result After TableNo) → is_delete how ≡ false → TellsFew n (commanded s request how r)
other_tells n s request how (Ok after) other = rw other (omega arith, refl)
other_tells n s request how (Err Full) other = (omega arith, refl)
other_tells n s request how (Err (Overlap with)) other = (omega arith, refl)
other_tells n s request how (Err OutOfMemory) other = (omega arith, refl)

-- the removals of a DELETE are at most as many as there are entries
delete_tells : (s : State) (request : Message) (how : Command) (mods : FlowMod) → is_delete how ≡ true → TellsFew (length s.table) (commanded s request how (deleted how s.table mods))
delete_tells s request how mods is =
    let removed = filter (is_named how mods) s.table in
    rw is (tells (length s.table) (record s { table = without how mods s.table }) (λ (entry : Entry). Removal entry 2 s.clock) (filter wants_removal removed)
    (omega (arith, few_pass wants_removal removed, few_pass (is_named how mods) s.table)))

command_tells : (s : State) (request : Message) (how : Command) (mods : FlowMod) → TellsFew (length s.table) (commanded s request how (command how s.table mods s.clock))
command_tells s request Add mods = other_tells (length s.table) s request Add (command Add s.table mods s.clock) refl
command_tells s request Modify mods = other_tells (length s.table) s request Modify (command Modify s.table mods s.clock) refl
command_tells s request ModifyStrict mods = other_tells (length s.table) s request ModifyStrict (command ModifyStrict s.table mods s.clock) refl
command_tells s request Delete mods = delete_tells s request Delete mods refl
command_tells s request DeleteStrict mods = delete_tells s request DeleteStrict mods refl

-- a refusal is one message
by_refusal : (n : ℕ) (s : State) (request : Message) (refusal : Option (ℕ × ℕ)) (step : Step) → TellsFew n step
    → TellsFew n (option_map_or (λ (r : ℕ × ℕ). refuses s request r.0 r.1) refusal step)
by_refusal n s request None step few = few
by_refusal n s request (Some r) step few = (omega arith, refl)

pub message_tells : (s : State) (m : Message) → is_packet_out m ≡ false → TellsFew (length s.table) (handled s m)
message_tells s (message.FlowMod xid mods) other =
    by_refusal (length s.table) s (message.FlowMod xid mods) (flow_mod_refusal s.ports mods)
    (commanded s (message.FlowMod xid mods) (command_of mods.command) (command (command_of mods.command) s.table mods s.clock))
    (command_tells s (message.FlowMod xid mods) (command_of mods.command) mods)
message_tells s (message.PacketOut xid buffer_id in_port said actions content) other = absurd cc
message_tells s (message.Hello xid) other = (omega arith, refl)
message_tells s (message.Error xid kind code content) other = (omega arith, refl)
message_tells s (message.EchoReply xid content) other = (omega arith, refl)
message_tells s (message.EchoRequest xid content) other = (omega arith, refl)
message_tells s (message.FeaturesRequest xid) other = (omega arith, refl)
message_tells s (message.GetConfigRequest xid) other = (omega arith, refl)
message_tells s (message.SetConfig xid flags miss_send_len) other = (omega arith, refl)
message_tells s (message.BarrierRequest xid) other = (omega arith, refl)
message_tells s (message.Other xid kind body) other = (omega arith, refl)
message_tells s _ other = (omega arith, refl)

pub notice_tells : (s : State) (n : Notice) → TellsFew (length s.table) (noticed s n)
notice_tells s (Tick seconds) =
    let now = s.clock + seconds in
    let late = gone now s.table in
    tells (length s.table) (record s { clock = now; table = staying now s.table }) (λ (g : Entry × ℕ). Removal g.0 g.1 now) (filter (λ (g : Entry × ℕ). wants_removal g.0) late)
    (omega (arith, few_pass (λ (g : Entry × ℕ). wants_removal g.0) late, few_gone now s.table))
notice_tells s (Port port down) = (omega arith, refl)
notice_tells s (Join down) = (omega arith, refl)
