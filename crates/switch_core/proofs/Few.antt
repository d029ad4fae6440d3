-- How many things a step sends.
use Rattle.std.proofs.Common.{◌≡◌, ◌+◌, ◌*◌, ◌<◌, ◌≤◌, ◌^◌, ◌==◌, ◌||◌, ℕ, true, false, not, List, [], ◌∷◌, All, length, map, slice_get, Option, Some, None, Result, Ok, Err, if◌then◌else◌, refl, arith, length-append}
use Rattle.std.specs.List.{filter, filter_map, flat_map, range_with_len}
use Rattle.std.specs.Option.{option_and_then, option_map_or}
use Rattle.std.proofs.lemmas.Bool.{cond_both, ne_eqb}
use Rattle.std.proofs.lemmas.List.{length-map}
use Rattle.std.proofs.lemmas.List.Elements.{All-filter, All-head, All-tail}
use Rattle.std.proofs.lemmas.List.FromFn.{get_or-range_with_len, length-range_with_len}
use Rattle.std.proofs.lemmas.Grind.{flat_map-append}
use Rattle.listed.specs.Lists.{all_at}
use Rattle.of10_match.specs.declared.header.Header.{Header}
use Rattle.of10_match.specs.Packet.{packet_of}
use Rattle.of10_match.specs.declared.packet.Packet.{Packet}
use Rattle.of10_messages.specs.Lengths.{actions_len, message_len}
use Rattle.of10_messages.specs.Valid.{HasValidBody, IsValidMessage}
use Rattle.of10_messages.specs.Wire.{canon_bytes}
use Rattle.of10_messages.specs.declared.action.Action.{Action}
use Rattle.of10_messages.specs.declared.action.Action.TheVariants as action
use Rattle.of10_messages.specs.declared.message.FlowMod.{FlowMod}
use Rattle.of10_messages.specs.declared.message.Message.{Message}
use Rattle.of10_messages.specs.declared.message.Message.TheVariants as message
use Rattle.of10_messages.specs.declared.notice.Notice.{Notice}
use Rattle.of10_messages.specs.declared.notice.Notice.TheVariants.{Tick, Port, Join}
use Rattle.flow_table.specs.Best.{after_packet, best_entry, best_place}
use Rattle.flow_table.specs.Command.{After, command, deleted, is_named, without}
use Rattle.flow_table.specs.Expiry.{gone, staying}
use Rattle.flow_table.specs.Outcome.{after_action, is_port, outcome, outputs_of, outputs_to, ports_but}
use Rattle.flow_table.specs.declared.command.Command.{Command}
use Rattle.flow_table.specs.declared.command.Command.TheVariants.{Add, Modify, ModifyStrict, Delete, DeleteStrict}
use Rattle.flow_table.specs.declared.effect.TableNo.{TableNo}
use Rattle.flow_table.specs.declared.effect.TableNo.TheVariants.{Overlap, Full, OutOfMemory}
use Rattle.flow_table.specs.declared.entry.Entry.{Entry}
use Rattle.flow_table.specs.declared.outputs.Output.{Output}
use Rattle.flow_table.specs.declared.outputs.Target.TheVariants as target
use Rattle.switch_core.specs.Leaving.{Sent, leave, leave_all, nothing_sent}
use Rattle.switch_core.specs.Refusal.{actions_refusal, flow_mod_refusal}
use Rattle.switch_core.specs.State.{IsState}
use Rattle.switch_core.specs.Step.{Step, applied, command_of, commanded, counted_at, handled, hit_by, is_delete, is_to_table, noticed, packet_out, received, refuses, removals, sends, sent_by, sent_count, sent_of, sent_out, wants_removal}
use Rattle.switch_core.specs.declared.leaving.Leaving.{Leaving}
use Rattle.switch_core.specs.declared.leaving.Leaving.TheVariants.{Told, Emitted}
use Rattle.switch_core.specs.declared.leaving.News.TheVariants.{Arrival, Removal}
use Rattle.switch_core.specs.declared.state.State.{State}
use Rattle.switch_core.proofs.Actions.{least_actions}
use Rattle.switch_core.proofs.Stays.{few_gone, few_pass}

-- ---- one thing that leaves is one message or one packet

count : Sent → ℕ
count sent = length sent.up + length sent.out

one_more : (sent : Sent) (l : Leaving) → count (leave sent l) ≡ count sent + 1
unfolding count
one_more sent (Told news) = simp length-append (omega arith)
one_more sent (Emitted port packet) = simp length-append (omega arith)

all_more : (sent : Sent) (ls : List Leaving) → count (leave_all sent ls) ≡ count sent + length ls
all_more sent [] = omega arith
all_more sent (l ∷ ls) = let rest = all_more (leave sent l) ls in omega (arith, rest, one_more sent l)

pub sends_count : (s : State) (ls : List Leaving) → sent_count (sends s ls) ≡ length ls
unfolding count
sends_count s ls = let all = all_more (nothing_sent s.next_xid) ls in omega (arith, all)

-- ---- outputs of one action

-- the ports but one are at most all
but_few : (ports but : ℕ) → length (ports_but ports but) ≤ ports
but_few ports but = omega (arith, few_pass (λ (port : ℕ). not (port == but)) (range_with_len 1 ports), length-range_with_len 1 ports)

-- an Output to a port sends at most 48 things
outputs_few : (ports in_port : ℕ) (header : Header) (port : ℕ) → ports ≤ 48 → length (outputs_to ports in_port header port) ≤ 48
outputs_few ports in_port header port most =
    let Few : List Output → Type 0 = λ os. length os ≤ 48 in
    let f = λ (other : ℕ). let o : Output = record { target = target.Port other; header = header; plain = false } in o in
    cond_both (port == 65528) _ _ Few (λ _. cond_both (is_port ports in_port) _ _ Few (λ _. omega arith) (λ _. omega arith))
    (λ _. cond_both (port == 65531 || port == 65532) _ _ Few (λ _. omega (arith, length-map (ports_but ports in_port) f, but_few ports in_port, most))
    (λ _. cond_both (port == 65533) _ _ Few (λ _. omega arith)
    (λ _. cond_both (port == 65529) _ _ Few (λ _. omega arith)
    (λ _. cond_both (port == in_port) _ _ Few (λ _. omega arith) (λ _. omega arith)))))

-- so does any action
one_few : (ports in_port : ℕ) (header : Header) (a : Action) → ports ≤ 48 → length (outputs_of ports in_port header a) ≤ 48
one_few ports in_port header (action.Output port max_len) most = outputs_few ports in_port header port most
one_few ports in_port header _ most = omega arith

-- what a list of actions sends
outcome_few : (ports in_port : ℕ) (header : Header) (actions : List Action) → ports ≤ 48 → length (outcome ports in_port header actions) ≤ 48 * length actions
outcome_few ports in_port header [] most = omega arith
outcome_few ports in_port header (a ∷ actions) most =
    let rest = outcome_few ports in_port (after_action header a) actions most in
    let one = one_few ports in_port header a most in
    simp length-append (omega (arith, rest, one))

-- ---- packets

-- what holds of each entry holds of the one at a place that may be none
found : (P : Entry → Type 0) (entries : List Entry) (place : Option ℕ) (e : Entry) → All P entries → option_and_then (slice_get entries) place ≡ Some e → P e
found P entries None e all is = absurd (cc is)
found P entries (Some place) e all is = all_at P entries place e all is

-- what is sent of a packet: at most 48 things for each of the actions of an entry, of which there are at most 8,183
packet_few : (s : State) (in_port : ℕ) (packet : Packet) → IsState s → length (sent_of s in_port packet) ≤ 392784
packet_few s in_port packet state = by_entry (best_entry s.table in_port packet.header) refl where
  by_entry : (o : Option Entry) → best_entry s.table in_port packet.header ≡ o
      → length (option_map_or (λ (entry : Entry). map (sent_by in_port packet.tag) (outcome s.ports in_port packet.header entry.actions)) o (Told (Arrival in_port 0 packet) ∷ [])) ≤ 392784
  by_entry None is = omega arith
  by_entry (Some e) is =
      let small = found (λ (entry : Entry). length entry.actions ≤ 8183) s.table (best_place s.table in_port packet.header) e state.small is in
      let outputs = outcome s.ports in_port packet.header e.actions in
      omega (arith, length-map outputs (sent_by in_port packet.tag), outcome_few s.ports in_port packet.header e.actions state.most, small)

-- ---- PACKET_OUT

-- the ports but one are ports
low_ports : (ports but : ℕ) → ports ≤ 48 → All (λ port. port ≤ 48) (ports_but ports but)
low_ports ports but most = All-filter (λ (port : ℕ). not (port == but)) (λ (port : ℕ). port ≤ 48) (range_with_len 1 ports)
    (λ k d within. omega (arith, get_or-range_with_len 1 ports k d, length-range_with_len 1 ports, within, most))

module _ (s : State) (in_port tag : ℕ) (state : IsState s) where
  -- one output sends at most what a packet sends
  output_few : (o : Output) → length (sent_out s in_port tag o) ≤ 392784
  output_few o = cond_both (is_to_table o.target) _ _ (λ (ls : List Leaving). length ls ≤ 392784)
      (λ _. packet_few s in_port (record { header = o.header; tag = tag }) state) (λ _. omega arith)

  -- outputs to ports of the switch send one thing each: none of them is TABLE
  ports_few : (header : Header) (ports : List ℕ) → All (λ port. port ≤ 48) ports
      → length (flat_map (sent_out s in_port tag) (map (λ other. record { target = target.Port other; header = header; plain = false }) ports)) ≤ length ports
  ports_few header [] most = omega arith
  ports_few header (port ∷ ports) most =
      let low : port ≤ 48 = All-head (λ (n : ℕ). n ≤ 48) port ports most in
      let other : (port == 65529) ≡ false = ne_eqb port 65529 (λ is. omega (arith, low, is)) in
      let rest = ports_few header ports (All-tail (λ (n : ℕ). n ≤ 48) port ports most) in
      rw other (omega (arith, rest))

  -- what one action sends
  action_few : (header : Header) (a : Action) → length (flat_map (sent_out s in_port tag) (outputs_of s.ports in_port header a)) ≤ 392784
  action_few header (action.Output port max_len) =
      let Few : List Output → Type 0 = λ os. length (flat_map (sent_out s in_port tag) os) ≤ 392784 in
      let one : (o : Output) → Few (o ∷ []) = λ o. simp length-append (omega (arith, output_few o)) in
      let none : Few [] = omega arith in
      cond_both (port == 65528) _ _ Few (λ _. cond_both (is_port s.ports in_port) _ _ Few (λ _. one (record { target = target.Port in_port; header = header; plain = true })) (λ _. none))
      (λ _. cond_both (port == 65531 || port == 65532) _ _ Few
      (λ _. omega (arith, ports_few header (ports_but s.ports in_port) (low_ports s.ports in_port state.most), but_few s.ports in_port, state.most))
      (λ _. cond_both (port == 65533) _ _ Few (λ _. one (record { target = target.Controller; header = header; plain = true }))
      (λ _. cond_both (port == 65529) _ _ Few (λ _. one (record { target = target.Port port; header = header; plain = true }))
      (λ _. cond_both (port == in_port) _ _ Few (λ _. none) (λ _. one (record { target = target.Port port; header = header; plain = true }))))))
  action_few header _ = omega arith

  -- what a list of actions sends
  out_few : (header : Header) (actions : List Action) → length (flat_map (sent_out s in_port tag) (outcome s.ports in_port header actions)) ≤ 392784 * length actions
  out_few header [] = omega arith
  out_few header (a ∷ actions) =
      let rest = out_few (after_action header a) actions in
      let one = action_few header a in
      let parts = flat_map-append (sent_out s in_port tag) (outputs_of s.ports in_port header a) (outcome s.ports in_port (after_action header a) actions) in
      rw parts (simp length-append (omega (arith, rest, one)))

-- ---- steps

abbrev pub Few : Step → Type 0
Few step = sent_count step < 2 ^ 32

-- a step by a value that may be none
by_option : {A : Type 0} (f : A → Step) (o : Option A) (d : Step) → ((x : A) → Few (f x)) → Few d → Few (option_map_or f o d)
by_option f None d some none = none
by_option f (Some x) d some none = some x

-- at most as many things as there are entries
sends_few : (s : State) (ls : List Leaving) (n : ℕ) → length ls ≤ n → n < 2 ^ 32 → Few (sends s ls)
sends_few s ls n most low = omega (arith, sends_count s ls, most, low)

-- the table's answer to a command that takes nothing out that is told
not_delete_few : (s : State) (request : Message) (how : Command) (r : Result After TableNo) → is_delete how ≡ false → Few (commanded s request how r)
not_delete_few s request how (Ok after) other =
    sends_few (record s { table = after.entries }) (removals how s.clock after.removed) 0 (rw other (omega arith)) (omega arith)
not_delete_few s request how (Err Full) other = omega arith
not_delete_few s request how (Err (Overlap with)) other = omega arith
not_delete_few s request how (Err OutOfMemory) other = omega arith

-- the removals of a DELETE are at most as many as there are entries
delete_few : (s : State) (request : Message) (how : Command) (mods : FlowMod) → IsState s → is_delete how ≡ true → Few (commanded s request how (deleted how s.table mods))
delete_few s request how mods state is =
    let removed = filter (is_named how mods) s.table in
    let told = λ (entry : Entry). Told (Removal entry 2 s.clock) in
    sends_few (record s { table = without how mods s.table }) (removals how s.clock removed) 1024
    (rw is (omega (arith, length-map (filter wants_removal removed) told, few_pass wants_removal removed, few_pass (is_named how mods) s.table, state.table.few))) (omega arith)

commanded_few : (s : State) (request : Message) (how : Command) (mods : FlowMod) → IsState s → Few (commanded s request how (command how s.table mods s.clock))
commanded_few s request Add mods state = not_delete_few s request Add (command Add s.table mods s.clock) refl
commanded_few s request Modify mods state = not_delete_few s request Modify (command Modify s.table mods s.clock) refl
commanded_few s request ModifyStrict mods state = not_delete_few s request ModifyStrict (command ModifyStrict s.table mods s.clock) refl
commanded_few s request Delete mods state = delete_few s request Delete mods state refl
commanded_few s request DeleteStrict mods state = delete_few s request DeleteStrict mods state refl

-- a PACKET_OUT has at most 8,189 actions
packet_out_few : (s : State) (request : Message) (in_port : ℕ) (actions : List Action) (content : List ℕ) → IsState s → length actions ≤ 8189
    → Few (packet_out s request in_port actions content)
packet_out_few s request in_port actions content state most =
    let packet = packet_of content in
    let outputs = outcome s.ports in_port packet.header actions in
    let fits = out_few s in_port packet.tag state packet.header actions in
    by_option (λ (refusal : ℕ × ℕ). refuses s request refusal.0 refusal.1) (actions_refusal true s.ports actions)
    (if length content == 36 then applied s in_port actions packet else refuses s request 1 6) (λ refusal. omega arith)
    (cond_both (length content == 36) (applied s in_port actions packet) (refuses s request 1 6) Few
    (λ _. sends_few (record s { table = counted_at s.clock s.table (filter_map (hit_by s in_port) outputs) }) (flat_map (sent_out s in_port packet.tag) outputs)
    3216508176 (omega (arith, fits, most)) (omega arith))
    (λ _. omega arith))

-- a message has the length that its type says
abbrev pub HaveLengths : Type 0
HaveLengths = (m : Message) → HasValidBody m → length (canon_bytes m) ≡ message_len m

pub message_few : HaveLengths → (s : State) (m : Message) → IsState s → IsValidMessage m → Few (handled s m)
message_few sizes s (message.Hello xid) state valid = omega arith
message_few sizes s (message.Error xid kind code content) state valid = omega arith
message_few sizes s (message.EchoReply xid content) state valid = omega arith
message_few sizes s (message.EchoRequest xid content) state valid = omega arith
message_few sizes s (message.FeaturesRequest xid) state valid = omega arith
message_few sizes s (message.GetConfigRequest xid) state valid = omega arith
message_few sizes s (message.SetConfig xid flags miss_send_len) state valid = omega arith
message_few sizes s (message.BarrierRequest xid) state valid = omega arith
message_few sizes s (message.FlowMod xid mods) state valid =
    by_option (λ (refusal : ℕ × ℕ). refuses s (message.FlowMod xid mods) refusal.0 refusal.1) (flow_mod_refusal s.ports mods)
    (commanded s (message.FlowMod xid mods) (command_of mods.command) (command (command_of mods.command) s.table mods s.clock)) (λ refusal. omega arith)
    (commanded_few s (message.FlowMod xid mods) (command_of mods.command) mods state)
message_few sizes s (message.PacketOut xid buffer_id in_port said actions content) state valid =
    let m = message.PacketOut xid buffer_id in_port said actions content in
    let size : length (canon_bytes m) ≡ 16 + actions_len actions + length content = sizes m valid.body in
    let most : length actions ≤ 8189 = omega (arith, size, valid.length, least_actions actions valid.body.3) in
    packet_out_few s m in_port actions content state most
message_few sizes s (message.Other xid kind body) state valid = omega arith
message_few sizes s _ state valid = omega arith

pub received_few : (s : State) (in_port : ℕ) (packet : Packet) → IsState s → Few (received s in_port packet)
received_few s in_port packet state =
    sends_few (record s { table = after_packet s.table in_port packet.header s.clock }) (sent_of s in_port packet) 392784 (packet_few s in_port packet state) (omega arith)

pub notice_few : (s : State) (n : Notice) → IsState s → Few (noticed s n)
notice_few s (Tick seconds) state =
    let now = s.clock + seconds in
    let late = gone now s.table in
    let wants = λ (g : Entry × ℕ). wants_removal g.0 in
    let told = λ (g : Entry × ℕ). Told (Removal g.0 g.1 now) in
    sends_few (record s { clock = now; table = staying now s.table }) (map told (filter wants late)) 1024
    (omega (arith, length-map (filter wants late) told, few_pass wants late, few_gone now s.table, state.table.few)) (omega arith)
notice_few s (Port port down) state = omega arith
notice_few s (Join down) state = omega arith
