-- Switches that are equal but for the numbers make alike steps at alike items.
use Rattle.std.proofs.Common.{◌≡◌, ◌∙◌, ◌+◌, ◌==◌, ℕ, Bool, true, false, List, [], ◌∷◌, map, fold, length, Option, Some, None, Result, Ok, Err, if◌then◌else◌, refl, sym, ap}
use Rattle.std.specs.List.{filter_map, flat_map}
use Rattle.std.specs.Option.{option_map, option_map_or}
use Rattle.listed.specs.Lists.{changed_at}
use Rattle.of10_match.specs.declared.header.Header.{Header}
use Rattle.of10_match.specs.declared.packet.Packet.{Packet}
use Rattle.of10_match.specs.Packet.{packet_of}
use Rattle.of10_messages.specs.declared.action.Action.{Action}
use Rattle.of10_messages.specs.declared.message.FlowMod.{FlowMod}
use Rattle.of10_messages.specs.declared.message.Message.{Message}
use Rattle.of10_messages.specs.declared.message.Message.TheVariants as message
use Rattle.of10_messages.specs.declared.notice.Notice.{Notice}
use Rattle.of10_messages.specs.declared.notice.Notice.TheVariants.{Tick, Port, Join}
use Rattle.flow_table.specs.Best.{after_packet, best_entry, best_place}
use Rattle.flow_table.specs.Command.{After, command}
use Rattle.flow_table.specs.Expiry.{staying}
use Rattle.flow_table.specs.Outcome.{outcome}
use Rattle.flow_table.specs.declared.command.Command.{Command}
use Rattle.flow_table.specs.declared.effect.TableNo.{TableNo}
use Rattle.flow_table.specs.declared.effect.TableNo.TheVariants.{Overlap, Full, OutOfMemory}
use Rattle.flow_table.specs.declared.entry.Entry.{Entry}
use Rattle.flow_table.specs.declared.outputs.Output.{Output}
use Rattle.masked_equivalence.specs.Mask.{masked, masked_message, masked_mods}
use Rattle.message_pools.specs.declared.item.Item.TheVariants as item
use Rattle.switch_core.specs.Ports.{features, port_desc, with_port}
use Rattle.switch_core.specs.Refusal.{actions_refusal, flow_mod_refusal}
use Rattle.switch_core.specs.Step.{Step, applied, command_of, commanded, counted_at, flow_mod, handled, hit_by, is_to_table, noticed, packet_out, received, refuses, removals, sent_by, sent_of, sent_out}
use Rattle.switch_core.specs.declared.leaving.Leaving.{Leaving}
use Rattle.switch_core.specs.declared.leaving.Leaving.TheVariants.{Told}
use Rattle.switch_core.specs.declared.leaving.News.TheVariants.{Arrival, Greeting, PortChange}
use Rattle.switch_core.specs.declared.state.State.{State}
use Rattle.causal_replay.specs.Congruence.{AlikeSteps, masked_answer, masked_entry, masked_state}
use Rattle.causal_replay.proofs.AlikeTables.{best_entry_masked, best_masked, command_masked, counted_all, counted_best, hit_at, late, late_masked, masked_after, masked_result, masked_table, removals_masked, staying_masked}
use Rattle.causal_replay.proofs.Leavings.{masked_leaving, masked_step, sends_alike}

-- whether b or not, the steps are alike
either : (b : Bool) (x y v w : Step) → masked_step x ≡ masked_step v → masked_step y ≡ masked_step w
    → masked_step (if b then x else y) ≡ masked_step (if b then v else w)
either true x y v w one two = one
either false x y v w one two = two

module _ (s t : State) (same : masked_state s ≡ masked_state t) where
  tables : masked_table s.table ≡ masked_table t.table
  tables = λ i. (same i).table

  -- ---- refusals

  refused : (m n : Message) (kind code : ℕ) → masked_step (refuses s m kind code) ≡ masked_step (refuses t n kind code)
  refused m n kind code = λ i. record { state = same i; up = message.Error 0 kind code [] ∷ []; out = [] }

  by_refusal : (m n : Message) (refusal : Option (ℕ × ℕ)) (x y : Step) → masked_step x ≡ masked_step y
      → masked_step (option_map_or (λ (r : ℕ × ℕ). refuses s m r.0 r.1) refusal x) ≡ masked_step (option_map_or (λ (r : ℕ × ℕ). refuses t n r.0 r.1) refusal y)
  by_refusal m n None x y alike = alike
  by_refusal m n (Some r) x y alike = refused m n r.0 r.1

  -- ---- packets

  best_same : (port : ℕ) (header : Header) → best_place s.table port header ≡ best_place t.table port header
  best_same port header =
      sym (best_masked s.table port header) ∙ (ap (λ (w : List Entry). best_place w port header) tables ∙ best_masked t.table port header)

  -- what is sent of a packet depends on no number
  sent_same : (in_port : ℕ) (packet : Packet) → sent_of s in_port packet ≡ sent_of t in_port packet
  sent_same in_port packet =
      by s.ports (best_entry s.table in_port packet.header)
      ∙ ((λ i. to (same i).ports (entries i)) ∙ sym (by t.ports (best_entry t.table in_port packet.header))) where
        to : ℕ → Option Entry → List Leaving
        to ports best = option_map_or (λ entry. map (sent_by in_port packet.tag) (outcome ports in_port packet.header entry.actions)) best (Told (Arrival in_port 0 packet) ∷ [])

        by : (ports : ℕ) (best : Option Entry) → to ports best ≡ to ports (option_map masked_entry best)
        by ports None = refl
        by ports (Some entry) = refl

        entries : option_map masked_entry (best_entry s.table in_port packet.header) ≡ option_map masked_entry (best_entry t.table in_port packet.header)
        entries =
            best_entry_masked s.table in_port packet.header
            ∙ (ap (λ (w : List Entry). best_entry w in_port packet.header) tables ∙ sym (best_entry_masked t.table in_port packet.header))

  pub packet_alike : (in_port : ℕ) (packet : Packet) → masked_step (received s in_port packet) ≡ masked_step (received t in_port packet)
  packet_alike in_port packet =
      let best = best_same in_port packet.header in
      let counted : masked_table (after_packet s.table in_port packet.header s.clock) ≡ masked_table (after_packet t.table in_port packet.header t.clock) =
      counted_best s.clock s.table (best_place s.table in_port packet.header)
      ∙ ((λ i. option_map_or (λ place. changed_at place (hit_at (same i).clock) (tables i)) (best i) (tables i))
      ∙ sym (counted_best t.clock t.table (best_place t.table in_port packet.header))) in
      sends_alike (record s { table = after_packet s.table in_port packet.header s.clock }) (record t { table = after_packet t.table in_port packet.header t.clock })
      (sent_of s in_port packet) (sent_of t in_port packet)
      (λ i. record (same i) { table = counted i }) (ap (map masked_leaving) (sent_same in_port packet))

  applied_alike : (in_port : ℕ) (actions : List Action) (packet : Packet) → masked_step (applied s in_port actions packet) ≡ masked_step (applied t in_port actions packet)
  applied_alike in_port actions packet =
      let outputs : outcome s.ports in_port packet.header actions ≡ outcome t.ports in_port packet.header actions =
      λ i. outcome (same i).ports in_port packet.header actions in
      let hits : filter_map (hit_by s in_port) (outcome s.ports in_port packet.header actions) ≡ filter_map (hit_by t in_port) (outcome t.ports in_port packet.header actions) =
      λ i. filter_map (λ (o : Output). if is_to_table o.target then best_same in_port o.header i else None) (outputs i) in
      let table_s = counted_at s.clock s.table (filter_map (hit_by s in_port) (outcome s.ports in_port packet.header actions)) in
      let table_t = counted_at t.clock t.table (filter_map (hit_by t in_port) (outcome t.ports in_port packet.header actions)) in
      let counted : masked_table table_s ≡ masked_table table_t =
      counted_all s.clock (filter_map (hit_by s in_port) (outcome s.ports in_port packet.header actions)) s.table
      ∙ ((λ i. fold (λ table place. changed_at place (hit_at (same i).clock) table) (tables i) (hits i))
      ∙ sym (counted_all t.clock (filter_map (hit_by t in_port) (outcome t.ports in_port packet.header actions)) t.table)) in
      let leaving : flat_map (sent_out s in_port packet.tag) (outcome s.ports in_port packet.header actions)
      ≡ flat_map (sent_out t in_port packet.tag) (outcome t.ports in_port packet.header actions) =
      λ i. flat_map (λ (o : Output). if is_to_table o.target then sent_same in_port (record { header = o.header; tag = packet.tag }) i else sent_by in_port packet.tag o ∷ [])
      (outputs i) in
      sends_alike (record s { table = table_s }) (record t { table = table_t })
      (flat_map (sent_out s in_port packet.tag) (outcome s.ports in_port packet.header actions))
      (flat_map (sent_out t in_port packet.tag) (outcome t.ports in_port packet.header actions))
      (λ i. record (same i) { table = counted i }) (ap (map masked_leaving) leaving)

  packet_out_alike : (m n : Message) (in_port : ℕ) (actions : List Action) (content : List ℕ)
      → masked_step (packet_out s m in_port actions content) ≡ masked_step (packet_out t n in_port actions content)
  packet_out_alike m n in_port actions content =
      let packet = packet_of content in
      let after_s = if length content == 36 then applied s in_port actions packet else refuses s m 1 6 in
      let after_t = if length content == 36 then applied t in_port actions packet else refuses t n 1 6 in
      by_refusal m n (actions_refusal true s.ports actions) after_s after_t
      (either (length content == 36) (applied s in_port actions packet) (refuses s m 1 6) (applied t in_port actions packet) (refuses t n 1 6)
      (applied_alike in_port actions packet) (refused m n 1 6))
      ∙ (λ i. masked_step (option_map_or (λ (r : ℕ × ℕ). refuses t n r.0 r.1) (actions_refusal true (same i).ports actions) after_t))

  -- ---- FLOW_MOD

  refused_by_table : (m n : Message) (how : Command) (why : TableNo) → masked_step (commanded s m how (Err why)) ≡ masked_step (commanded t n how (Err why))
  refused_by_table m n how Full = refused m n 3 0
  refused_by_table m n how (Overlap with) = refused m n 3 1
  refused_by_table m n how OutOfMemory = λ i. record { state = same i; up = []; out = [] }

  removals_same : (how : Command) (one two : List Entry) → masked_table one ≡ masked_table two
      → map masked_leaving (removals how s.clock one) ≡ map masked_leaving (removals how t.clock two)
  removals_same how one two alike = removals_masked how s.clock one ∙ ((λ i. removals how (same i).clock (alike i)) ∙ sym (removals_masked how t.clock two))

  by_table : (m n : Message) (how : Command) (one two : Result After TableNo) → masked_result one ≡ masked_result two
      → masked_step (commanded s m how one) ≡ masked_step (commanded t n how two)
  by_table m n how (Ok one) (Ok two) alike =
      let after : masked_after one ≡ masked_after two = cc in
      sends_alike (record s { table = one.entries }) (record t { table = two.entries }) (removals how s.clock one.removed) (removals how t.clock two.removed)
      (λ i. record (same i) { table = (after i).entries }) (removals_same how one.removed two.removed (λ i. (after i).removed))
  by_table m n how (Ok one) (Err two) alike = absurd cc
  by_table m n how (Err one) (Ok two) alike = absurd cc
  by_table m n how (Err one) (Err two) alike =
      let why : one ≡ two = cc in
      refused_by_table m n how one ∙ ap (λ (w : TableNo). masked_step (commanded t n how (Err w))) why

  flow_mod_alike : (m n : Message) (mods : FlowMod) → masked_step (flow_mod s m mods) ≡ masked_step (flow_mod t n (masked_mods mods))
  flow_mod_alike m n mods =
      let how = command_of mods.command in
      let after_s = commanded s m how (command how s.table mods s.clock) in
      let after_t = commanded t n how (command how t.table (masked_mods mods) t.clock) in
      let results : masked_result (command how s.table mods s.clock) ≡ masked_result (command how t.table (masked_mods mods) t.clock) =
      command_masked how s.table mods s.clock
      ∙ ((λ i. command how (tables i) (masked_mods mods) (same i).clock) ∙ sym (command_masked how t.table (masked_mods mods) t.clock)) in
      by_refusal m n (flow_mod_refusal s.ports mods) after_s after_t
      (by_table m n how (command how s.table mods s.clock) (command how t.table (masked_mods mods) t.clock) results)
      ∙ (λ i. masked_step (option_map_or (λ (r : ℕ × ℕ). refuses t n r.0 r.1) (flow_mod_refusal (same i).ports mods) after_t))

  -- ---- messages

  answered : (m : Message) → masked_step (record { state = s; up = m ∷ []; out = [] }) ≡ masked_step (record { state = t; up = m ∷ []; out = [] })
  answered m = λ i. record { state = same i; up = map masked_answer (m ∷ []); out = [] }

  quiet : masked_step (record { state = s; up = []; out = [] }) ≡ masked_step (record { state = t; up = []; out = [] })
  quiet = λ i. record { state = same i; up = []; out = [] }

  -- a message, and its mask
  pub message_alike : (m : Message) → masked_step (handled s m) ≡ masked_step (handled t (masked_message m))
  message_alike (message.Hello xid) = quiet
  message_alike (message.Error xid kind code content) = quiet
  message_alike (message.EchoRequest xid content) = answered (message.EchoReply 0 content)
  message_alike (message.EchoReply xid content) = quiet
  message_alike (message.FeaturesRequest xid) = λ i. record { state = same i; up = message.FeaturesReply 0 (features (same i)) ∷ []; out = [] }
  message_alike (message.FeaturesReply xid features) = refused (message.FeaturesReply xid features) (message.FeaturesReply 0 features) 1 1
  message_alike (message.GetConfigRequest xid) = λ i. record { state = same i; up = message.GetConfigReply 0 (same i).flags (same i).miss_send_len ∷ []; out = [] }
  message_alike (message.GetConfigReply xid flags miss_send_len) = refused (message.GetConfigReply xid flags miss_send_len) (message.GetConfigReply 0 flags miss_send_len) 1 1
  message_alike (message.SetConfig xid flags miss_send_len) = λ i. record { state = record (same i) { flags = flags; miss_send_len = miss_send_len }; up = []; out = [] }
  message_alike (message.PacketIn xid buffer_id total_len in_port reason content) =
      refused (message.PacketIn xid buffer_id total_len in_port reason content) (message.PacketIn 0 0 total_len in_port reason content) 1 1
  message_alike (message.FlowRemoved xid matches cookie priority reason duration_sec duration_nsec idle_timeout packet_count byte_count) =
      refused (message.FlowRemoved xid matches cookie priority reason duration_sec duration_nsec idle_timeout packet_count byte_count)
      (message.FlowRemoved 0 matches 0 priority reason 0 0 idle_timeout 0 0) 1 1
  message_alike (message.PortStatus xid reason port) = refused (message.PortStatus xid reason port) (message.PortStatus 0 reason port) 1 1
  message_alike (message.PacketOut xid buffer_id in_port actions_len actions content) =
      packet_out_alike (message.PacketOut xid buffer_id in_port actions_len actions content) (message.PacketOut 0 0 in_port actions_len actions content) in_port actions content
  message_alike (message.FlowMod xid mods) = flow_mod_alike (message.FlowMod xid mods) (message.FlowMod 0 (masked_mods mods)) mods
  message_alike (message.BarrierRequest xid) = answered (message.BarrierReply 0)
  message_alike (message.BarrierReply xid) = refused (message.BarrierReply xid) (message.BarrierReply 0) 1 1
  message_alike (message.Other xid kind body) = refused (message.Other xid kind body) (message.Other 0 kind body) 1 (if kind == 4 then 3 else 1)

  -- ---- notices

  pub notice_alike : (n : Notice) → masked_step (noticed s n) ≡ masked_step (noticed t n)
  notice_alike (Tick seconds) =
      let now_s = s.clock + seconds in
      let now_t = t.clock + seconds in
      let staying_same : masked_table (staying now_s s.table) ≡ masked_table (staying now_t t.table) =
      staying_masked now_s s.table ∙ ((λ i. staying ((same i).clock + seconds) (tables i)) ∙ sym (staying_masked now_t t.table)) in
      sends_alike (record s { clock = now_s; table = staying now_s s.table }) (record t { clock = now_t; table = staying now_t t.table })
      (late now_s s.table) (late now_t t.table)
      (λ i. record (same i) { clock = (same i).clock + seconds; table = staying_same i })
      (late_masked now_s s.table ∙ ((λ i. late ((same i).clock + seconds) (tables i)) ∙ sym (late_masked now_t t.table)))
  notice_alike (Port port down) =
      let after_s = record s { down = with_port s.down port down } in
      let after_t = record t { down = with_port t.down port down } in
      sends_alike after_s after_t (Told (PortChange (port_desc after_s port)) ∷ []) (Told (PortChange (port_desc after_t port)) ∷ [])
      (λ i. record (same i) { down = with_port (same i).down port down })
      (λ i. Told (PortChange (port_desc (record (same i) { down = with_port (same i).down port down }) port)) ∷ [])
  notice_alike (Join down) =
      sends_alike (record s { down = down }) (record t { down = down }) (Told Greeting ∷ []) (Told Greeting ∷ []) (λ i. record (same i) { down = down }) refl

-- ---- alike steps

alike_of : (x y : Step) → masked_step x ≡ masked_step y → AlikeSteps x y
alike_of x y same = record { state = λ i. (same i).state; up = λ i. (same i).up; out = λ i. (same i).out }

pub alike_at_message : (s t : State) (m n : Message) → masked_state s ≡ masked_state t → masked (item.Message m) ≡ masked (item.Message n)
    → AlikeSteps (handled s m) (handled t n)
alike_at_message s t m n same alike =
    let one : masked_message m ≡ masked_message n = cc in
    alike_of (handled s m) (handled t n)
    (message_alike s t same m ∙ (ap (λ (w : Message). masked_step (handled t w)) one ∙ sym (message_alike t t refl n)))

pub alike_at_packet : (s t : State) (in_port : ℕ) (p q : Packet) → masked_state s ≡ masked_state t → masked (item.Packet p) ≡ masked (item.Packet q)
    → AlikeSteps (received s in_port p) (received t in_port q)
alike_at_packet s t in_port p q same alike =
    let one : p ≡ q = cc in
    alike_of (received s in_port p) (received t in_port q) (packet_alike s t same in_port p ∙ ap (λ (w : Packet). masked_step (received t in_port w)) one)

pub alike_at_notice : (s t : State) (n k : Notice) → masked_state s ≡ masked_state t → masked (item.Notice n) ≡ masked (item.Notice k)
    → AlikeSteps (noticed s n) (noticed t k)
alike_at_notice s t n k same alike =
    let one : n ≡ k = cc in
    alike_of (noticed s n) (noticed t k) (notice_alike s t same n ∙ ap (λ (w : Notice). masked_step (noticed t w)) one)
