-- What is written after the headers of messages is read back: messages with a match, ports or actions.
use Rattle.std.proofs.Common.{◌≡◌, ◌+◌, ◌-◌, ◌*◌, ◌/◌, ◌%◌, ◌<◌, ◌^◌, ◌∙◌, ℕ, List, [], ◌++◌, length, take, drop, slice_index, None, refl, sym, ap, arith, append-nil, length-append}
use Rattle.std.specs.Prelude.{All}
use Rattle.std.proofs.lemmas.Bool.{and_from, eq-eqb, le-leb}
use Rattle.std.proofs.lemmas.List.{drop-drop}
use Rattle.byteorder.specs.Endian.{big_from}
use Rattle.byteorder.specs.Numbers.{big_number-reads_back}
use Rattle.of10_match.specs.Match.{IsValidMatch}
use Rattle.of10_match.specs.Wire.{match_bytes, match_of}
use Rattle.of10_match.specs.declared.matches.Match.{Match}
use Rattle.of10_messages.proofs.RoundTripActions.{actions_read}
use Rattle.of10_messages.proofs.RoundTripBodies.{BodyReads, at_least}
use Rattle.of10_messages.proofs.RoundTripPorts.{big_from_past, byte_past, drop_front, port_reads, ports_read, take_front}
use Rattle.of10_messages.proofs.Sizes.{length_match, length_port, length_ports}
use Rattle.of10_messages.specs.Reading.{actions_of, features_of, flow_mod_of, port_of, ports_of}
use Rattle.of10_messages.specs.Refusal.{bad_action, out_actions}
use Rattle.of10_messages.specs.Valid.{IsValidAction, IsValidFeatures, IsValidFlowMod, IsValidPort}
use Rattle.of10_messages.specs.Wire.{actions_bytes, canon_bytes, features_bytes, features_fields, flow_mod_bytes, flow_mod_fields, port_bytes, removal_fields}
use Rattle.of10_messages.specs.declared.action.Action.{Action}
use Rattle.of10_messages.specs.declared.message.Features.{Features}
use Rattle.of10_messages.specs.declared.message.FlowMod.{FlowMod}
use Rattle.of10_messages.specs.declared.message.Message.TheVariants as message
use Rattle.of10_messages.specs.declared.port.PortDesc.{PortDesc}

-- ---- PORT_STATUS

pub port_status_reads : (xid reason : ℕ) (port : PortDesc) → IsValidPort port → BodyReads (message.PortStatus xid reason port)
unfolding canon_bytes
port_status_reads xid reason port v =
    let bytes = canon_bytes (message.PortStatus xid reason port) in
    let size : length bytes ≡ 64 = omega (arith, length_port port v.name_length) in
    let port_is : port_of (drop 16 bytes) ≡ port = ap port_of (sym (append-nil (port_bytes port))) ∙ port_reads port [] v in
    record {
      kind = omega arith;
      body = eq-eqb (length bytes) 64 size;
      actions = refl;
      fields = ap (message.PortStatus xid reason) port_is;
    }

-- ---- FEATURES_REPLY

-- two answers with the same fields are one
same_features : (f g : Features) → f.datapath_id ≡ g.datapath_id → f.n_buffers ≡ g.n_buffers → f.n_tables ≡ g.n_tables → f.capabilities ≡ g.capabilities
    → f.actions ≡ g.actions → f.ports ≡ g.ports → f ≡ g
same_features f g datapath_id n_buffers n_tables capabilities actions ports =
    let e : record { datapath_id = f.datapath_id; n_buffers = f.n_buffers; n_tables = f.n_tables; capabilities = f.capabilities; actions = f.actions; ports = f.ports }
    ≡ record { datapath_id = g.datapath_id; n_buffers = g.n_buffers; n_tables = g.n_tables; capabilities = g.capabilities; actions = g.actions; ports = g.ports }
    = rw (datapath_id, n_buffers, n_tables, capabilities, actions, ports) refl in e

pub features_reply_reads : (xid : ℕ) (f : Features) → IsValidFeatures f → BodyReads (message.FeaturesReply xid f)
unfolding canon_bytes features_bytes features_fields features_of
features_reply_reads xid f v =
    let bytes = canon_bytes (message.FeaturesReply xid f) in
    let size : length bytes ≡ 32 + 48 * length f.ports = omega (arith, length_ports f.ports v.ports) in
    let count : (length bytes - 32) / 48 ≡ length f.ports = omega (arith, size) in
    let whole : (length bytes - 32) % 48 ≡ 0 = omega (arith, size) in
    let ports_are : ports_of ((length bytes - 32) / 48) (drop 32 bytes) ≡ f.ports = ap (λ (n : ℕ). ports_of n (drop 32 bytes)) count ∙ ports_read f.ports v.ports in
    let features_are : features_of bytes ≡ f = same_features (features_of bytes) f
    (big_number-reads_back 8 f.datapath_id [] v.datapath_id)
    (big_number-reads_back 4 f.n_buffers [] v.n_buffers)
    refl
    (big_number-reads_back 4 f.capabilities [] v.capabilities)
    (big_number-reads_back 4 f.actions [] v.actions)
    ports_are in
    record {
      kind = omega arith;
      body = and_from _ _ (le-leb 32 (length bytes) (omega (arith, size))) (eq-eqb ((length bytes - 32) % 48) 0 whole);
      actions = refl;
      fields = ap (message.FeaturesReply xid) features_are;
    }

-- ---- FLOW_REMOVED

-- two messages with the same fields are one
same_removed : (xid : ℕ) (m n : Match) (c d p q r s i j k l t u v w x y : ℕ) → m ≡ n → c ≡ d → p ≡ q → r ≡ s → i ≡ j → k ≡ l → t ≡ u → v ≡ w → x ≡ y
    → message.FlowRemoved xid m c p r i k t v x ≡ message.FlowRemoved xid n d q s j l u w y
same_removed xid m n c d p q r s i j k l t u v w x y matches cookie priority reason sec nsec idle packets count =
    rw (matches, cookie, priority, reason, sec, nsec, idle, packets, count) refl

pub flow_removed_reads : ((m : Match) → IsValidMatch m → match_of (match_bytes m) ≡ m)
    → (xid : ℕ) (matches : Match) (cookie priority reason duration_sec duration_nsec idle_timeout packet_count byte_count : ℕ)
    → IsValidMatch matches → cookie < 2 ^ 64 → priority < 2 ^ 16 → duration_sec < 2 ^ 32 → duration_nsec < 2 ^ 32
    → idle_timeout < 2 ^ 16 → packet_count < 2 ^ 64 → byte_count < 2 ^ 64
    → BodyReads (message.FlowRemoved xid matches cookie priority reason duration_sec duration_nsec idle_timeout packet_count byte_count)
unfolding canon_bytes removal_fields
flow_removed_reads back xid matches cookie priority reason duration_sec duration_nsec idle_timeout packet_count byte_count
    matches_fit cookie_fits priority_fits sec_fits nsec_fits idle_fits packets_fit bytes_fit =
    let bytes = canon_bytes (message.FlowRemoved xid matches cookie priority reason duration_sec duration_nsec idle_timeout packet_count byte_count) in
    let after = removal_fields cookie priority reason duration_sec duration_nsec idle_timeout packet_count byte_count in
    let front = take 8 bytes ++ match_bytes matches in
    let split : bytes ≡ front ++ after = refl in
    let front_size : length front ≡ 48 = omega (arith, length_match matches) in
    let size : length bytes ≡ 88 = omega (arith, length-append (match_bytes matches) after, length_match matches) in
    let at = λ (n i : ℕ). big_from_past n i (48 + i) front after (omega (arith, front_size)) in
    let matches_are : match_of (take 40 (drop 8 bytes)) ≡ matches = ap match_of (take_front 40 (match_bytes matches) after (length_match matches)) ∙ back matches matches_fit in
    let reason_is : slice_index bytes 58 ≡ reason = byte_past 10 58 front after (omega (arith, front_size)) in
    record {
      kind = omega arith;
      body = eq-eqb (length bytes) 88 size;
      actions = refl;
      fields = same_removed xid (match_of (take 40 (drop 8 bytes))) matches (big_from 48 8 bytes) cookie (big_from 56 2 bytes) priority (slice_index bytes 58) reason
          (big_from 60 4 bytes) duration_sec (big_from 64 4 bytes) duration_nsec (big_from 68 2 bytes) idle_timeout
          (big_from 72 8 bytes) packet_count (big_from 80 8 bytes) byte_count
          matches_are
          (at 8 0 ∙ big_number-reads_back 8 cookie [] cookie_fits)
          (at 2 8 ∙ big_number-reads_back 2 priority [] priority_fits)
          reason_is
          (at 4 12 ∙ big_number-reads_back 4 duration_sec [] sec_fits)
          (at 4 16 ∙ big_number-reads_back 4 duration_nsec [] nsec_fits)
          (at 2 20 ∙ big_number-reads_back 2 idle_timeout [] idle_fits)
          (at 8 24 ∙ big_number-reads_back 8 packet_count [] packets_fit)
          (at 8 32 ∙ big_number-reads_back 8 byte_count [] bytes_fit);
    }

-- ---- PACKET_OUT

-- two messages with the same fields are one
same_out : (xid b c p q k l : ℕ) (one other : List Action) (xs ys : List ℕ) → b ≡ c → p ≡ q → k ≡ l → one ≡ other → xs ≡ ys
    → message.PacketOut xid b p k one xs ≡ message.PacketOut xid c q l other ys
same_out xid b c p q k l one other xs ys buffer port len actions content = rw (buffer, port, len, actions, content) refl

pub packet_out_reads : (xid buffer_id in_port actions_len : ℕ) (actions : List Action) (content : List ℕ)
    → buffer_id < 2 ^ 32 → in_port < 2 ^ 16 → actions_len ≡ length (actions_bytes actions) → All IsValidAction actions
    → length (canon_bytes (message.PacketOut xid buffer_id in_port actions_len actions content)) < 2 ^ 16
    → BodyReads (message.PacketOut xid buffer_id in_port actions_len actions content)
unfolding canon_bytes
packet_out_reads xid buffer_id in_port actions_len actions content buffer_fits port_fits len v fits =
    let bytes = canon_bytes (message.PacketOut xid buffer_id in_port actions_len actions content) in
    let size : length bytes ≡ 16 + (length (actions_bytes actions) + length content) = omega (arith, length-append (actions_bytes actions) content) in
    let buffer_is : big_from 8 4 bytes ≡ buffer_id = big_number-reads_back 4 buffer_id [] buffer_fits in
    let port_is : big_from 12 2 bytes ≡ in_port = big_number-reads_back 2 in_port [] port_fits in
    let len_is : big_from 14 2 bytes ≡ actions_len = big_number-reads_back 2 actions_len [] (omega (arith, fits, size, len)) in
    let told : big_from 14 2 bytes ≡ length (actions_bytes actions) = len_is ∙ len in
    let part : out_actions bytes ≡ actions_bytes actions = take_front (big_from 14 2 bytes) (actions_bytes actions) content (sym told) in
    let after : drop (big_from 14 2 bytes) (drop 16 bytes) ≡ content = drop_front (big_from 14 2 bytes) (actions_bytes actions) content (sym told) in
    let read = actions_read actions v (omega (arith, fits, size)) in
    let none : bad_action 16 (actions_bytes actions) ≡ None = rw read.good refl in
    let actions_are : actions_of (out_actions bytes) ≡ actions = ap actions_of part ∙ read.read in
    record {
      kind = omega arith;
      body = and_from _ _ (le-leb 16 (length bytes) (omega (arith, size))) (le-leb (16 + big_from 14 2 bytes) (length bytes) (omega (arith, size, told)));
      actions = ap (bad_action 16) part ∙ none;
      fields = same_out xid (big_from 8 4 bytes) buffer_id (big_from 12 2 bytes) in_port (big_from 14 2 bytes) actions_len
          (actions_of (out_actions bytes)) actions (drop (big_from 14 2 bytes) (drop 16 bytes)) content buffer_is port_is len_is actions_are after;
    }

-- ---- FLOW_MOD

-- two changes with the same fields are one
same_mods : (f g : FlowMod) → f.matches ≡ g.matches → f.cookie ≡ g.cookie → f.command ≡ g.command → f.idle_timeout ≡ g.idle_timeout
    → f.hard_timeout ≡ g.hard_timeout → f.priority ≡ g.priority → f.buffer_id ≡ g.buffer_id → f.out_port ≡ g.out_port
    → f.flags ≡ g.flags → f.actions ≡ g.actions → f ≡ g
same_mods f g matches cookie command idle_timeout hard_timeout priority buffer_id out_port flags actions =
    let e : record { matches = f.matches; cookie = f.cookie; command = f.command; idle_timeout = f.idle_timeout; hard_timeout = f.hard_timeout; priority = f.priority; buffer_id = f.buffer_id; out_port = f.out_port; flags = f.flags; actions = f.actions }
    ≡ record { matches = g.matches; cookie = g.cookie; command = g.command; idle_timeout = g.idle_timeout; hard_timeout = g.hard_timeout; priority = g.priority; buffer_id = g.buffer_id; out_port = g.out_port; flags = g.flags; actions = g.actions }
    = rw (matches, cookie, command, idle_timeout, hard_timeout, priority, buffer_id, out_port, flags, actions) refl in e

pub flow_mod_reads : ((m : Match) → IsValidMatch m → match_of (match_bytes m) ≡ m) → (xid : ℕ) (f : FlowMod) → IsValidFlowMod f
    → length (canon_bytes (message.FlowMod xid f)) < 2 ^ 16 → BodyReads (message.FlowMod xid f)
unfolding canon_bytes flow_mod_bytes flow_mod_fields flow_mod_of
flow_mod_reads back xid f v fits =
    let bytes = canon_bytes (message.FlowMod xid f) in
    let acts = actions_bytes f.actions in
    let after = flow_mod_fields f ++ acts in
    let front = take 8 bytes ++ match_bytes f.matches in
    let front_size : length front ≡ 48 = omega (arith, length_match f.matches) in
    let size : length bytes ≡ 72 + length acts = omega (arith, length-append (match_bytes f.matches) after, length_match f.matches) in
    let at = λ (n i : ℕ). big_from_past n i (48 + i) front after (omega (arith, front_size)) in
    let matches_are : match_of (take 40 (drop 8 bytes)) ≡ f.matches = ap match_of (take_front 40 (match_bytes f.matches) after (length_match f.matches)) ∙ back f.matches v.matches in
    let rest : drop 72 bytes ≡ acts = sym (drop-drop 24 48 bytes) ∙ ap (drop 24) (drop_front 48 front after front_size) in
    let read = actions_read f.actions v.actions (omega (arith, fits, size)) in
    let none : bad_action 72 acts ≡ None = rw read.good refl in
    let mods_are : flow_mod_of bytes ≡ f = same_mods (flow_mod_of bytes) f
    matches_are
    (at 8 0 ∙ big_number-reads_back 8 f.cookie [] v.cookie)
    (at 2 8 ∙ big_number-reads_back 2 f.command [] v.command)
    (at 2 10 ∙ big_number-reads_back 2 f.idle_timeout [] v.idle_timeout)
    (at 2 12 ∙ big_number-reads_back 2 f.hard_timeout [] v.hard_timeout)
    (at 2 14 ∙ big_number-reads_back 2 f.priority [] v.priority)
    (at 4 16 ∙ big_number-reads_back 4 f.buffer_id [] v.buffer_id)
    (at 2 20 ∙ big_number-reads_back 2 f.out_port [] v.out_port)
    (at 2 22 ∙ big_number-reads_back 2 f.flags [] v.flags)
    (ap actions_of rest ∙ read.read) in
    record {
      kind = omega arith;
      body = at_least 72 bytes (omega (arith, size));
      actions = ap (bad_action 72) rest ∙ none;
      fields = ap (message.FlowMod xid) mods_are;
    }
