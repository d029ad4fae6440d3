-- The scenario of every seed can run.
use Rattle.std.proofs.Common.{arith, ◌≡◌, ℕ, ◌*◌, ◌/◌, ◌<◌, ◌≤◌, ◌^◌, List, [], length, map, replicate, slice_index, Bool, true, false, nat_lt, ◌==◌, if◌then◌else◌, Some, subst, sym, ◌∙◌}
use Rattle.std.specs.List.{range_with_len}
use Rattle.std.proofs.lemmas.List.{get_or-replicate, length-replicate}
use Rattle.std.proofs.lemmas.List.Elements.{All-nil, All-replicate}
use Rattle.std.proofs.lemmas.List.FromFn.{length-map-range_with_len}
use Rattle.std.proofs.lemmas.Nat.{mod_below}
use Rattle.std.proofs.lemmas.Option.{get_or_from_slice_get, slice_get_within}
use Rattle.of10_match.specs.Packet.{IsValidPacket}
use Rattle.machine_setup.specs.Setup.{IsInput, IsOwner, IsPreset, IsPresetsAt, IsValidSetup}
use Rattle.machine_setup.specs.declared.preset.Preset.{Preset}
use Rattle.machine_setup.specs.declared.script.Input.{Input}
use Rattle.machine_setup.specs.declared.script.Line.{Line}
use Rattle.scenario_gen.specs.Draws.{Draw, below, next_state}
use Rattle.scenario_gen.specs.Generated.{generated}
use Rattle.scenario_gen.specs.Ring.{host_of, link_of, ring}
use Rattle.scenario_gen.specs.Script.{datagram, failing, input_by, line_of, recovering, sending, state_before, waiting}
use Rattle.scenario_gen.proofs.Numbers.{all_by}
use Rattle.scenario_gen.proofs.Rings.{addresses_differ, apart, ends_are_ports, places_are_ports}

-- ---- the script

datagram_is_valid : (from to k : ℕ) → from < 64 → to < 64 → k < 192 → IsValidPacket (datagram from to k)
datagram_is_valid from to k few_from few_to few = record {
  header = record {
    dl_src = omega arith;
    dl_dst = omega arith;
    dl_vlan = omega arith;
    dl_vlan_pcp = omega arith;
    dl_type = omega arith;
    nw_tos = omega arith;
    nw_proto = omega arith;
    nw_src = omega arith;
    nw_dst = omega arith;
    tp_src = omega arith;
    tp_dst = omega arith;
  };
  tag = omega arith;
}

-- what is drawn below a number is below it
small : (m state : ℕ) → 0 < m → (below m state).got < m
small m state some = mod_below (next_state state / 2 ^ 33) m some

-- so what is drawn below the number of switches is a host, and a link
is_host : (size state : ℕ) → 3 ≤ size → (below size state).got < length (map host_of (range_with_len 0 size))
is_host size state least = rw length-map-range_with_len (small size state (omega arith))

is_link : (size state : ℕ) → 3 ≤ size → (below size state).got < length (map (link_of size) (range_with_len 0 size))
is_link size state least = rw length-map-range_with_len (small size state (omega arith))

-- what holds of each kind of input holds of that which is chosen
of_each : (P : Input → Type 0) (a b c : Bool) (one two three four : Draw Input) (state : ℕ)
    → P (one state).got → P (two state).got → P (three state).got → P (four state).got
    → P ((if a then one else if b then two else if c then three else four) state).got
of_each P true b c one two three four state h i j k = h
of_each P false true c one two three four state h i j k = i
of_each P false false true one two three four state h i j k = j
of_each P false false false one two three four state h i j k = k

packet_fits : (size k state : ℕ) → 3 ≤ size → size ≤ 64 → k < 192 → IsInput (ring size) 1 (sending size k state).got
packet_fits size k state least most few =
    let from = below size state in
    let to = below size from.state in
    let few_from : from.got < size = small size state (omega arith) in
    let few_to : to.got < size = small size from.state (omega arith) in
    (is_host size state least, datagram_is_valid from.got to.got k (omega arith) (omega arith) few)

input_fits : (size k kind state : ℕ) → 3 ≤ size → size ≤ 64 → k < 192 → IsInput (ring size) 1 (input_by size k kind state).got
input_fits size k kind state least most few =
    of_each (IsInput (ring size) 1) (nat_lt kind 5) (kind == 5) (kind == 6) (sending size k) (failing size) (recovering size) waiting state
    (packet_fits size k state least most few) (is_link size state least) (is_link size state least)
    (let few : (below 10 state).got < 10 = small 10 state (omega arith) in (omega arith, omega arith))

-- ---- presets

no_presets_fit : (ports : ℕ) → IsPresetsAt ports []
no_presets_fit ports = record {
  few = omega arith;
  each = All-nil (IsPreset ports);
  differ = λ i j d order less. absurd (omega arith);
}

-- ---- the whole

pub can_run : (seed size : ℕ) → 3 ≤ size → size ≤ 64 → IsValidSetup (generated seed size).setup
can_run seed size least most = record {
  network = record {
    switches = record {
      count = rw length-replicate most;
      ports = All-replicate (λ ports. (1 ≤ ports) × (ports ≤ 48)) size 3 (omega arith, omega arith);
      owners = length-replicate size (Some 0) ∙ sym (length-replicate size 3);
      owned = All-replicate (IsOwner 1) size (Some 0) (omega arith);
    };
    links = rw length-map-range_with_len (omega arith);
    hosts = rw length-map-range_with_len (omega arith);
    wired = record {
      ends = ends_are_ports size least;
      places = places_are_ports size;
      apart = apart size;
      addresses = all_by (λ (host : ℕ × ℕ × ℕ). (1 ≤ host.2) × (host.2 < 2 ^ 48)) host_of size (λ s less. (omega arith, omega arith));
      differ = addresses_differ size;
    };
  };
  few = omega arith;
  starts = record {
    lists = length-replicate {A = List Preset} size [] ∙ sym (length-replicate size 3);
    each = λ s list found.
        let within : s < size = rw (length-replicate {A = List Preset} size []) at (slice_get_within {A = List Preset} _ s list found) in
        let none : list ≡ [] = sym (get_or_from_slice_get _ s list list found) ∙ get_or-replicate size s [] list within in
        subst (IsPresetsAt (slice_index (replicate size 3) s)) (sym none) (no_presets_fit (slice_index (replicate size 3) s));
  };
  lines = rw length-map-range_with_len (omega arith);
  inputs = all_by (λ (line : Line). IsInput (ring size) 1 line.input) (line_of seed size) (3 * size)
      (λ k less. let start = below 8 (state_before seed size k) in input_fits size k start.got start.state least most (omega arith));
  bounds = record { max_events = (omega arith, omega arith); budget = omega arith; workers = (omega arith, omega arith); patience = omega arith };
}
