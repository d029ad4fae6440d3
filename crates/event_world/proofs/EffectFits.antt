-- The effect of an input is one that the network can take: its status, and its mail.
use Rattle.std.proofs.Common.{◌≡◌, ℕ, ◌+◌, ◌==◌, ◌<◌, ◌≤◌, ◌&&◌, List, [], ◌∷◌, length, map, filter, get_or, filter_map, slice_get, slice_set, slice_index, All, Option, Some, None, Bool, true, false, not, is_none, option_and_then, if◌then◌else◌, ◌⊎◌, inl, inr, refl, sym, ap, ◌∙◌, subst, arith, zero, suc, le_refl, zero-add}
use Rattle.std.specs.List.{enumerate_from, list_any}
use Rattle.std.specs.Option.{option_map_or}
use Rattle.std.proofs.lemmas.Bool.{and_parts, both_ways, cases_Bool, cases_eq, cond_both, eq-eqb, ne_eqb, not-false}
use Rattle.std.proofs.lemmas.List.Elements.{All-append, All-cons, All-filter, All-head, All-map, All-nil, All-tail, All-weaker, filter_passes}
use Rattle.std.proofs.lemmas.List.Folds.{list_any_at}
use Rattle.std.proofs.lemmas.List.FromFn.{get_or-enumerate_from, length-enumerate_from}
use Rattle.std.proofs.lemmas.List.Sums.{sum_by-cons}
use Rattle.std.proofs.lemmas.List.{get_or_default}
use Rattle.std.proofs.lemmas.Option.{cond_some, none-some, option_and_then_some, same_Some, unwrap_or-slice_get}
use Rattle.listed.specs.Lists.{all_at}
use Rattle.of10_match.specs.declared.matches.Match.{Match}
use Rattle.of10_match.specs.Match.{IsValidMatch}
use Rattle.of10_match.specs.declared.packet.Packet.{Packet}
use Rattle.of10_match.specs.Packet.{IsValidPacket}
use Rattle.of10_messages.specs.declared.notice.Notice.{Notice}
use Rattle.of10_messages.specs.declared.notice.Notice.TheVariants.{Tick, Port, Join}
use Rattle.message_pools.specs.declared.item.Item.{Item}
use Rattle.message_pools.specs.declared.item.Item.TheVariants as item
use Rattle.machine_setup.specs.Setup.{IsFreePort, IsInput}
use Rattle.machine_setup.specs.declared.script.Input.{Input}
use Rattle.machine_setup.specs.declared.script.Input.TheVariants.{Inject, LinkDown, LinkUp, SwitchFail, SwitchUp, ControlDown, ControlUp, HostMove, Policy, Seconds}
use Rattle.pool_book.specs.Names.{is_same}
use Rattle.pool_book.specs.declared.name.PoolName.{PoolName}
use Rattle.pool_book.specs.declared.name.PoolName.TheVariants.{Pkt, Note, App, Admin}
use Rattle.topology.specs.Network.{IsPort, ends_of, far_end, is_place, joints}
use Rattle.topology.specs.Status.{IsStatus, host_at, is_up}
use Rattle.topology.specs.declared.network.Topology.{Topology}
use Rattle.topology.specs.declared.status.Status.{Status}
use Rattle.event_world.proofs.Lists.{all_given}
use Rattle.event_world.proofs.Sent.{IsSent, IsSilent, no_policies, no_policy_to, no_seconds}
use Rattle.event_world.proofs.StatusKept.{control_set, down_before, link_set, place_set, switch_set, up_set_other, up_set_same}
use Rattle.event_world.specs.Fits.{IsDeliverable, IsNoticeOf, seconds_of, seconds_to}
use Rattle.event_world.specs.Inputs.{channel_down, channel_up, down_mask, effect, ends_at, has_owner, host_moves, injected, is_open, joins, link_down, link_up, no_effect, pools_of, ports_of, seconds_pass, sends_only, switch_comes, switch_fails, tells, tells_gone, tells_neighbours}
use Rattle.event_world.specs.Mail.{Mail, owner_of}
use Rattle.event_world.specs.Room.{count_for}
use Rattle.event_world.specs.declared.effect.Effect.{Effect}

-- An effect that the network can take: its status is one of the network, where a switch goes down all its pools are flushed,
-- its mail may be put into the pools, and tells a switch of no more seconds and a controller of no more policies than an input may.
pub record IsEffect (topology : Topology) (before : Status) (change : Effect) : Type 0 where
  pub status : IsStatus topology change.status
  pub downs : (s : ℕ) → is_up change.status.switch_up s ≡ false → (is_up before.switch_up s ≡ false) ⊎ (change.flushes ≡ pools_of topology s)
  pub mail : All (IsDeliverable topology.ports change.status) change.mail
  pub seconds : (s : ℕ) → seconds_to s change.mail ≤ 1000000
  pub policies : (c : ℕ) → count_for (Admin c) change.mail ≤ 1

-- ---- mail that tells neither of seconds nor of policies

-- an effect whose mail may be sent by an actor too
plain_effect : (topology : Topology) (before : Status) (change : Effect) → IsStatus topology change.status
    → ((s : ℕ) → is_up change.status.switch_up s ≡ false → (is_up before.switch_up s ≡ false) ⊎ (change.flushes ≡ pools_of topology s))
    → All (IsSent topology.ports change.status) change.mail → IsEffect topology before change
plain_effect topology before change is downs all = record {
  status = is;
  downs = downs;
  mail = All-weaker (IsSent topology.ports change.status) (IsDeliverable topology.ports change.status) (λ one h. h.deliverable) change.mail all;
  seconds = λ s. let none = no_seconds s change.mail (All-weaker (IsSent topology.ports change.status) IsSilent (λ one h. h.silent) change.mail all) in omega arith;
  policies = λ c. let none = no_policies c change.mail (All-weaker (IsSent topology.ports change.status) IsSilent (λ one h. h.silent) change.mail all) in omega arith;
}

-- nothing but the status changes, and no switch goes down
quiet_effect : (topology : Topology) (before after : Status) → IsStatus topology after → ((s : ℕ) → is_up after.switch_up s ≡ false → is_up before.switch_up s ≡ false) → IsEffect topology before (no_effect after)
quiet_effect topology before after is stays = plain_effect topology before (no_effect after) is (λ s down. inl (stays s down)) (All-nil (IsSent topology.ports after))

-- ---- what may be told

-- a switch that is up is told of a port of its own, or to join
plain_notice : (ports : List ℕ) (status : Status) (s : ℕ) (notice : Notice) → IsNoticeOf (slice_index ports s) notice → seconds_of (item.Notice notice) ≡ 0 → is_up status.switch_up s ≡ true
    → IsSent ports status (tells s notice)
plain_notice ports status s notice kind none up = record {
  deliverable = record { kind = kind; up = λ t here. let same : s ≡ t = same_Some s t here in subst (λ (n : ℕ). is_up status.switch_up n ≡ true) same up };
  silent = record { seconds = none; policy = λ c. refl };
}

-- a controller is told that the channel to a switch is gone
plain_gone : (ports : List ℕ) (status : Status) (s : ℕ) (owner : Option ℕ) → All (IsSent ports status) (option_map_or (λ c. (App c s, item.Gone) ∷ []) owner [])
plain_gone ports status s None = All-nil (IsSent ports status)
plain_gone ports status s (Some c) = All-cons (IsSent ports status) (App c s, item.Gone) []
    (record { deliverable = record { kind = tt; up = λ t here. absurd (none-some t here) }; silent = record { seconds = refl; policy = λ d. refl } })
    (All-nil (IsSent ports status))

-- a switch that is up is told to join
plain_join : (ports : List ℕ) (status : Status) (s mask : ℕ) (owner : Option ℕ) → is_up status.switch_up s ≡ true → All (IsSent ports status) (option_map_or (λ c. tells s (Join mask) ∷ []) owner [])
plain_join ports status s mask None up = All-nil (IsSent ports status)
plain_join ports status s mask (Some c) up = All-cons (IsSent ports status) (tells s (Join mask)) [] (plain_notice ports status s (Join mask) tt refl up) (All-nil (IsSent ports status))

plain_joins : (topology : Topology) (status : Status) (s : ℕ) → is_up status.switch_up s ≡ true → All (IsSent topology.ports status) (joins topology status s)
plain_joins topology status s up =
    cond_both (is_up status.control_up s) (option_map_or (λ c. tells s (Join (down_mask topology status s)) ∷ []) (owner_of topology s) []) [] (All (IsSent topology.ports status))
    (λ e. plain_join topology.ports status s (down_mask topology status s) (owner_of topology s) up)
    (λ e. All-nil (IsSent topology.ports status))

-- ---- links

-- the ends of a link are ports
ends_ports : (ports : List ℕ) (links : List (ℕ × ℕ × ℕ × ℕ)) (link : ℕ) → All (IsPort ports) (ends_of links) → All (IsPort ports) (option_map_or (λ ends. (ends.0, ends.1) ∷ (ends.2, ends.3) ∷ []) (slice_get links link) [])
ends_ports ports [] link all = All-nil (IsPort ports)
ends_ports ports (ends ∷ links) zero all =
    let later = All-tail (IsPort ports) (ends.0, ends.1) ((ends.2, ends.3) ∷ ends_of links) all in
    All-cons (IsPort ports) (ends.0, ends.1) ((ends.2, ends.3) ∷ []) (All-head (IsPort ports) (ends.0, ends.1) ((ends.2, ends.3) ∷ ends_of links) all)
    (All-cons (IsPort ports) (ends.2, ends.3) [] (All-head (IsPort ports) (ends.2, ends.3) (ends_of links) later) (All-nil (IsPort ports)))
ends_ports ports (ends ∷ links) (suc link) all =
    ends_ports ports links link (All-tail (IsPort ports) (ends.2, ends.3) (ends_of links) (All-tail (IsPort ports) (ends.0, ends.1) ((ends.2, ends.3) ∷ ends_of links) all))

-- what lies at the other end of a link is a port
joints_ports : (ports : List ℕ) (first : ℕ) (links : List (ℕ × ℕ × ℕ × ℕ)) → All (IsPort ports) (ends_of links) → All (λ joint. IsPort ports (joint.1.1, joint.1.2)) (joints first links)
joints_ports ports first [] all = All-nil (λ (joint : (ℕ × ℕ) × (ℕ × ℕ × ℕ)). IsPort ports (joint.1.1, joint.1.2))
joints_ports ports first (ends ∷ links) all =
    let P : (ℕ × ℕ) × (ℕ × ℕ × ℕ) → Type 0 = λ joint. IsPort ports (joint.1.1, joint.1.2) in
    let one = All-head (IsPort ports) (ends.0, ends.1) ((ends.2, ends.3) ∷ ends_of links) all in
    let later = All-tail (IsPort ports) (ends.0, ends.1) ((ends.2, ends.3) ∷ ends_of links) all in
    let other = All-head (IsPort ports) (ends.2, ends.3) (ends_of links) later in
    let rest = joints_ports ports (first + 1) links (All-tail (IsPort ports) (ends.2, ends.3) (ends_of links) later) in
    All-cons P ((ends.0, ends.1), (first, ends.2, ends.3)) (((ends.2, ends.3), (first, ends.0, ends.1)) ∷ joints (first + 1) links) other
    (All-cons P ((ends.2, ends.3), (first, ends.0, ends.1)) (joints (first + 1) links) one rest)

-- the other end of the link at a port is a port
far_port : (topology : Topology) (s p : ℕ) (far : ℕ × ℕ × ℕ) → All (IsPort topology.ports) (ends_of topology.links) → far_end topology s p ≡ Some far → IsPort topology.ports (far.1, far.2)
far_port topology s p far all e =
    let P : ℕ × ℕ × ℕ → Type 0 = λ far. IsPort topology.ports (far.1, far.2) in
    let f : (ℕ × ℕ) × (ℕ × ℕ × ℕ) → Option (ℕ × ℕ × ℕ) = λ joint. if is_place s p joint.0 then Some joint.1 else None in
    let each = all_given (λ (joint : (ℕ × ℕ) × (ℕ × ℕ × ℕ)). IsPort topology.ports (joint.1.1, joint.1.2)) P f (joints 0 topology.links) (joints_ports topology.ports 0 topology.links all)
    (λ joint y port got. subst P ((cond_some (is_place s p joint.0) joint.1 y got).1) port) in
    all_at P (filter_map f (joints 0 topology.links)) 0 far each e

-- the neighbours that are told are up
neighbour_told : (topology : Topology) (status : Status) (s : ℕ) (down : Bool) (port : ℕ) (one : PoolName × Item) → All (IsPort topology.ports) (ends_of topology.links)
    → option_and_then (λ far. if is_open status far then Some (tells far.1 (Port far.2 down)) else None) (far_end topology s port) ≡ Some one → IsSent topology.ports status one
neighbour_told topology status s down port one all e =
    option_and_then_some (λ (far : ℕ × ℕ × ℕ). if is_open status far then Some (tells far.1 (Port far.2 down)) else None) (far_end topology s port) one e (λ far found got.
    let told = cond_some (is_open status far) (tells far.1 (Port far.2 down)) one got in
    let at : IsPort topology.ports (far.1, far.2) = far_port topology s port far all found in
    let up = and_parts (is_up status.link_up far.0) (is_up status.switch_up far.1) told.0 in
    subst (IsSent topology.ports status) told.1 (plain_notice topology.ports status far.1 (Port far.2 down) (at.1, at.2) refl up.1))

plain_neighbours : (topology : Topology) (status : Status) (s : ℕ) (down : Bool) → All (IsPort topology.ports) (ends_of topology.links) → All (IsSent topology.ports status) (tells_neighbours topology status s down)
plain_neighbours topology status s down all =
    all_given (λ (port : ℕ). Unit {0}) (IsSent topology.ports status)
    (λ port. option_and_then (λ far. if is_open status far then Some (tells far.1 (Port far.2 down)) else None) (far_end topology s port)) (ports_of topology s)
    (λ k d lt. tt) (λ port one any e. neighbour_told topology status s down port one all e)

-- the ends at switches that are up are told
plain_ends : (ports : List ℕ) (status : Status) (down : Bool) (ends : List (ℕ × ℕ)) → All (IsPort ports) ends → All (λ end. is_up status.switch_up end.0 ≡ true) ends
    → All (IsSent ports status) (map (λ end. tells end.0 (Port end.1 down)) ends)
plain_ends ports status down ends each up =
    All-map (IsSent ports status) (λ (end : ℕ × ℕ). tells end.0 (Port end.1 down)) ends
    (λ k d lt. let at = each k d lt in plain_notice ports status (get_or ends k d).0 (Port (get_or ends k d).1 down) (at.1, at.2) refl (up k d lt))

-- where no element passes a test, each fails it
none_passes : {A : Type 0} (test : A → Bool) (xs : List A) → list_any test xs ≡ false → All (λ x. test x ≡ false) xs
none_passes test xs none k d lt = elim (cases_Bool (test (get_or xs k d))) [
  | inl passes ↦ absurd (both_ways (list_any test xs) none (list_any_at test xs k d lt passes))
  | inr fails ↦ fails
]

link_down_fits : (topology : Topology) (status : Status) (link : ℕ) → IsStatus topology status → IsEffect topology status (link_down topology status link)
link_down_fits topology status link is =
    let ends = ends_at topology link in
    let test : ℕ × ℕ → Bool = λ end. is_up status.switch_up end.0 in
    plain_effect topology status (link_down topology status link) (link_set topology status link false is) (λ s down. inl down)
    (plain_ends topology.ports (link_down topology status link).status true (filter test ends)
    (All-filter test (IsPort topology.ports) ends (ends_ports topology.ports topology.links link is.ends)) (filter_passes test ends))

link_up_fits : (topology : Topology) (status : Status) (link : ℕ) → IsStatus topology status → IsEffect topology status (link_up topology status link)
link_up_fits topology status link is =
    let ends = ends_at topology link in
    let after = (link_up topology status link).status in
    let test : ℕ × ℕ → Bool = λ end. not (is_up status.switch_up end.0) in
    plain_effect topology status (link_up topology status link) (link_set topology status link true is) (λ s down. inl down)
    (cond_both (list_any test ends) [] (map (λ (end : ℕ × ℕ). tells end.0 (Port end.1 false)) ends) (All (IsSent topology.ports after))
    (λ e. All-nil (IsSent topology.ports after))
    (λ e. plain_ends topology.ports after false ends (ends_ports topology.ports topology.links link is.ends)
    (λ k d lt. not-false (is_up status.switch_up (get_or ends k d).0) (none_passes test ends e k d lt))))

-- ---- switches

switch_fails_fits : (topology : Topology) (status : Status) (s : ℕ) → IsStatus topology status → IsEffect topology status (switch_fails topology status s)
switch_fails_fits topology status s is =
    let after = (switch_fails topology status s).status in
    plain_effect topology status (switch_fails topology status s) (switch_set topology status s false is)
    (λ t down. elim (cases_eq t s) [
      | inl same ↦ inr (ap (pools_of topology) (sym same))
      | inr other ↦ inl (sym (up_set_other status.switch_up s t false other) ∙ down)
    ])
    (All-append (IsSent topology.ports after) (if is_up status.control_up s then tells_gone topology s else []) (tells_neighbours topology after s true)
    (cond_both (is_up status.control_up s) (tells_gone topology s) [] (All (IsSent topology.ports after)) (λ e. plain_gone topology.ports after s (owner_of topology s)) (λ e. All-nil (IsSent topology.ports after)))
    (plain_neighbours topology after s true is.ends))

switch_comes_fits : (topology : Topology) (status : Status) (s : ℕ) → IsStatus topology status → s < length topology.ports → IsEffect topology status (switch_comes topology status s)
switch_comes_fits topology status s is within =
    let after = (switch_comes topology status s).status in
    let long = is.switches in
    let short : s < length status.switch_up = omega arith in
    plain_effect topology status (switch_comes topology status s) (switch_set topology status s true is)
    (λ t down. inl (down_before status.switch_up s t short down))
    (All-append (IsSent topology.ports after) (tells_neighbours topology after s false) (joins topology after s)
    (plain_neighbours topology after s false is.ends) (plain_joins topology after s (up_set_same status.switch_up s true short)))

channel_down_fits : (topology : Topology) (status : Status) (s : ℕ) → IsStatus topology status → IsEffect topology status (channel_down topology status s)
channel_down_fits topology status s is =
    let after = (channel_down topology status s).status in
    plain_effect topology status (channel_down topology status s) (control_set topology status s false is) (λ t down. inl down)
    (cond_both (is_up status.switch_up s) (tells_gone topology s) [] (All (IsSent topology.ports after)) (λ e. plain_gone topology.ports after s (owner_of topology s)) (λ e. All-nil (IsSent topology.ports after)))

channel_up_fits : (topology : Topology) (status : Status) (s : ℕ) → IsStatus topology status → IsEffect topology status (channel_up topology status s)
channel_up_fits topology status s is =
    let after = (channel_up topology status s).status in
    plain_effect topology status (channel_up topology status s) (control_set topology status s true is) (λ t down. inl down)
    (cond_both (is_up status.switch_up s) (joins topology after s) [] (All (IsSent topology.ports after)) (λ e. plain_joins topology after s e) (λ e. All-nil (IsSent topology.ports after)))

-- ---- hosts, policies and seconds

-- a packet comes to a switch that is up
plain_packet : (ports : List ℕ) (status : Status) (packet : Packet) (place : ℕ × ℕ) → IsValidPacket packet → is_up status.switch_up place.0 ≡ true → IsSent ports status (Pkt place.0 place.1, item.Packet packet)
plain_packet ports status packet place valid up = record {
  deliverable = record { kind = valid; up = λ t here. let same : place.0 ≡ t = same_Some place.0 t here in subst (λ (n : ℕ). is_up status.switch_up n ≡ true) same up };
  silent = record { seconds = refl; policy = λ c. refl };
}

injected_fits : (topology : Topology) (status : Status) (packet : Packet) (place : Option (ℕ × ℕ)) → IsStatus topology status → IsValidPacket packet → IsEffect topology status (injected status packet place)
injected_fits topology status packet None is valid = quiet_effect topology status status is (λ s down. down)
injected_fits topology status packet (Some place) is valid =
    let sent = sends_only status ((Pkt place.0 place.1, item.Packet packet) ∷ []) in
    cond_both (is_up status.switch_up place.0) sent (no_effect status) (IsEffect topology status)
    (λ e. plain_effect topology status sent is (λ s down. inl down) (All-cons (IsSent topology.ports status) (Pkt place.0 place.1, item.Packet packet) [] (plain_packet topology.ports status packet place valid e) (All-nil (IsSent topology.ports status))))
    (λ e. quiet_effect topology status status is (λ s down. down))

host_moves_fits : (topology : Topology) (status : Status) (host : ℕ) (place : ℕ × ℕ) → IsStatus topology status → IsFreePort topology place → IsEffect topology status (host_moves status host place)
host_moves_fits topology status host place is free =
    let after : Status = record status { place = slice_set status.place host place } in
    cond_both (is_none (host_at status place.0 place.1)) (no_effect after) (no_effect status) (IsEffect topology status)
    (λ e. quiet_effect topology status after (place_set topology status host place is free e) (λ s down. down))
    (λ e. quiet_effect topology status status is (λ s down. down))

policy_fits : (topology : Topology) (status : Status) (c : ℕ) (deny : Match) → IsStatus topology status → IsValidMatch deny → IsEffect topology status (sends_only status ((Admin c, item.Policy deny) ∷ []))
policy_fits topology status c deny is valid = record {
  status = is;
  downs = λ s down. inl down;
  mail = All-cons (IsDeliverable topology.ports status) (Admin c, item.Policy deny) [] (record { kind = valid; up = λ t here. absurd (none-some t here) }) (All-nil (IsDeliverable topology.ports status));
  seconds = λ s. omega arith;
  policies = λ d. cond_both (d == c) 1 0 (λ n. 0 + n ≤ 1) (λ e. omega arith) (λ e. omega arith);
}

-- what the switches that are up, counted from a number on, are told of
abbrev tick_mail : ℕ → ℕ → List Bool → Mail
tick_mail n first flags = map (λ switch. tells switch.0 (Tick n)) (filter (λ switch. switch.1) (enumerate_from first flags))

-- how many seconds an item tells a switch of
abbrev tick_of : ℕ → PoolName × Item → ℕ
tick_of s one = if is_same (Note s) one.0 then seconds_of one.1 else 0

-- a switch is told once
ticks_past : (s n first : ℕ) (flags : List Bool) → s < first → seconds_to s (tick_mail n first flags) ≤ 0
ticks_past s n first [] before = le_refl 0
ticks_past s n first (false ∷ flags) before = ticks_past s n (first + 1) flags (omega arith)
ticks_past s n first (true ∷ flags) before =
    let rest = ticks_past s n (first + 1) flags (omega arith) in
    let other : tick_of s (tells first (Tick n)) ≡ 0 = rw (ne_eqb s first (λ e. omega arith)) refl in
    let all = sum_by-cons (tick_of s) (tells first (Tick n)) (tick_mail n (first + 1) flags) in
    omega arith

ticks_once : (s n first : ℕ) (flags : List Bool) → seconds_to s (tick_mail n first flags) ≤ n
ticks_once s n first [] = omega arith
ticks_once s n first (false ∷ flags) = ticks_once s n (first + 1) flags
ticks_once s n first (true ∷ flags) =
    let all = sum_by-cons (tick_of s) (tells first (Tick n)) (tick_mail n (first + 1) flags) in
    elim (cases_eq s first) [
      | inl same ↦
          let here : tick_of s (tells first (Tick n)) ≡ n = rw (eq-eqb s first same) refl in
          let rest = ticks_past s n (first + 1) flags (omega arith) in
          omega arith
      | inr other ↦
          let here : tick_of s (tells first (Tick n)) ≡ 0 = rw (ne_eqb s first other) refl in
          let rest = ticks_once s n (first + 1) flags in
          omega arith
    ]

-- each flag that is set is the one at its number
flags_at : (flags : List Bool) → All (λ flag. flag.1 ≡ true → is_up flags flag.0 ≡ true) (enumerate_from 0 flags)
flags_at flags k d lt =
    let short : k < length flags = omega (arith, length-enumerate_from 0 flags) in
    let at : get_or (enumerate_from 0 flags) k d ≡ (0 + k, get_or flags k d.1) = get_or-enumerate_from 0 flags k d short in
    subst (λ (flag : ℕ × Bool). flag.1 ≡ true → is_up flags flag.0 ≡ true) (sym at)
    (λ set. ap (λ m. is_up flags m) (zero-add k) ∙ unwrap_or-slice_get flags k false ∙ get_or_default flags k false d.1 short ∙ set)

seconds_fit : (topology : Topology) (status : Status) (n : ℕ) → IsStatus topology status → n ≤ 1000000 → IsEffect topology status (seconds_pass status n)
seconds_fit topology status n is few =
    let switches = filter (λ (switch : ℕ × Bool). switch.1) (enumerate_from 0 status.switch_up) in
    let set = filter_passes (λ (switch : ℕ × Bool). switch.1) (enumerate_from 0 status.switch_up) in
    let ups = All-filter (λ (switch : ℕ × Bool). switch.1) (λ switch. switch.1 ≡ true → is_up status.switch_up switch.0 ≡ true) (enumerate_from 0 status.switch_up) (flags_at status.switch_up) in record {
      status = is;
      downs = λ s down. inl down;
      mail = All-map (IsDeliverable topology.ports status) (λ (switch : ℕ × Bool). tells switch.0 (Tick n)) switches (λ k d lt. record {
        kind = tt;
        up = λ t here. let same : (get_or switches k d).0 ≡ t = same_Some (get_or switches k d).0 t here in subst (λ (m : ℕ). is_up status.switch_up m ≡ true) same (ups k d lt (set k d lt));
      });
      seconds = λ s. let once = ticks_once s n 0 status.switch_up in omega arith;
      policies = λ c. let none = no_policy_to c (tick_mail n 0 status.switch_up) (All-map (λ (one : PoolName × Item). is_same (Admin c) one.0 ≡ false) (λ (switch : ℕ × Bool). tells switch.0 (Tick n)) switches (λ k d lt. refl)) in omega arith;
    }

-- ---- all inputs

pub effect_fits : (topology : Topology) (controllers : ℕ) (status : Status) (input : Input) → IsStatus topology status → IsInput topology controllers input → IsEffect topology status (effect topology status input)
effect_fits topology controllers status (Inject host packet) is valid = injected_fits topology status packet (slice_get status.place host) is valid.1
effect_fits topology controllers status (LinkDown link) is valid = cond_both (is_up status.link_up link) (link_down topology status link) (no_effect status) (IsEffect topology status)
    (λ e. link_down_fits topology status link is) (λ e. quiet_effect topology status status is (λ s down. down))
effect_fits topology controllers status (LinkUp link) is valid = cond_both (is_up status.link_up link) (no_effect status) (link_up topology status link) (IsEffect topology status)
    (λ e. quiet_effect topology status status is (λ s down. down)) (λ e. link_up_fits topology status link is)
effect_fits topology controllers status (SwitchFail s) is valid = cond_both (is_up status.switch_up s) (switch_fails topology status s) (no_effect status) (IsEffect topology status)
    (λ e. switch_fails_fits topology status s is) (λ e. quiet_effect topology status status is (λ s down. down))
effect_fits topology controllers status (SwitchUp s) is valid = cond_both (is_up status.switch_up s) (no_effect status) (switch_comes topology status s) (IsEffect topology status)
    (λ e. quiet_effect topology status status is (λ s down. down)) (λ e. switch_comes_fits topology status s is valid)
effect_fits topology controllers status (ControlDown s) is valid = cond_both (has_owner topology s && is_up status.control_up s) (channel_down topology status s) (no_effect status) (IsEffect topology status)
    (λ e. channel_down_fits topology status s is) (λ e. quiet_effect topology status status is (λ s down. down))
effect_fits topology controllers status (ControlUp s) is valid = cond_both (has_owner topology s && not (is_up status.control_up s)) (channel_up topology status s) (no_effect status) (IsEffect topology status)
    (λ e. channel_up_fits topology status s is) (λ e. quiet_effect topology status status is (λ s down. down))
effect_fits topology controllers status (HostMove host s p) is valid = host_moves_fits topology status host (s, p) is valid.1
effect_fits topology controllers status (Policy c deny) is valid = policy_fits topology status c deny is valid.1
effect_fits topology controllers status (Seconds n) is valid = seconds_fit topology status n is valid.1
