-- The mail that actors send may be delivered; it tells no switch of seconds, and no controller of a policy.
use Rattle.std.proofs.Common.{◌≡◌, ℕ, ◌*◌, ◌≤◌, ◌&&◌, Bool, true, false, cond, List, length, All, Option, Some, None, option_map, arith, inl, inr, refl, subst}
use Rattle.std.proofs.lemmas.Bool.{and_parts, cases_Bool, cond_both}
use Rattle.std.proofs.lemmas.List.Elements.{All-weaker}
use Rattle.std.proofs.lemmas.List.Sums.{sum_by-le}
use Rattle.std.proofs.lemmas.Option.{cond_some, same_Some}
use Rattle.of10_match.specs.Packet.{IsValidPacket}
use Rattle.of10_match.specs.declared.packet.Packet.{Packet}
use Rattle.of10_messages.specs.Valid.{IsValidMessage}
use Rattle.of10_messages.specs.declared.message.Message.{Message}
use Rattle.controller_api.specs.Reaction.{AreValidMessages}
use Rattle.message_pools.specs.declared.item.Item.{Item}
use Rattle.message_pools.specs.declared.item.Item.TheVariants as item
use Rattle.pool_book.specs.Names.{is_same}
use Rattle.pool_book.specs.declared.name.PoolName.{PoolName}
use Rattle.pool_book.specs.declared.name.PoolName.TheVariants.{Ctl, Pkt, Note, App, Admin, Recv}
use Rattle.topology.specs.Network.{far_end}
use Rattle.topology.specs.Status.{host_at, is_up, landing_of}
use Rattle.topology.specs.declared.network.Topology.{Topology}
use Rattle.topology.specs.declared.status.Status.{Status}
use Rattle.event_world.specs.Fits.{IsDeliverable, seconds_of, seconds_to}
use Rattle.event_world.specs.Mail.{Mail, addressed, down_to, is_under, mail_down, mail_out, mail_up, out_of, owner_of, pool_at, up_from}
use Rattle.event_world.specs.Room.{count_for}
use Rattle.event_world.proofs.Lists.{all_given, length_given}

-- ---- mail that tells of no seconds and no policy

-- an item that is neither a number of seconds nor a policy
pub record IsSilent (one : PoolName × Item) : Type 0 where
  pub seconds : seconds_of one.1 ≡ 0
  pub policy : (c : ℕ) → is_same (Admin c) one.0 ≡ false

-- it tells a switch of no seconds
pub no_seconds : (s : ℕ) (mail : Mail) → All IsSilent mail → seconds_to s mail ≡ 0
no_seconds s mail silent =
    let none : seconds_to s mail ≤ length mail * 0 = sum_by-le (λ (one : PoolName × Item). cond (is_same (Note s) one.0) (seconds_of one.1) 0) 0 mail
    (All-weaker IsSilent (λ (one : PoolName × Item). cond (is_same (Note s) one.0) (seconds_of one.1) 0 ≤ 0)
    (λ one h. cond_both (is_same (Note s) one.0) (seconds_of one.1) 0 (λ (n : ℕ). n ≤ 0) (λ holds. let none = h.seconds in omega arith) (λ fails. omega arith)) mail silent) in
    omega arith

-- mail to no pool of a controller's policies tells it of none
pub no_policy_to : (c : ℕ) (mail : Mail) → All (λ one. is_same (Admin c) one.0 ≡ false) mail → count_for (Admin c) mail ≡ 0
no_policy_to c mail other =
    let none : count_for (Admin c) mail ≤ length mail * 0 = sum_by-le (λ (one : PoolName × Item). cond (is_same (Admin c) one.0) 1 0) 0 mail
    (All-weaker (λ (one : PoolName × Item). is_same (Admin c) one.0 ≡ false) (λ one. cond (is_same (Admin c) one.0) 1 0 ≤ 0) (λ one no. rw no (omega arith)) mail other) in
    omega arith

-- and so it tells no controller of a policy
pub no_policies : (c : ℕ) (mail : Mail) → All IsSilent mail → count_for (Admin c) mail ≡ 0
no_policies c mail silent = no_policy_to c mail (All-weaker IsSilent (λ (one : PoolName × Item). is_same (Admin c) one.0 ≡ false) (λ one h. h.policy c) mail silent)

-- ---- what actors send

-- what an actor sends may be put into its pool, and is silent
pub record IsSent (ports : List ℕ) (status : Status) (one : PoolName × Item) : Type 0 where
  pub deliverable : IsDeliverable ports status one
  pub silent : IsSilent one

-- what is addressed to a pool
sent_to : (ports : List ℕ) (status : Status) (name : Option PoolName) (item : Item) (one : PoolName × Item) → ((to : PoolName) → name ≡ Some to → IsSent ports status (to, item)) → addressed name item ≡ Some one → IsSent ports status one
sent_to ports status None item one sent e = absurd cc
sent_to ports status (Some to) item one sent e = subst (IsSent ports status) (same_Some (to, item) one e) (sent to refl)

-- a message from a switch
up_sent : (ports : List ℕ) (status : Status) (s : ℕ) (message : Message) (is_there : Bool) (owner : Option ℕ) (to : PoolName) → IsValidMessage message → cond is_there (option_map (λ c. App c s) owner) None ≡ Some to → IsSent ports status (to, item.Message message)
up_sent ports status s message true None to valid e = absurd cc
up_sent ports status s message true (Some c) to valid e = subst (λ (to : PoolName). IsSent ports status (to, item.Message message)) (same_Some (App c s) to e) (record {
  deliverable = record { kind = valid; up = λ t at. absurd cc };
  silent = record { seconds = refl; policy = λ d. refl };
})
up_sent ports status s message false owner to valid e = absurd cc

pub mail_up_sent : (topology : Topology) (status : Status) (s : ℕ) (up : List Message) → All IsValidMessage up → All (IsSent topology.ports status) (mail_up topology status s up)
mail_up_sent topology status s up valid =
    all_given IsValidMessage (IsSent topology.ports status) (λ message. addressed (up_from topology status s) (item.Message message)) up valid
    (λ message one v e. sent_to topology.ports status (up_from topology status s) (item.Message message) one (λ to at. up_sent topology.ports status s message (is_up status.control_up s) (owner_of topology s) to v at) e)

-- a packet that lands at a switch that is up, or at a host
out_sent : (ports : List ℕ) (status : Status) (packet : Packet) (far : Option (ℕ × ℕ × ℕ)) (host : Option ℕ) (to : PoolName) → IsValidPacket packet → pool_at (landing_of status far host) ≡ Some to → IsSent ports status (to, item.Packet packet)
out_sent ports status packet None None to valid e = absurd cc
out_sent ports status packet None (Some host) to valid e = subst (λ (to : PoolName). IsSent ports status (to, item.Packet packet)) (same_Some (Recv host) to e) (record {
  deliverable = record { kind = valid; up = λ t at. absurd cc };
  silent = record { seconds = refl; policy = λ d. refl };
})
out_sent ports status packet (Some far) host to valid e = elim (cases_Bool (is_up status.link_up far.0)) [
  | inl clear ↦ elim (cases_Bool (is_up status.switch_up far.1)) [
    | inl up ↦
        let here : ◌≡◌ {A = Option PoolName} (Some (Pkt far.1 far.2)) (Some to) = rw (clear, up) at e in
        subst (λ (to : PoolName). IsSent ports status (to, item.Packet packet)) (same_Some (Pkt far.1 far.2) to here) (record {
          deliverable = record { kind = valid; up = λ t at. subst (λ (n : ℕ). is_up status.switch_up n ≡ true) (same_Some far.1 t at) up };
          silent = record { seconds = refl; policy = λ d. refl };
        })
    | inr down ↦ let none : ◌≡◌ {A = Option PoolName} None (Some to) = rw (clear, down) at e in absurd cc
  ]
  | inr closed ↦ let none : ◌≡◌ {A = Option PoolName} None (Some to) = rw closed at e in absurd cc
]

pub mail_out_sent : (topology : Topology) (status : Status) (s : ℕ) (out : List (ℕ × Packet)) → All (λ emitted. IsValidPacket emitted.1) out → All (IsSent topology.ports status) (mail_out topology status s out)
mail_out_sent topology status s out valid =
    all_given (λ (emitted : ℕ × Packet). IsValidPacket emitted.1) (IsSent topology.ports status) (λ emitted. addressed (out_of topology status s emitted.0) (item.Packet emitted.1)) out valid
    (λ emitted one v e. sent_to topology.ports status (out_of topology status s emitted.0) (item.Packet emitted.1) one (λ to at. out_sent topology.ports status emitted.1 (far_end topology s emitted.0) (host_at status s emitted.0) to v at) e)

-- a message from a controller comes to a switch that is up
down_sent : (ports : List ℕ) (status : Status) (s : ℕ) (message : Message) (own clear : Bool) (to : PoolName) → IsValidMessage message → cond (own && (clear && is_up status.switch_up s)) (Some (Ctl s)) None ≡ Some to → IsSent ports status (to, item.Message message)
down_sent ports status s message own clear to valid e =
    let there = cond_some (own && (clear && is_up status.switch_up s)) (Ctl s) to e in
    let up = (and_parts clear (is_up status.switch_up s) (and_parts own (clear && is_up status.switch_up s) there.0).1).1 in
    subst (λ (to : PoolName). IsSent ports status (to, item.Message message)) there.1 (record {
      deliverable = record { kind = valid; up = λ t at. subst (λ (n : ℕ). is_up status.switch_up n ≡ true) (same_Some s t at) up };
      silent = record { seconds = refl; policy = λ d. refl };
    })

pub mail_down_sent : (topology : Topology) (status : Status) (c : ℕ) (sent : List (ℕ × Message)) → AreValidMessages sent → All (IsSent topology.ports status) (mail_down topology status c sent)
mail_down_sent topology status c sent valid =
    all_given (λ (one : ℕ × Message). IsValidMessage one.1) (IsSent topology.ports status) (λ one. addressed (down_to topology status c one.0) (item.Message one.1)) sent valid
    (λ message one v e. sent_to topology.ports status (down_to topology status c message.0) (item.Message message.1) one (λ to at. down_sent topology.ports status message.0 message.1 (is_under topology c message.0) (is_up status.control_up message.0) to v at) e)

-- ---- there is no more mail than what is sent

pub length_up : (topology : Topology) (status : Status) (s : ℕ) (up : List Message) → length (mail_up topology status s up) ≤ length up
length_up topology status s up = length_given (λ message. addressed (up_from topology status s) (item.Message message)) up

pub length_out : (topology : Topology) (status : Status) (s : ℕ) (out : List (ℕ × Packet)) → length (mail_out topology status s out) ≤ length out
length_out topology status s out = length_given (λ emitted. addressed (out_of topology status s emitted.0) (item.Packet emitted.1)) out

pub length_down : (topology : Topology) (status : Status) (c : ℕ) (sent : List (ℕ × Message)) → length (mail_down topology status c sent) ≤ length sent
length_down topology status c sent = length_given (λ one. addressed (down_to topology status c one.0) (item.Message one.1)) sent
