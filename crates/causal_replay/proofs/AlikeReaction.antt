-- Hosts that are equal but for the numbers react alike to alike items.
use Rattle.std.proofs.Common.{◌≡◌, ◌∙◌, ◌==◌, ℕ, Bool, true, false, List, [], ◌∷◌, map, if◌then◌else◌, refl, sym, ap}
use Rattle.std.specs.List.{flat_map}
use Rattle.controller_api.specs.Reaction.{Reaction}
use Rattle.controller_api.specs.declared.item.UpItem.{UpItem}
use Rattle.controller_api.specs.declared.item.UpItem.TheVariants.{FromSwitch, Gone, Policy}
use Rattle.controller_host.specs.Hosting.{Hosting, hosting, reacting, reacting_all, sending, telling}
use Rattle.controller_host.specs.Numbering.{cookie_after, next_xid, numbered, with_numbers}
use Rattle.controller_host.specs.declared.app.App.{App}
use Rattle.controller_host.specs.declared.app.App.TheVariants as app
use Rattle.masked_equivalence.specs.Mask.{masked, masked_message}
use Rattle.message_pools.specs.declared.item.Item.TheVariants as item
use Rattle.of10_messages.specs.declared.message.Message.{Message}
use Rattle.of10_messages.specs.declared.message.Message.TheVariants as message
use Rattle.causal_replay.specs.AlikeHosts.{AlikeReactions, masked_heard, masked_host, masked_sent}
use Rattle.causal_replay.specs.Congruence.{masked_answer}

-- the host that a reaction comes to and what it sends, without the numbers
abbrev masked_reaction : Reaction Hosting → Reaction Hosting
masked_reaction reaction = record { state = masked_host reaction.state; sent = map masked_sent reaction.sent }

-- a mask hides the numbers that a host gives
renumbered : (xid cookie : ℕ) (m : Message) → masked_message (with_numbers xid cookie m) ≡ masked_message m
renumbered xid cookie (message.FlowMod before mods) = by (mods.command == 0) where
  by : (b : Bool) → masked_message (if b then message.FlowMod xid (record mods { cookie = cookie }) else message.FlowMod xid mods)
      ≡ masked_message (message.FlowMod before mods)
  by true = refl
  by false = refl
renumbered xid cookie _ = refl

numbered_masked : (messages : List (ℕ × Message)) (xid cookie : ℕ) → map masked_sent (numbered xid cookie messages).sent ≡ map masked_sent messages
numbered_masked [] xid cookie = refl
numbered_masked (one ∷ rest) xid cookie =
    let first = renumbered xid cookie one.1 in
    let others = numbered_masked rest (next_xid xid) (cookie_after cookie one.1) in
    λ i. (one.0, first i) ∷ others i

module _ (h k : Hosting) (same : masked_host h ≡ masked_host k) where
  sending_alike : (one two : List App) (messages others : List (ℕ × Message)) → one ≡ two → messages ≡ others
      → masked_reaction (sending h one messages) ≡ masked_reaction (sending k two others)
  sending_alike one two messages others apps alike =
      let sent : map masked_sent (numbered h.xid h.cookie messages).sent ≡ map masked_sent (numbered k.xid k.cookie others).sent =
      numbered_masked messages h.xid h.cookie ∙ (ap (map masked_sent) alike ∙ sym (numbered_masked others k.xid k.cookie)) in
      λ i. record { state = record { apps = apps i; xid = 0; cookie = 0 }; sent = sent i }

  -- where each application reacts in one way to two items, so do they all
  telling_alike : (u v : UpItem) → ((one : App) → reacting one u ≡ reacting one v) → masked_reaction (telling h u) ≡ masked_reaction (telling k v)
  telling_alike u v each =
      sending_alike (reacting_all h.apps u).state (reacting_all k.apps v).state (reacting_all h.apps u).sent (reacting_all k.apps v).sent
      (λ i. map (λ one. (each one i).state) (same i).apps) (λ i. flat_map (λ one. (each one i).sent) (same i).apps)

  quiet : masked_reaction (record { state = h; sent = [] }) ≡ masked_reaction (record { state = k; sent = [] })
  quiet = λ i. record { state = same i; sent = [] }

  -- a message, and what is left of it
  message_alike : (s : ℕ) (m : Message) → masked_reaction (hosting h (FromSwitch s m)) ≡ masked_reaction (hosting k (FromSwitch s (masked_answer m)))
  message_alike s (message.Hello xid) =
      sending_alike h.apps k.apps ((s, message.Hello 0) ∷ (s, message.FeaturesRequest 0) ∷ []) ((s, message.Hello 0) ∷ (s, message.FeaturesRequest 0) ∷ [])
      (λ i. (same i).apps) refl
  message_alike s (message.EchoRequest xid content) = λ i. record { state = same i; sent = (s, message.EchoReply 0 content) ∷ [] }
  message_alike s (message.FeaturesReply xid features) =
      telling_alike (FromSwitch s (message.FeaturesReply xid features)) (FromSwitch s (message.FeaturesReply 0 features)) each where
        each : (one : App) → reacting one (FromSwitch s (message.FeaturesReply xid features)) ≡ reacting one (FromSwitch s (message.FeaturesReply 0 features))
        each (app.Learning learner) = refl
        each (app.Firewall wall) = refl
        each (app.Routing router) = refl
  message_alike s (message.PacketIn xid buffer_id total_len in_port reason content) =
      telling_alike (FromSwitch s (message.PacketIn xid buffer_id total_len in_port reason content)) (FromSwitch s (message.PacketIn 0 0 total_len in_port reason content)) each where
        each : (one : App) → reacting one (FromSwitch s (message.PacketIn xid buffer_id total_len in_port reason content))
            ≡ reacting one (FromSwitch s (message.PacketIn 0 0 total_len in_port reason content))
        each (app.Learning learner) = refl
        each (app.Firewall wall) = refl
        each (app.Routing router) = refl
  message_alike s (message.PortStatus xid reason port) =
      telling_alike (FromSwitch s (message.PortStatus xid reason port)) (FromSwitch s (message.PortStatus 0 reason port)) each where
        each : (one : App) → reacting one (FromSwitch s (message.PortStatus xid reason port)) ≡ reacting one (FromSwitch s (message.PortStatus 0 reason port))
        each (app.Learning learner) = refl
        each (app.Firewall wall) = refl
        each (app.Routing router) = refl
  message_alike s _ = quiet

  pub heard_alike : (u : UpItem) → masked_reaction (hosting h u) ≡ masked_reaction (hosting k (masked_heard u))
  heard_alike (FromSwitch s m) = message_alike s m
  heard_alike (Gone s) = telling_alike (Gone s) (Gone s) (λ one. refl)
  heard_alike (Policy deny) = telling_alike (Policy deny) (Policy deny) (λ one. refl)

pub alike_at_heard : (h k : Hosting) (u v : UpItem) → masked_host h ≡ masked_host k → masked_heard u ≡ masked_heard v → AlikeReactions (hosting h u) (hosting k v)
alike_at_heard h k u v same alike =
    let both : masked_reaction (hosting h u) ≡ masked_reaction (hosting k v) =
    heard_alike h k same u ∙ (ap (λ (w : UpItem). masked_reaction (hosting k w)) alike ∙ sym (heard_alike k k refl v)) in
    record { state = λ i. (both i).state; sent = λ i. (both i).sent }

-- a mask keeps what is left of a message
answer_masked : (m : Message) → masked_answer m ≡ masked_answer (masked_message m)
answer_masked (message.Hello xid) = refl
answer_masked _ = refl

pub alike_heard : (s : ℕ) (m n : Message) → masked (item.Message m) ≡ masked (item.Message n) → masked_heard (FromSwitch s m) ≡ masked_heard (FromSwitch s n)
alike_heard s m n alike =
    let one : masked_message m ≡ masked_message n = cc in
    let left : masked_answer m ≡ masked_answer n = answer_masked m ∙ (ap masked_answer one ∙ sym (answer_masked n)) in
    λ i. FromSwitch s (left i)
