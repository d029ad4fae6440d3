-- How much a routing application sends.
use Rattle.std.proofs.Common.{ℕ, ◌≤◌, ◌&&◌, true, false, List, [], ◌∷◌, Option, Some, None, cond, length, arith}
use Rattle.std.specs.Option.{option_map_or}
use Rattle.app_messages.specs.Sent.{Sighting, header_of, seen_in}
use Rattle.controller_api.specs.declared.item.UpItem.{UpItem}
use Rattle.controller_api.specs.declared.item.UpItem.TheVariants.{FromSwitch}
use Rattle.of10_messages.specs.declared.message.Message.{Message}
use Rattle.of10_messages.specs.declared.message.Message.TheVariants.{FeaturesReply, PortStatus}
use Rattle.route_app.specs.Routing.{Router, at_packet, clearing, forwarding, routing, says_down, unmoved, way_to}

few_on : (s : ℕ) (seen : Sighting) (way : Option ℕ) → length (option_map_or (forwarding s seen) way []) ≤ 2
few_on s seen None = omega arith
few_on s seen (Some port) = omega arith

few_at : (router : Router) (s : ℕ) (o : Option Sighting) → length (option_map_or (λ seen. at_packet s seen router) o (unmoved router)).sent ≤ 2
few_at router s None = omega arith
few_at router s (Some seen) = few_on s seen (way_to router s (header_of seen).dl_dst)

pub few_sent : (router : Router) (item : UpItem) → length (routing router item).sent ≤ 2
few_sent router (FromSwitch s (FeaturesReply xid features)) = omega arith
few_sent router (FromSwitch s (PortStatus xid reason port)) =
    elim (says_down port && router.clear_on_down) as (λ t. length (cond {A = List (ℕ × Message)} t ((s, clearing port.port_no) ∷ []) []) ≤ 2) [ true ↦ omega arith | false ↦ omega arith ]
few_sent router (FromSwitch s message) = few_at router s (seen_in message)
few_sent router other = omega arith
