-- A host: its applications, and how they react together.
use Rattle.std.specs.Prelude.{ℕ, List, [], ◌∷◌, fold, length, map, max}
use Rattle.std.specs.List.{flat_map}
use Rattle.controller_api.specs.Reaction.{Reaction}
use Rattle.controller_api.specs.declared.item.UpItem.{UpItem}
use Rattle.controller_api.specs.declared.item.UpItem.TheVariants.{FromSwitch, Gone, Policy}
use Rattle.controller_apps.specs.Firewall.{guarding, wall_of}
use Rattle.controller_apps.specs.Learning.{learning, unlearnt}
use Rattle.controller_host.specs.Numbering.{numbered}
use Rattle.controller_host.specs.declared.app.App.{App}
use Rattle.controller_host.specs.declared.app.App.TheVariants as app
use Rattle.of10_messages.specs.declared.message.Message.{Message}
use Rattle.of10_messages.specs.declared.message.Message.TheVariants.{EchoReply, EchoRequest, FeaturesReply, FeaturesRequest, Hello, PacketIn, PortStatus}
use Rattle.route_app.specs.Routing.{router_of, routing}

-- the applications in order, the next xid and the next cookie
pub record Hosting : Type 0 where
  pub apps : List App
  pub xid : ℕ
  pub cookie : ℕ

-- as it is made: both numbers begin at 1
abbrev pub hosting_of : List App → Hosting
hosting_of apps = record { apps = apps; xid = 1; cookie = 1 }

-- ---- one application

-- an application's own reaction
abbrev pub reacting : App → UpItem → Reaction App
reacting (app.Learning learner) item = record { state = app.Learning (learning learner item).state; sent = (learning learner item).sent }
reacting (app.Firewall wall) item = record { state = app.Firewall (guarding wall item).state; sent = (guarding wall item).sent }
reacting (app.Routing router) item = record { state = app.Routing (routing router item).state; sent = (routing router item).sent }

-- an application as it starts
abbrev pub as_started : App → App
as_started (app.Learning learner) = app.Learning (unlearnt learner.idle)
as_started (app.Firewall wall) = app.Firewall (wall_of wall.reinstall wall.made)
as_started (app.Routing router) = app.Routing (router_of router.clear_on_down router.map)

-- how many policies an application has: only a firewall keeps them
abbrev pub policies_in : App → ℕ
policies_in (app.Learning learner) = 0
policies_in (app.Firewall wall) = length wall.policies
policies_in (app.Routing router) = 0

-- ---- all of them

-- each application in order; their messages in order
abbrev pub reacting_all : List App → UpItem → Reaction (List App)
reacting_all apps item = record { state = map (λ one. (reacting one item).state) apps; sent = flat_map (λ one. (reacting one item).sent) apps }

-- each application as it starts, and both numbers at 1
abbrev pub starting : Hosting → Hosting
starting host = hosting_of (map as_started host.apps)

-- the greatest number of policies that an application has, 0 where there is no application
abbrev pub policies_of : Hosting → ℕ
policies_of host = fold (λ most one. max most (policies_in one)) 0 host.apps

-- nothing is done
abbrev pub unmoved : Hosting → Reaction Hosting
unmoved host = record { state = host; sent = [] }

-- the applications come to a state, and messages are sent with the next numbers
abbrev pub sending : Hosting → List App → List (ℕ × Message) → Reaction Hosting
sending host apps messages = let after = numbered host.xid host.cookie messages in
    record { state = record { apps = apps; xid = after.xid; cookie = after.cookie }; sent = after.sent }

-- a switch is greeted, and asked what it can do
abbrev pub greeting : ℕ → Hosting → Reaction Hosting
greeting s host = sending host host.apps ((s, Hello 0) ∷ (s, FeaturesRequest 0) ∷ [])

-- each application hears an item
abbrev pub telling : Hosting → UpItem → Reaction Hosting
telling host item = let all = reacting_all host.apps item in sending host all.state all.sent

-- A HELLO is answered by a HELLO and a FEATURES_REQUEST. An ECHO_REQUEST is answered by an ECHO_REPLY with its own xid and data. A
-- FEATURES_REPLY, a PACKET_IN, a PORT_STATUS, a channel that is gone and a policy are told to each application. Nothing else counts.
abbrev pub hosting : Hosting → UpItem → Reaction Hosting
hosting host (FromSwitch s (Hello xid)) = greeting s host
hosting host (FromSwitch s (EchoRequest xid content)) = record { state = host; sent = (s, EchoReply xid content) ∷ [] }
hosting host (FromSwitch s (FeaturesReply xid features)) = telling host (FromSwitch s (FeaturesReply xid features))
hosting host (FromSwitch s (PacketIn xid buffer_id total_len in_port reason content)) = telling host (FromSwitch s (PacketIn xid buffer_id total_len in_port reason content))
hosting host (FromSwitch s (PortStatus xid reason port)) = telling host (FromSwitch s (PortStatus xid reason port))
hosting host (FromSwitch s other) = unmoved host
hosting host (Gone s) = telling host (Gone s)
hosting host (Policy deny) = telling host (Policy deny)
