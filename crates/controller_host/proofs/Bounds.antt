-- How much a host sends, and how many policies it has after an item.
use Rattle.std.proofs.Common.{◌≡◌, ◌+◌, ◌*◌, ◌<◌, ◌≤◌, ◌^◌, ◌||◌, ℕ, List, [], ◌∷◌, ◌++◌, Bool, true, false, cond, All, flat_map, fold, length, map, max, not, arith, refl, length-append}
use Rattle.std.proofs.lemmas.List.Elements.{All-cons, All-head, All-nil, All-tail}
use Rattle.controller_api.specs.Reaction.{CountsPolicies}
use Rattle.controller_api.specs.declared.item.UpItem.{UpItem}
use Rattle.controller_api.specs.declared.item.UpItem.TheVariants.{FromSwitch, Gone, Policy}
use Rattle.controller_apps.specs.Firewall.{IsWall, Wall, denial, guarding, has_joined, rules_of, with_joined, unmoved as wall_unmoved}
use Rattle.controller_apps.specs.Learning.{Learner, learning}
use Rattle.controller_host.specs.Hosting.{Hosting, as_started, hosting, policies_in, policies_of, reacting, reacting_all}
use Rattle.controller_host.specs.Numbering.{cookie_after, next_xid, numbered}
use Rattle.controller_host.specs.Undoing.{IsApp}
use Rattle.controller_host.specs.declared.app.App.{App}
use Rattle.controller_host.specs.declared.app.App.TheVariants as app
use Rattle.of10_messages.specs.declared.message.Message.{Message}
use Rattle.of10_messages.specs.declared.message.Message.TheVariants.{EchoRequest, FeaturesReply, Hello, PacketIn, PortStatus}
use Rattle.route_app.specs.Routing.{Router, routing}

-- ---- how much is sent

abbrev LearningFew : Type 0
LearningFew = (learner : Learner) (item : UpItem) → length (learning learner item).sent ≤ 2

abbrev WallFew : Type 0
WallFew = (wall : Wall) (item : UpItem) → IsWall wall → length wall.policies < 2 ^ 24 → length (guarding wall item).sent < 2 ^ 25

abbrev RoutingFew : Type 0
RoutingFew = (router : Router) (item : UpItem) → length (routing router item).sent ≤ 2

app_few : LearningFew → WallFew → RoutingFew → (one : App) (item : UpItem) → IsApp one → policies_in one < 2 ^ 24 → length (reacting one item).sent < 2 ^ 25
app_few learns guards routes (app.Learning learner) item is few = let sent = learns learner item in omega arith
app_few learns guards routes (app.Firewall wall) item is few = guards wall item is few
app_few learns guards routes (app.Routing router) item is few = let sent = routes router item in omega arith

apps_few : LearningFew → WallFew → RoutingFew → (apps : List App) (item : UpItem) → All IsApp apps → All (λ one. policies_in one < 2 ^ 24) apps
    → length (flat_map (λ one. (reacting one item).sent) apps) ≤ length apps * 2 ^ 25
apps_few learns guards routes [] item is few = omega arith
apps_few learns guards routes (one ∷ apps) item is few =
    let here = app_few learns guards routes one item (All-head IsApp one apps is) (All-head (λ one. policies_in one < 2 ^ 24) one apps few) in
    let rest = apps_few learns guards routes apps item (All-tail IsApp one apps is) (All-tail (λ one. policies_in one < 2 ^ 24) one apps few) in
    let both : length ((reacting one item).sent ++ flat_map (λ one. (reacting one item).sent) apps) ≡ length (reacting one item).sent + length (flat_map (λ one. (reacting one item).sent) apps) =
    length-append (reacting one item).sent (flat_map (λ one. (reacting one item).sent) apps) in
    omega arith

length-numbered : (xid cookie : ℕ) (messages : List (ℕ × Message)) → length (numbered xid cookie messages).sent ≡ length messages
length-numbered xid cookie [] = refl
length-numbered xid cookie (one ∷ rest) = let same = length-numbered (next_xid xid) (cookie_after cookie one.1) rest in omega arith

telling_few : (host : Hosting) (messages : List (ℕ × Message)) (count : ℕ) → count ≤ 4 → length messages ≤ count * 2 ^ 25 → length (numbered host.xid host.cookie messages).sent < 2 ^ 32
telling_few host messages count few sent = let same = length-numbered host.xid host.cookie messages in omega arith

-- a host sends few messages
pub hosting_few : LearningFew → WallFew → RoutingFew → (host : Hosting) (item : UpItem) → length host.apps ≤ 4 → All IsApp host.apps → All (λ one. policies_in one < 2 ^ 24) host.apps
    → length (hosting host item).sent < 2 ^ 32
hosting_few learns guards routes host (FromSwitch s (Hello xid)) few is policies = omega arith
hosting_few learns guards routes host (FromSwitch s (EchoRequest xid content)) few is policies = omega arith
hosting_few learns guards routes host (FromSwitch s (FeaturesReply xid features)) few is policies =
    telling_few host _ (length host.apps) few (apps_few learns guards routes host.apps (FromSwitch s (FeaturesReply xid features)) is policies)
hosting_few learns guards routes host (FromSwitch s (PacketIn xid buffer_id total_len in_port reason content)) few is policies =
    telling_few host _ (length host.apps) few (apps_few learns guards routes host.apps (FromSwitch s (PacketIn xid buffer_id total_len in_port reason content)) is policies)
hosting_few learns guards routes host (FromSwitch s (PortStatus xid reason port)) few is policies =
    telling_few host _ (length host.apps) few (apps_few learns guards routes host.apps (FromSwitch s (PortStatus xid reason port)) is policies)
hosting_few learns guards routes host (FromSwitch s _) few is policies = omega arith
hosting_few learns guards routes host (Gone s) few is policies = telling_few host _ (length host.apps) few (apps_few learns guards routes host.apps (Gone s) is policies)
hosting_few learns guards routes host (Policy deny) few is policies = telling_few host _ (length host.apps) few (apps_few learns guards routes host.apps (Policy deny) is policies)

-- ---- policies

-- the greatest of a number and those of the applications
abbrev most : ℕ → List App → ℕ
most start apps = fold (λ most one. max most (policies_in one)) start apps

start_within : (start : ℕ) (apps : List App) → start ≤ most start apps
start_within start [] = omega arith
start_within start (one ∷ apps) = let rest = start_within (max start (policies_in one)) apps in omega arith

-- each is at most the greatest
pub each_within : (start bound : ℕ) (apps : List App) → most start apps < bound → All (λ one. policies_in one < bound) apps
each_within start bound [] below = All-nil (λ one. policies_in one < bound)
each_within start bound (one ∷ apps) below =
    let here = start_within (max start (policies_in one)) apps in
    All-cons (λ one. policies_in one < bound) one apps (omega arith) (each_within (max start (policies_in one)) bound apps below)

-- a fresh one has none
pub none_fresh : (apps : List App) → most 0 (map as_started apps) ≡ 0
none_fresh [] = refl
none_fresh (app.Learning learner ∷ apps) = none_fresh apps
none_fresh (app.Firewall wall ∷ apps) = none_fresh apps
none_fresh (app.Routing router ∷ apps) = none_fresh apps

features_keep : (s : ℕ) (wall : Wall) (b : Bool)
    → length (cond b (record { state = with_joined s wall; sent = map {B = ℕ × Message} (λ rule. (s, denial rule)) (rules_of wall) }) (wall_unmoved wall)).state.policies ≡ length wall.policies
features_keep s wall true = refl
features_keep s wall false = refl

wall_counts : (wall : Wall) (item : UpItem) → CountsPolicies item (length wall.policies) (length (guarding wall item).state.policies)
wall_counts wall (FromSwitch s (FeaturesReply xid features)) = features_keep s wall (wall.reinstall || not (has_joined wall s))
wall_counts wall (FromSwitch s _) = refl
wall_counts wall (Gone s) = refl
wall_counts wall (Policy deny) = let one_more : length (wall.policies ++ deny ∷ []) ≡ length wall.policies + 1 = length-append wall.policies (deny ∷ []) in (omega arith, omega arith)

nothing_counts : (item : UpItem) → CountsPolicies item 0 0
nothing_counts (FromSwitch s message) = refl
nothing_counts (Gone s) = refl
nothing_counts (Policy deny) = (omega arith, omega arith)

app_counts : (one : App) (item : UpItem) → CountsPolicies item (policies_in one) (policies_in (reacting one item).state)
app_counts (app.Learning learner) item = nothing_counts item
app_counts (app.Firewall wall) item = wall_counts wall item
app_counts (app.Routing router) item = nothing_counts item

max_counts : (item : UpItem) (a b c d : ℕ) → CountsPolicies item a b → CountsPolicies item c d → CountsPolicies item (max a c) (max b d)
max_counts (FromSwitch s message) a b c d one two = omega arith
max_counts (Gone s) a b c d one two = omega arith
max_counts (Policy deny) a b c d one two = let low = one.0 in let high = one.1 in let low_too = two.0 in let high_too = two.1 in (omega arith, omega arith)

apps_count : (item : UpItem) (apps : List App) (a b : ℕ) → CountsPolicies item a b → CountsPolicies item (most a apps) (most b (reacting_all apps item).state)
apps_count item [] a b counts = counts
apps_count item (one ∷ apps) a b counts =
    apps_count item apps (max a (policies_in one)) (max b (policies_in (reacting one item).state)) (max_counts item a b (policies_in one) (policies_in (reacting one item).state) counts (app_counts one item))

-- a host's policies are counted as they come
pub hosting_counts : (host : Hosting) (item : UpItem) → CountsPolicies item (policies_of host) (policies_of (hosting host item).state)
hosting_counts host (FromSwitch s (FeaturesReply xid features)) = apps_count (FromSwitch s (FeaturesReply xid features)) host.apps 0 0 refl
hosting_counts host (FromSwitch s (PacketIn xid buffer_id total_len in_port reason content)) = apps_count (FromSwitch s (PacketIn xid buffer_id total_len in_port reason content)) host.apps 0 0 refl
hosting_counts host (FromSwitch s (PortStatus xid reason port)) = apps_count (FromSwitch s (PortStatus xid reason port)) host.apps 0 0 refl
hosting_counts host (FromSwitch s _) = refl
hosting_counts host (Gone s) = apps_count (Gone s) host.apps 0 0 refl
hosting_counts host (Policy deny) = apps_count (Policy deny) host.apps 0 0 (nothing_counts (Policy deny))
