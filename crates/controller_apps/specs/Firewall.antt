-- A firewall: its rules, the switches that have joined, and how it reacts.
use Rattle.std.specs.Prelude.{ℕ, false, ◌==◌, ◌||◌, ◌<◌, ◌≤◌, ◌^◌, List, [], ◌∷◌, ◌++◌, All, filter, length, map, nat_lt, not, Bool, if◌then◌else◌}
use Rattle.std.specs.List.{list_any}
use Rattle.std.specs.List.Sorted.{IsStrictlySortedBy}
use Rattle.std.specs.Ordering.{nat_cmp}
use Rattle.app_messages.specs.Sent.{added}
use Rattle.controller_api.specs.Reaction.{Reaction}
use Rattle.controller_api.specs.declared.item.UpItem.{UpItem}
use Rattle.controller_api.specs.declared.item.UpItem.TheVariants.{FromSwitch, Policy}
use Rattle.of10_match.specs.Match.{IsValidMatch}
use Rattle.of10_match.specs.declared.matches.Match.{Match}
use Rattle.of10_messages.specs.declared.message.Message.{Message}
use Rattle.of10_messages.specs.declared.message.Message.TheVariants.{FeaturesReply}

-- whether it puts its rules again into a switch that joins again, the rules that it was made with, those that were added as
-- policies, and the switches that have joined, in ascending order
pub record Wall : Type 0 where
  pub reinstall : Bool
  pub made : List Match
  pub policies : List Match
  pub joined : List ℕ

-- as it was made: nothing was added, and no switch has joined
abbrev pub wall_of : Bool → List Match → Wall
wall_of reinstall rules = record { reinstall = reinstall; made = rules; policies = []; joined = [] }

-- It was made with few rules, all rules are valid, and the switches that have joined ascend and have numbers of 16 bits.
pub record IsWall (wall : Wall) : Type 0 where
  pub few : length wall.made ≤ 64
  pub first : All IsValidMatch wall.made
  pub later : All IsValidMatch wall.policies
  pub ascending : IsStrictlySortedBy nat_cmp wall.joined
  pub narrow : All (λ s. s < 2 ^ 16) wall.joined

-- all its rules, in order
abbrev pub rules_of : Wall → List Match
rules_of wall = wall.made ++ wall.policies

-- whether the switch has joined
abbrev pub has_joined : Wall → ℕ → Bool
has_joined wall s = list_any (λ t. t == s) wall.joined

-- the switch has joined too
abbrev pub with_joined : ℕ → Wall → Wall
with_joined s wall = record wall { joined = filter (λ t. nat_lt t s) wall.joined ++ s ∷ filter (λ t. nat_lt s t) wall.joined }

-- the entry that drops the packets of a rule: no actions
abbrev pub denial : Match → Message
denial rule = added rule 60000 0 []

-- nothing is done
abbrev pub unmoved : Wall → Reaction Wall
unmoved wall = record { state = wall; sent = [] }

-- A switch that tells its features joins: it is sent an entry for each rule in order, unless it had joined before and nothing is
-- put again.
abbrev pub at_features : ℕ → Wall → Reaction Wall
at_features s wall =
    if wall.reinstall || not (has_joined wall s)
    then record { state = with_joined s wall; sent = map (λ rule. (s, denial rule)) (rules_of wall) }
    else unmoved wall

-- a policy becomes the last rule, and each switch that has joined is sent its entry
abbrev pub at_policy : Match → Wall → Reaction Wall
at_policy deny wall = record { state = record wall { policies = wall.policies ++ deny ∷ [] }; sent = map (λ s. (s, denial deny)) wall.joined }

-- it reacts to these two alone
abbrev pub guarding : Wall → UpItem → Reaction Wall
guarding wall (FromSwitch s (FeaturesReply xid features)) = at_features s wall
guarding wall (Policy deny) = at_policy deny wall
guarding wall other = unmoved wall

-- whether the switch of an item had joined before it
abbrev pub joined_before : Wall → UpItem → Bool
joined_before wall (FromSwitch s message) = has_joined wall s
joined_before wall other = false
