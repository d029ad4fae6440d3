-- What a controller hears, and what it does.
use Rattle.std.specs.Prelude.{◌≡◌, ℕ, ◌+◌, ◌<◌, ◌≤◌, ◌^◌, List, All}
use Rattle.of10_match.specs.Match.{IsValidMatch}
use Rattle.of10_messages.specs.Valid.{IsValidMessage}
use Rattle.of10_messages.specs.declared.message.Message.{Message}
use Rattle.controller_api.specs.declared.item.UpItem.{UpItem}
use Rattle.controller_api.specs.declared.item.UpItem.TheVariants.{FromSwitch, Gone, Policy}

-- the state that a controller comes to, and the messages that it sends, each with the number of its switch, in order
pub record Reaction (State : Type 0) : Type 0 where
  pub state : State
  pub sent : List (ℕ × Message)

-- what is heard is valid
abbrev pub IsValidUpItem : UpItem → Type 0
IsValidUpItem (FromSwitch s message) = IsValidMessage message
IsValidUpItem (Gone s) = Unit {0}
IsValidUpItem (Policy deny) = IsValidMatch deny

-- how many policies a controller can have after an item, of those that it had: one more at most after a policy, else as many
abbrev pub CountsPolicies : UpItem → ℕ → ℕ → Type 0
CountsPolicies (FromSwitch s message) before after = after ≡ before
CountsPolicies (Gone s) before after = after ≡ before
CountsPolicies (Policy deny) before after = (before ≤ after) × (after ≤ before + 1)

-- each message is valid
abbrev pub AreValidMessages : List (ℕ × Message) → Type 0
AreValidMessages sent = All (λ one. IsValidMessage one.1) sent
