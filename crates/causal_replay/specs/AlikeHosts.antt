-- Which hosts, and which reactions of them, are equal but for numbers that two equal behaviours may differ in.
use Rattle.std.specs.Prelude.{◌≡◌, ℕ, map}
use Rattle.controller_api.specs.Reaction.{Reaction}
use Rattle.controller_api.specs.declared.item.UpItem.{UpItem}
use Rattle.controller_api.specs.declared.item.UpItem.TheVariants.{FromSwitch}
use Rattle.controller_host.specs.Hosting.{Hosting}
use Rattle.masked_equivalence.specs.Mask.{masked_message}
use Rattle.of10_messages.specs.declared.message.Message.{Message}
use Rattle.causal_replay.specs.Congruence.{masked_answer}

-- a host with 0 as the xid and the cookie that it gives next
abbrev pub masked_host : Hosting → Hosting
masked_host host = record host { xid = 0; cookie = 0 }

-- two hosts are equal but for the next xid and the next cookie
abbrev pub SameHostButNumbers : Hosting → Hosting → Type 0
SameHostButNumbers h k = masked_host h ≡ masked_host k

-- what a controller hears: a message without what a mask hides, and without the data of an ERROR; all else as it is
abbrev pub masked_heard : UpItem → UpItem
masked_heard (FromSwitch s message) = FromSwitch s (masked_answer message)
masked_heard other = other

-- a message with the number of its switch, masked
abbrev pub masked_sent : ℕ × Message → ℕ × Message
masked_sent one = (one.0, masked_message one.1)

-- two reactions come to hosts that are equal but for the next xid and the next cookie, and send alike messages to the same switches
pub record AlikeReactions (one two : Reaction Hosting) : Type 0 where
  pub state : SameHostButNumbers one.state two.state
  pub sent : map masked_sent one.sent ≡ map masked_sent two.sent
