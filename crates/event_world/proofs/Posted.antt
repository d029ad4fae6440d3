-- What a controller sends, message by message: the mail that it becomes.
use Rattle.std.proofs.Common.{◌≡◌, ◌∙◌, ℕ, ◌+◌, ◌<◌, List, [], ◌∷◌, ◌++◌, length, take, get_or, Option, ap, sym}
use Rattle.std.specs.List.{cons_option}
use Rattle.std.proofs.lemmas.List.{take_more}
use Rattle.std.proofs.lemmas.List.Elements.{filter_map-append}
use Rattle.message_pools.specs.declared.item.Item.TheVariants as item
use Rattle.of10_messages.specs.declared.message.Message.{Message}
use Rattle.pool_book.specs.declared.name.PoolName.{PoolName}
use Rattle.topology.specs.declared.network.Topology.{Topology}
use Rattle.topology.specs.declared.status.Status.{Status}
use Rattle.event_world.specs.Mail.{addressed, down_to, mail_down}

-- the mail of what is sent so far, with one message more
pub down_more : (topology : Topology) (status : Status) (c : ℕ) (sent : List (ℕ × Message)) (i : ℕ) (one : ℕ × Message) (name : Option PoolName) → i < length sent → one ≡ get_or sent i one → down_to topology status c one.0 ≡ name
    → mail_down topology status c (take (i + 1) sent) ≡ mail_down topology status c (take i sent) ++ cons_option (addressed name (item.Message one.1)) []
down_more topology status c sent i one name within at to =
    ap (mail_down topology status c) (take_more sent i one within ∙ ap (λ (o : ℕ × Message). take i sent ++ o ∷ []) (sym at))
    ∙ filter_map-append (λ (o : ℕ × Message). addressed (down_to topology status c o.0) (item.Message o.1)) (take i sent) (one ∷ [])
    ∙ ap (λ (name : Option PoolName). mail_down topology status c (take i sent) ++ cons_option (addressed name (item.Message one.1)) []) to

-- the mail of a first message and of the rest
pub down_first : (topology : Topology) (status : Status) (c s : ℕ) (message : Message) (items rest : List (ℕ × Message)) (name : Option PoolName) → items ≡ (s, message) ∷ rest → down_to topology status c s ≡ name
    → mail_down topology status c items ≡ cons_option (addressed name (item.Message message)) (mail_down topology status c rest)
down_first topology status c s message items rest name first to =
    ap (mail_down topology status c) first
    ∙ ap (λ (name : Option PoolName). cons_option (addressed name (item.Message message)) (mail_down topology status c rest)) to
