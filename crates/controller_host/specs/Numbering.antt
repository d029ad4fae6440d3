-- The xids and cookies that a host gives to messages.
use Rattle.std.specs.Prelude.{ℕ, ◌+◌, ◌%◌, ◌^◌, ◌==◌, List, [], ◌∷◌, fold, Bool, false, if◌then◌else◌}
use Rattle.of10_messages.specs.declared.message.Message.{Message}
use Rattle.of10_messages.specs.declared.message.Message.TheVariants as message
use Rattle.of10_messages.specs.Wire.{with_xid}

-- the xid after an xid: after the last comes 0
abbrev pub next_xid : ℕ → ℕ
next_xid xid = (xid + 1) % 2 ^ 32

-- the cookie after a cookie: after the last comes 0
abbrev pub next_cookie : ℕ → ℕ
next_cookie cookie = (cookie + 1) % 2 ^ 64

-- whether a message adds an entry: a FLOW_MOD with command ADD, 0 (OpenFlow 1.0.0 section 5.3.3)
abbrev pub adds : Message → Bool
adds (message.FlowMod xid mods) = mods.command == 0
adds other = false

-- a FLOW_MOD with another cookie
abbrev pub with_cookie : ℕ → Message → Message
with_cookie cookie (message.FlowMod xid mods) = message.FlowMod xid (record mods { cookie = cookie })
with_cookie cookie other = other

-- a message with its xid, and with its cookie where it adds an entry
abbrev pub with_numbers : ℕ → ℕ → Message → Message
with_numbers xid cookie m = if adds m then with_cookie cookie (with_xid xid m) else with_xid xid m

-- the next cookie after a message
abbrev pub cookie_after : ℕ → Message → ℕ
cookie_after cookie m = if adds m then next_cookie cookie else cookie

-- messages with their numbers, and the next xid and the next cookie after them
pub record Numbered : Type 0 where
  pub sent : List (ℕ × Message)
  pub xid : ℕ
  pub cookie : ℕ

-- messages in the order in which they are made: each gets the next xid, and each that adds an entry the next cookie
abbrev pub numbered : ℕ → ℕ → List (ℕ × Message) → Numbered
numbered xid cookie [] = record { sent = []; xid = xid; cookie = cookie }
numbered xid cookie (one ∷ rest) = let after = numbered (next_xid xid) (cookie_after cookie one.1) rest in
    record { sent = (one.0, with_numbers xid cookie one.1) ∷ after.sent; xid = after.xid; cookie = after.cookie }

-- the next xid after messages that were sent: each has taken one
abbrev pub xid_past : ℕ → List (ℕ × Message) → ℕ
xid_past xid sent = fold (λ xid one. next_xid xid) xid sent

-- the next cookie after messages that were sent: each that adds an entry has taken one
abbrev pub cookie_past : ℕ → List (ℕ × Message) → ℕ
cookie_past cookie sent = fold (λ cookie one. cookie_after cookie one.1) cookie sent
