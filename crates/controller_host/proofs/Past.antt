-- The numbers that come after what was sent are those with which the messages were numbered last.
use Rattle.std.proofs.Common.{◌≡◌, ◌∙◌, ℕ, List, [], ◌∷◌, Bool, true, false, cond, ap, refl}
use Rattle.controller_host.specs.Numbering.{adds, cookie_after, cookie_past, next_cookie, next_xid, numbered, with_cookie, with_numbers, xid_past}
use Rattle.of10_messages.specs.Wire.{with_xid}
use Rattle.of10_messages.specs.declared.message.Message.{Message}
use Rattle.of10_messages.specs.declared.message.Message.TheVariants as message

xid_keeps : (xid : ℕ) (m : Message) → adds (with_xid xid m) ≡ adds m
xid_keeps xid (message.FlowMod old mods) = refl
xid_keeps xid _ = refl

cookie_keeps : (cookie : ℕ) (m : Message) → adds (with_cookie cookie m) ≡ adds m
cookie_keeps cookie (message.FlowMod xid mods) = refl
cookie_keeps cookie _ = refl

either : (b add : Bool) (one other : Message) → adds one ≡ add → adds other ≡ add → adds (cond b one other) ≡ add
either true add one other first second = first
either false add one other first second = second

-- a message that has its numbers adds an entry where it did before
adds_numbered : (xid cookie : ℕ) (m : Message) → adds (with_numbers xid cookie m) ≡ adds m
adds_numbered xid cookie m =
    either (adds m) (adds m) (with_cookie cookie (with_xid xid m)) (with_xid xid m) (cookie_keeps cookie (with_xid xid m) ∙ xid_keeps xid m) (xid_keeps xid m)

pub xid_is_past : (xid cookie : ℕ) (messages : List (ℕ × Message)) → xid_past xid (numbered xid cookie messages).sent ≡ (numbered xid cookie messages).xid
xid_is_past xid cookie [] = refl
xid_is_past xid cookie (one ∷ rest) = xid_is_past (next_xid xid) (cookie_after cookie one.1) rest

pub cookie_is_past : (xid cookie : ℕ) (messages : List (ℕ × Message)) → cookie_past cookie (numbered xid cookie messages).sent ≡ (numbered xid cookie messages).cookie
cookie_is_past xid cookie [] = refl
cookie_is_past xid cookie (one ∷ rest) =
    ap (λ (add : Bool). cookie_past (cond add (next_cookie cookie) cookie) (numbered (next_xid xid) (cookie_after cookie one.1) rest).sent) (adds_numbered xid cookie one.1)
    ∙ cookie_is_past (next_xid xid) (cookie_after cookie one.1) rest
