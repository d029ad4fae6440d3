-- One message more.
use Rattle.std.proofs.Common.{◌≡◌, ◌∙◌, ◌≤◌, ℕ, List, [], ◌∷◌, ◌++◌, ap, ap₂, append_assoc, arith, length, length-take, sym, take}
use Rattle.std.proofs.lemmas.List.{take-append-le}
use Rattle.std.proofs.lemmas.List.Elements.{All-rest}
use Rattle.app_messages.specs.Extending.{Extends}
use Rattle.controller_host.specs.Numbering.{Numbered, cookie_after, next_xid, numbered, with_numbers}
use Rattle.of10_messages.specs.Valid.{IsValidMessage}
use Rattle.of10_messages.specs.declared.message.Message.{Message}
use Rattle.controller_host.proofs.numbers.Numbers.send.Goals as goal

-- what begins with a list still does with more at its end
extends_more : {A : Type 0} (before after more longer : List A) → Extends before after → longer ≡ after ++ more → Extends before longer
extends_more before after more longer begins is =
    let as_long : length (take (length before) after) ≡ length before = ap length begins in
    let within : length before ≤ length after = omega (arith, length-take (length before) after) in
    rw is (rw take-append-le begins)

-- after a message that got its numbers the others get the next ones
rest_numbered : (xid cookie xid2 cookie2 s : ℕ) (m : Message) (items rest : List (ℕ × Message)) → items ≡ (s, m) ∷ rest → xid2 ≡ next_xid xid → cookie2 ≡ cookie_after cookie m
    → numbered xid cookie items
    ≡ record { sent = (s, with_numbers xid cookie m) ∷ (numbered xid2 cookie2 rest).sent; xid = (numbered xid2 cookie2 rest).xid; cookie = (numbered xid2 cookie2 rest).cookie }
rest_numbered xid cookie xid2 cookie2 s m items rest items_are xid_is cookie_is =
    ap (numbered xid cookie) items_are
    ∙ ap (λ (n : Numbered). record { sent = (s, with_numbers xid cookie m) ∷ n.sent; xid = n.xid; cookie = n.cookie }) (sym (ap₂ (λ (a b : ℕ). numbered a b rest) xid_is cookie_is))

pub loop-s-preserved : goal.loop-s-preserved
loop-s-preserved c =
    let inv = c.loop-s.invariant in
    let given = c.give-numbered.new.self in
    let rest = c.next.new.self.rest.items in
    let s = c.in-Some.s in
    let steps : c.loop-s.s-iterator.rest.items ≡ (s, c.in-Some.message) ∷ rest = c.in-Some.ensures.steps.0 in
    let all = rest_numbered c.loop-s.numbers.xid c.loop-s.numbers.cookie given.xid given.cookie s c.in-Some.message c.loop-s.s-iterator.rest.items rest steps c.give-numbered.ensures.xid c.give-numbered.ensures.cookie in
    let out = c.loop-s.out in
    let after = (numbered given.xid given.cookie rest).sent in
    record {
      sent = ap (λ (o : List (ℕ × Message)). o ++ after) c.in_ok-send.ensures.ok ∙ append_assoc out ((s, c.give-numbered.result) ∷ []) after
          ∙ ap (λ (m : Message). out ++ (s, m) ∷ after) c.give-numbered.ensures.value ∙ ap (λ (n : Numbered). out ++ n.sent) (sym all) ∙ inv.sent;
      valid = All-rest (λ (one : ℕ × Message). IsValidMessage one.1) (s, c.in-Some.message) rest c.loop-s.s-iterator.rest.items steps inv.valid;
      begun = extends_more c.args.out.now out ((s, c.give-numbered.result) ∷ []) c.send.new.self inv.begun c.in_ok-send.ensures.ok;
    }
