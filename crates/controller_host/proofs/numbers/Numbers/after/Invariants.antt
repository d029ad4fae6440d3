use Rattle.std.proofs.Common.{◌≡◌, take}
use Rattle.controller_host.specs.Numbering.{cookie_past, xid_past}
use Rattle.controller_host.proofs.numbers.Numbers.after.Given as goal

-- the messages so far have their numbers
abbrev pub invariant-loop-one : goal.invariant-loop-one
invariant-loop-one l = record {
  xid : l.numbers.xid ≡ xid_past l.fn.self.xid (take l.one-index l.sent);
  cookie : l.numbers.cookie ≡ cookie_past l.fn.self.cookie (take l.one-index l.sent);
}
