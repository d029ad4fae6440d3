use Rattle.std.proofs.Common.{◌≡◌, ◌++◌}
use Rattle.app_messages.specs.Extending.{Extends}
use Rattle.controller_api.specs.Reaction.{AreValidMessages}
use Rattle.controller_host.specs.Numbering.{numbered}
use Rattle.controller_host.proofs.numbers.Numbers.send.Given as goal

-- what is sent so far and what is left to be sent are all
abbrev pub invariant-loop-s : goal.invariant-loop-s
invariant-loop-s l = record {
  sent : l.out ++ (numbered l.numbers.xid l.numbers.cookie l.s-iterator.rest.items).sent ≡ l.fn.out ++ (numbered l.fn.self.xid l.fn.self.cookie l.fn.messages).sent;
  valid : AreValidMessages l.s-iterator.rest.items;
  begun : Extends l.fn.out l.out;
}
