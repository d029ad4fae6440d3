use Rattle.std.proofs.Common.{◌≡◌, ◌++◌, length}
use Rattle.std.specs.Vec.Iter.{into_iter_items, into_iter_len}
use Rattle.event_world.specs.Mail.{mail_out, mail_up}
use Rattle.event_world.proofs.mail.mail_of_switch.Given as goal

-- the mail so far, with that of the packets that are left, is all
abbrev pub invariant-loop-port : goal.invariant-loop-port
invariant-loop-port l = record {
  length : into_iter_len l.port-iterator ≡ length (into_iter_items l.port-iterator);
  mail : l.mail ++ mail_out l.topology l.status l.s (into_iter_items l.port-iterator)
      ≡ mail_up l.topology l.status l.s l.fn.outs.up ++ mail_out l.topology l.status l.s l.fn.outs.out;
}
