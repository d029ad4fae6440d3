use Rattle.pool_book.specs.Blocks.{port_names_more}
use Rattle.pool_book.proofs.all_names.put_all_ports.Goals as goal

pub loop-s-preserved : goal.loop-s-preserved
loop-s-preserved c = port_names_more c.args.all.now c.loop-s.all c.put_ports.new.all c.args.ports.now c.loop-s.s c.loop-s-test.true c.loop-s.invariant c.in_ok-put_ports.ensures
