use Rattle.std.proofs.Common.{◌+◌, arith}
use Rattle.pool_book.specs.declared.name.PoolName.TheVariants.{Pkt}
use Rattle.pool_book.specs.Blocks.{range_more}
use Rattle.pool_book.proofs.all_names.put_ports.Goals as goal

pub loop-before-preserved : goal.loop-before-preserved
loop-before-preserved c = range_more (Pkt c.args.s) c.args.all.now c.loop-before.all c.push.new.self 1 c.loop-before.before (c.loop-before.before + 1) c.loop-before.invariant c.in_ok-push.ensures.ok (omega arith)
