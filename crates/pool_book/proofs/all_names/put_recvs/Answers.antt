use Rattle.std.proofs.Common.{arith}
use Rattle.pool_book.specs.declared.name.PoolName.TheVariants.{Recv}
use Rattle.pool_book.specs.Blocks.{range_more}
use Rattle.pool_book.proofs.all_names.put_recvs.Goals as goal

pub loop-h-preserved : goal.loop-h-preserved
loop-h-preserved c = range_more Recv c.args.all.now c.loop-h.all c.push.new.self 0 c.loop-h.h c.loop-h.h c.loop-h.invariant c.in_ok-push.ensures.ok (omega arith)
