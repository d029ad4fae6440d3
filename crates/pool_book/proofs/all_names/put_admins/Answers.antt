use Rattle.std.proofs.Common.{arith}
use Rattle.pool_book.specs.declared.name.PoolName.TheVariants.{Admin}
use Rattle.pool_book.specs.Blocks.{range_more}
use Rattle.pool_book.proofs.all_names.put_admins.Goals as goal

pub loop-c-preserved : goal.loop-c-preserved
loop-c-preserved c = range_more Admin c.args.all.now c.loop-c.all c.push.new.self 0 c.loop-c.c c.loop-c.c c.loop-c.invariant c.in_ok-push.ensures.ok (omega arith)
