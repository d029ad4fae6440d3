use Rattle.std.proofs.Common.{arith}
use Rattle.pool_book.specs.declared.name.PoolName.TheVariants.{App}
use Rattle.pool_book.specs.Blocks.{range_more}
use Rattle.pool_book.proofs.all_names.put_apps.Goals as goal

pub loop-s-preserved : goal.loop-s-preserved
loop-s-preserved c = range_more (App c.args.c) c.args.all.now c.loop-s.all c.push.new.self 0 c.loop-s.s c.loop-s.s c.loop-s.invariant c.in_ok-push.ensures.ok (omega arith)
