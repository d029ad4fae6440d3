use Rattle.pool_book.specs.Blocks.{app_names_more}
use Rattle.pool_book.proofs.all_names.put_all_apps.Goals as goal

pub loop-c-preserved : goal.loop-c-preserved
loop-c-preserved c = app_names_more c.args.all.now c.loop-c.all c.put_apps.new.all c.args.switches c.loop-c.c c.loop-c.invariant c.in_ok-put_apps.ensures
