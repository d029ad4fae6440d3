-- The field tells the cells apart.
use Rattle.std.proofs.Common.{rules, ◌<◌, get_or, refl}
use Rattle.header_classes.proofs.Firsts.{apart_at}
use Rattle.header_classes.proofs.trials.Trial.is_apart.Goals as goal

pub returns-then-is_apart : goal.returns-then-is_apart
returns-then-is_apart c = λ _ h inside.
    let fits : get_or c.args.self.now.asked.fields c.loop-at.at 0 < 11 = search rules in
    apart_at c.args.cell.now c.args.self.now.taken h _ c.interval.result c.interval-in-loop-at.result c.interval.ensures.here c.interval-in-loop-at.ensures.here
    fits (c.if-is_apart.ensures refl) inside
