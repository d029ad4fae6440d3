-- The low ends fit, and they are the least header.
use Rattle.std.proofs.Common.{◌∙◌, ◌<◌, get_or, map, ap, subst, lit<, arith}
use Rattle.header_classes.specs.declared.interval.Interval.{Interval}
use Rattle.header_classes.specs.Cell.{IsCell, widths}
use Rattle.header_classes.proofs.Headers.{least_inside, least_least, low_fits, lows}
use Rattle.header_classes.proofs.cell.Cell.least.Goals as goal

pub overflow_cast-result : goal.overflow_cast-result
unfolding widths
overflow_cast-result c = let low : (get_or c.self.inside.intervals 2 record { low = 0; high = 0 }).low < 65536 = low_fits c.self.inside.intervals 2 c.self.invariant (lit< tt) in omega arith

pub overflow_cast-result-2 : goal.overflow_cast-result-2
unfolding widths
overflow_cast-result-2 c = let low : (get_or c.self.inside.intervals 3 record { low = 0; high = 0 }).low < 256 = low_fits c.self.inside.intervals 3 c.self.invariant (lit< tt) in omega arith

pub overflow_cast-result-3 : goal.overflow_cast-result-3
unfolding widths
overflow_cast-result-3 c = let low : (get_or c.self.inside.intervals 4 record { low = 0; high = 0 }).low < 65536 = low_fits c.self.inside.intervals 4 c.self.invariant (lit< tt) in omega arith

pub overflow_cast-result-4 : goal.overflow_cast-result-4
unfolding widths
overflow_cast-result-4 c = let low : (get_or c.self.inside.intervals 5 record { low = 0; high = 0 }).low < 256 = low_fits c.self.inside.intervals 5 c.self.invariant (lit< tt) in omega arith

pub overflow_cast-result-5 : goal.overflow_cast-result-5
unfolding widths
overflow_cast-result-5 c = let low : (get_or c.self.inside.intervals 6 record { low = 0; high = 0 }).low < 256 = low_fits c.self.inside.intervals 6 c.self.invariant (lit< tt) in omega arith

pub overflow_cast-result-6 : goal.overflow_cast-result-6
unfolding widths
overflow_cast-result-6 c = let low : (get_or c.self.inside.intervals 7 record { low = 0; high = 0 }).low < 4294967296 = low_fits c.self.inside.intervals 7 c.self.invariant (lit< tt) in omega arith

pub overflow_cast-result-7 : goal.overflow_cast-result-7
unfolding widths
overflow_cast-result-7 c = let low : (get_or c.self.inside.intervals 8 record { low = 0; high = 0 }).low < 4294967296 = low_fits c.self.inside.intervals 8 c.self.invariant (lit< tt) in omega arith

pub overflow_cast-result-8 : goal.overflow_cast-result-8
unfolding widths
overflow_cast-result-8 c = let low : (get_or c.self.inside.intervals 9 record { low = 0; high = 0 }).low < 65536 = low_fits c.self.inside.intervals 9 c.self.invariant (lit< tt) in omega arith

pub overflow_cast-result-9 : goal.overflow_cast-result-9
unfolding widths
overflow_cast-result-9 c = let low : (get_or c.self.inside.intervals 10 record { low = 0; high = 0 }).low < 65536 = low_fits c.self.inside.intervals 10 c.self.invariant (lit< tt) in omega arith

pub returns-clause-lows : goal.returns-clause-lows
returns-clause-lows c = lows c.self.inside.intervals c.self.invariant ∙ ap (map (λ (i : Interval). i.low)) c.self.view_is

pub returns-clause-inside : goal.returns-clause-inside
returns-clause-inside c = least_inside c.args.self.now _ (subst IsCell c.self.view_is c.self.invariant) (returns-clause-lows c)

pub returns-clause-least : goal.returns-clause-least
returns-clause-least c = λ h inside. least_least c.args.self.now _ h (subst IsCell c.self.view_is c.self.invariant) (returns-clause-lows c) inside
