-- Each turn keeps what holds so far, and leaves less to do.
use Rattle.std.proofs.Common.{◌∙◌, refl, sym, arith}
use Rattle.invariant_check.proofs.Leasts.{found_one, left_out, less_taken, none_there, times_taken}
use Rattle.invariant_check.proofs.least.least_witness.Goals as goal

pub loop-last-smaller-then-not-is_less : goal.loop-last-smaller-then-not-is_less
loop-last-smaller-then-not-is_less c =
    let less = less_taken c.loop-last.left c.remove-part.new.self c.in-Some.last c.remove-part.result c.remove-part.ensures.item c.remove-part.ensures.rest in
    omega (arith, less.0, less.1)

pub loop-last-smaller-in-Some-2 : goal.loop-last-smaller-in-Some-2
loop-last-smaller-in-Some-2 c =
    let less = less_taken c.loop-last.left c.remove-part.new.self c.in-Some.last c.remove-part.result c.remove-part.ensures.item c.remove-part.ensures.rest in
    omega (arith, less.0, less.1, c.in_ok-witness.ensures.falls)

pub loop-last-smaller : goal.loop-last-smaller
loop-last-smaller c =
    let less = less_taken c.loop-last.left c.remove-part.new.self c.in-Some.last c.remove-part.result c.remove-part.ensures.item c.remove-part.ensures.rest in
    omega (arith, less.0, less.1, c.in_ok-witness.ensures.falls)

pub loop-last-preserved-then-not-is_less : goal.loop-last-preserved-then-not-is_less
loop-last-preserved-then-not-is_less c =
    left_out c.args.net.now c.args.invariant.now c.args.s c.args.p c.args.cell c.loop-last.left c.remove-part.new.self c.loop-last.best c.remove-part.result c.least.result
    c.headers_in_field_order.ensures.total c.loop-last.invariant
    (times_taken c.loop-last.left c.remove-part.new.self c.in-Some.last c.remove-part.result c.remove-part.ensures.item c.remove-part.ensures.rest)
    c.least.ensures.least (sym c.is_less.ensures ∙ c.if-not-is_less.true)

pub loop-last-preserved-in-Some-2 : goal.loop-last-preserved-in-Some-2
loop-last-preserved-in-Some-2 c =
    let inside = rw c.in-Some-2.is at c.in_ok-witness.ensures.inside in
    let lower = rw c.in-Some-2.is at c.in_ok-witness.ensures.least in
    let first = rw c.in-Some-2.is at c.in_ok-witness.ensures.first in
    found_one c.args.net.now c.args.invariant.now c.args.s c.args.p c.args.cell c.loop-last.left c.remove-part.new.self c.look.new.left c.loop-last.best c.remove-part.result c.least.result
    c.in-Some-2.witness c.headers_in_field_order.ensures.total c.loop-last.invariant
    (times_taken c.loop-last.left c.remove-part.new.self c.in-Some.last c.remove-part.result c.remove-part.ensures.item c.remove-part.ensures.rest)
    c.least.ensures.inside (sym c.is_less.ensures ∙ c.if-not-is_less.false) inside lower first c.in_ok-witness.ensures.kept c.in_ok-witness.ensures.within

pub loop-last-preserved : goal.loop-last-preserved
loop-last-preserved c =
    let free = rw c.in_default-2.is at c.in_ok-witness.ensures.free in
    none_there c.args.net.now c.args.invariant.now c.args.s c.args.p c.args.cell c.loop-last.left c.remove-part.new.self c.look.new.left c.loop-last.best c.remove-part.result
    c.loop-last.invariant
    (times_taken c.loop-last.left c.remove-part.new.self c.in-Some.last c.remove-part.result c.remove-part.ensures.item c.remove-part.ensures.rest)
    (free refl) c.in_ok-witness.ensures.kept c.in_ok-witness.ensures.within
