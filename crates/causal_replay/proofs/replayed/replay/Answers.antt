use Rattle.std.proofs.Common.{◌≡◌, ℕ, ◌<◌, List, length, get_or, slice_get, Some, arith, refl}
use Rattle.std.proofs.lemmas.Option.{slice_get_read}
use Rattle.event_machine.specs.declared.trace.Entry.{Entry}
use Rattle.causal_replay.proofs.Reached.{reached_few, reached_more, reached_none, reached_ready}
use Rattle.causal_replay.proofs.replayed.replay.Goals as goal

-- the entry that the loop has come to
entry_here : (entries items : List Entry) (at : ℕ) (entry : Entry) → items ≡ entries → at < length items → entry ≡ get_or items at entry → slice_get entries at ≡ Some entry
entry_here entries items at entry e below is = rw (← e) (slice_get_read items (length items) at entry refl below is)

pub loop-at-init : goal.loop-at-init
loop-at-init g c = reached_none g.C.Controller.react g.C.Controller.start g.C.Controller.policies c.args.setup.now c.args.trace.now.entries c.args.keep.now c.new.result c.new-2.result c.in_ok-start.field-0 c.new.ensures c.new-2.ensures c.in_ok-start.ensures.start c.in_ok-start.ensures.fits

pub overflow_cast-at : goal.overflow_cast-at
overflow_cast-at g c =
    let here = entry_here c.args.trace.now.entries c.deref-entry-items.result.now c.loop-at.at c.entry-item.result c.deref-entry-items.ensures (omega arith) c.entry-item.is in
    let few = (reached_few g.C.Controller.react g.C.Controller.start g.C.Controller.policies c.args.setup.now c.args.trace.now.entries c.args.keep.now c.loop-at.at c.entry-item.result c.loop-at.replayed.run c.loop-at.replayed.absent c.loop-at.replayed.world c.requires.setup c.requires.legal.entries here c.loop-at.invariant).0 in
    omega arith

pub go_on-requires-clause-events : goal.go_on-requires-clause-events
go_on-requires-clause-events g c κs within =
    let here = entry_here c.args.trace.now.entries c.deref-entry-items.result.now c.loop-at.at c.entry-item.result c.deref-entry-items.ensures (omega arith) c.entry-item.is in
    (reached_few g.C.Controller.react g.C.Controller.start g.C.Controller.policies c.args.setup.now c.args.trace.now.entries c.args.keep.now c.loop-at.at c.entry-item.result c.loop-at.replayed.run c.loop-at.replayed.absent c.loop-at.replayed.world c.requires.setup c.requires.legal.entries here c.loop-at.invariant).1

pub go_on-requires-clause-line : goal.go_on-requires-clause-line
go_on-requires-clause-line g c κs within =
    let here = entry_here c.args.trace.now.entries c.deref-entry-items.result.now c.loop-at.at c.entry-item.result c.deref-entry-items.ensures (omega arith) c.entry-item.is in
    reached_ready g.C.Controller.react g.C.Controller.start g.C.Controller.policies c.args.setup.now c.args.trace.now.entries c.args.keep.now c.loop-at.at c.entry-item.result c.loop-at.replayed.run c.loop-at.replayed.absent c.loop-at.replayed.world c.requires.setup c.requires.legal.entries here c.loop-at.invariant

pub loop-at-preserved : goal.loop-at-preserved
loop-at-preserved g c =
    let here = entry_here c.args.trace.now.entries c.deref-entry-items.result.now c.loop-at.at c.entry-item.result c.deref-entry-items.ensures (omega arith) c.entry-item.is in
    reached_more g.C.Controller.react g.C.Controller.start g.C.Controller.policies c.args.setup.now c.args.trace.now.entries c.args.keep.now c.loop-at.at c.entry-item.result c.loop-at.replayed.run c.go_on.new.self.run c.loop-at.replayed.absent c.go_on.new.self.absent c.loop-at.replayed.world c.go_on.new.self.world
    here c.loop-at.invariant c.in_ok-go_on.ensures
