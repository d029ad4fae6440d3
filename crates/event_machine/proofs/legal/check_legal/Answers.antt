use Rattle.std.proofs.Common.{◌≡◌, ℕ, ◌<◌, ◌≤◌, List, length, get_or, slice_get, Some, ap, subst, sym, ◌∙◌, arith, refl, false, IsTrue}
use Rattle.std.proofs.lemmas.Option.{slice_get-get_or}
use Rattle.std.proofs.lemmas.Result.{err_from_is_err_and}
use Rattle.event_machine.specs.declared.trace.Entry.{Entry}
use Rattle.event_machine.proofs.Histories.{follows_more, follows_all, wrong_here, end_here}
use Rattle.event_machine.proofs.legal.check_legal.Goals as goal

-- the entry that the loop has come to
entry_here : (entries items : List Entry) (at : ℕ) (entry : Entry) → items ≡ entries → at < length items → entry ≡ get_or items at entry → slice_get entries at ≡ Some entry
entry_here entries items at entry e lt is =
    let there : slice_get items at ≡ Some (get_or items at entry) = slice_get-get_or items at entry lt in
    rw (← e) (there ∙ ap Some (sym is))

-- where the loop has no entry left, it has come to the end
walked : (entries items : List Entry) (at : ℕ) → items ≡ entries → length items ≤ at → at ≤ length items → length entries ≡ at
walked entries items at e low high = rw (← e) (omega arith)

pub loop-at-preserved : goal.loop-at-preserved
loop-at-preserved g c =
    let items = c.deref-entry-items.result.now in
    let here = entry_here c.args.trace.now.entries items c.loop-at.at c.entry-item.result c.deref-entry-items.ensures (omega arith) c.entry-item.is in
    let step = c.in_ok-take.ensures in
    follows_more g.C.Controller.react g.C.Controller.start g.C.Controller.policies c.args.setup.now c.args.trace.now.entries c.loop-at.at c.entry-item.result c.loop-at.run.world c.take.new.self.world c.loop-at.run.numbers c.take.new.self.numbers here c.loop-at.invariant
    step.legal step.number step.world step.numbers step.fits

pub returns-in_err-take-clause-wrong : goal.returns-in_err-take-clause-wrong
returns-in_err-take-clause-wrong g c =
    let items = c.deref-entry-items.result.now in
    let here = entry_here c.args.trace.now.entries items c.loop-at.at c.entry-item.result c.deref-entry-items.ensures (omega arith) c.entry-item.is in
    let p = err_from_is_err_and c.from_residual-in_err-take.result c.from_residual-in_err-take.ensures.1 in
    rw (p.1, p.2) (wrong_here g.C.Controller.react g.C.Controller.start g.C.Controller.policies c.args.setup.now c.args.trace.now c.loop-at.at c.entry-item.result c.loop-at.run.world c.loop-at.run.numbers c.in_err-take.field-0.0 here c.loop-at.invariant c.in_err-take.ensures.wrong)

pub returns-then-not-ends_as-clause-wrong : goal.returns-then-not-ends_as-clause-wrong
returns-then-not-ends_as-clause-wrong g c =
    let all = follows_all g.C.Controller.react g.C.Controller.start g.C.Controller.policies c.args.setup.now c.args.trace.now.entries c.loop-at.at c.loop-at.run.world c.loop-at.run.numbers (walked c.args.trace.now.entries c.deref-entry-items.result.now c.loop-at.at c.deref-entry-items.ensures (omega arith) (omega arith)) c.loop-at.invariant in
    let same = end_here g.C.Controller.react g.C.Controller.start g.C.Controller.policies c.args.setup.now c.args.trace.now c.len.result c.loop-at.run.world c.loop-at.run.numbers all c.len.ensures in
    (all.sound, λ ends. let never : IsTrue false = c.if-not-ends_as.ensures.1 (subst (λ (P : Type 0). P) (sym same) ends) in absurd cc)

pub returns-clause-legal : goal.returns-clause-legal
returns-clause-legal g c =
    let all = follows_all g.C.Controller.react g.C.Controller.start g.C.Controller.policies c.args.setup.now c.args.trace.now.entries c.loop-at.at c.loop-at.run.world c.loop-at.run.numbers (walked c.args.trace.now.entries c.deref-entry-items.result.now c.loop-at.at c.deref-entry-items.ensures (omega arith) (omega arith)) c.loop-at.invariant in
    let same = end_here g.C.Controller.react g.C.Controller.start g.C.Controller.policies c.args.setup.now c.args.trace.now c.len.result c.loop-at.run.world c.loop-at.run.numbers all c.len.ensures in
    record { entries = all.sound; end = subst (λ (P : Type 0). P) same (c.if-not-ends_as.ensures.0 refl) }
