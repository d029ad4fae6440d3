-- What the best entry of the stop's table sends, or nothing.
use Rattle.std.proofs.Common.{◌≡◌, ◌∙◌, ◌<◌, All, Some, get_or, length, refl, sym, ap, subst, arith}
use Rattle.std.specs.List.{slice_get, slice_index}
use Rattle.std.proofs.lemmas.Option.{slice_get_read}
use Rattle.std.proofs.lemmas.Result.{IfOk-weaker}
use Rattle.std.proofs.lemmas.Slice.Zip.{AllZip-long}
use Rattle.of10_messages.specs.Valid.{IsValidAction}
use Rattle.flow_table.specs.Entry.{IsValidEntry}
use Rattle.flow_table.specs.declared.entry.Entry.{Entry}
use Rattle.header_classes.specs.Rewrite.{rewritten}
use Rattle.header_classes.specs.Trials.{AreTrials}
use Rattle.invariant_check.proofs.Sent.{hit, missed}
use Rattle.invariant_check.proofs.Tables.{best_within, trials_at}
use Rattle.invariant_check.proofs.hops.hops_of.Goals as goal

pub bounds-trials-s : goal.bounds-trials-s
bounds-trials-s c =
    let long = AllZip-long AreTrials c.args.net.now.tables c.args.trials.now c.requires.trials in
    let few : c.args.stop.now.s < length c.args.trials.now = omega (arith, c.requires.stop.place.0, c.requires.net.tables, long) in
    rw c.from-s.ensures few

pub bounds-entries-place : goal.bounds-entries-place
bounds-entries-place c =
    let few : c.args.stop.now.s < length c.args.net.now.tables = omega (arith, c.requires.stop.place.0, c.requires.net.tables) in
    let is : c.index-deref-s.result ≡ get_or c.args.net.now.tables c.args.stop.now.s c.index-deref-s.result = rw (c.deref-2.ensures, c.from-s.ensures) at c.index-deref-s.is in
    let its : c.index-trials-s.result ≡ get_or c.args.trials.now c.args.stop.now.s c.index-trials-s.result = rw c.from-s.ensures at c.index-trials-s.is in
    let are : AreTrials c.index-deref-s.result c.index-trials-s.result = trials_at c.args.net.now.tables c.args.trials.now c.args.stop.now.s _ _ c.requires.trials few is its in
    let within : c.in-Some.place < length c.index-deref-s.result =
    best_within _ _ _ _ (c.in-Some.ensures.every c.index-deref-s.result c.best.new.self.header are c.best.new.self.inside) in
    rw c.entries.ensures.entries within

pub offset_bounds-entries-place : goal.offset_bounds-entries-place
offset_bounds-entries-place c =
    let few : c.args.stop.now.s < length c.args.net.now.tables = omega (arith, c.requires.stop.place.0, c.requires.net.tables) in
    let is : c.index-deref-s.result ≡ get_or c.args.net.now.tables c.args.stop.now.s c.index-deref-s.result = rw (c.deref-2.ensures, c.from-s.ensures) at c.index-deref-s.is in
    let its : c.index-trials-s.result ≡ get_or c.args.trials.now c.args.stop.now.s c.index-trials-s.result = rw c.from-s.ensures at c.index-trials-s.is in
    let are : AreTrials c.index-deref-s.result c.index-trials-s.result = trials_at c.args.net.now.tables c.args.trials.now c.args.stop.now.s _ _ c.requires.trials few is its in
    let within : c.in-Some.place < length c.index-deref-s.result =
    best_within _ _ _ _ (c.in-Some.ensures.every c.index-deref-s.result c.best.new.self.header are c.best.new.self.inside) in
    let below : c.in-Some.place < length c.entries.result.now = rw c.entries.ensures.entries within in
    omega (arith, below, c.entries.type_inv.1)

pub hops_of_actions-requires-clause-actions : goal.hops_of_actions-requires-clause-actions
hops_of_actions-requires-clause-actions c =
    let few : c.args.stop.now.s < length c.args.net.now.tables = omega (arith, c.requires.stop.place.0, c.requires.net.tables) in
    let is : c.index-deref-s.result ≡ get_or c.args.net.now.tables c.args.stop.now.s c.index-deref-s.result = rw (c.deref-2.ensures, c.from-s.ensures) at c.index-deref-s.is in
    let its : c.index-trials-s.result ≡ get_or c.args.trials.now c.args.stop.now.s c.index-trials-s.result = rw c.from-s.ensures at c.index-trials-s.is in
    let are : AreTrials c.index-deref-s.result c.index-trials-s.result = trials_at c.args.net.now.tables c.args.trials.now c.args.stop.now.s _ _ c.requires.trials few is its in
    let within : c.in-Some.place < length c.index-deref-s.result =
    best_within _ _ _ _ (c.in-Some.ensures.every c.index-deref-s.result c.best.new.self.header are c.best.new.self.inside) in
    let same : c.index-entries-place.result ≡ get_or c.index-deref-s.result c.in-Some.place c.index-entries-place.result = rw c.entries.ensures.entries at c.index-entries-place.is in
    let valid : IsValidEntry c.index-entries-place.result = subst IsValidEntry (sym same) (c.entries.ensures.table.valid c.in-Some.place c.index-entries-place.result within) in
    let acts : c.deref-in-Some.result.now ≡ c.index-entries-place.result.actions = c.deref-in-Some.ensures ∙ ap (λ (e : Entry). e.actions) (sym c.index-entries-place.is) in
    subst (All IsValidAction) (sym acts) valid.actions

pub returns-in-Some-clause-hops : goal.returns-in-Some-clause-hops
returns-in-Some-clause-hops c =
    let net = c.args.net.now in
    let stop = c.args.stop.now in
    let table = c.index-deref-s.result in
    let place = c.in-Some.place in
    let entry = c.index-entries-place.result in
    let class = c.best.new.self in
    let few : stop.s < length net.tables = omega (arith, c.requires.stop.place.0, c.requires.net.tables) in
    let is : table ≡ get_or net.tables stop.s table = rw (c.deref-2.ensures, c.from-s.ensures) at c.index-deref-s.is in
    let its : c.index-trials-s.result ≡ get_or c.args.trials.now stop.s c.index-trials-s.result = rw c.from-s.ensures at c.index-trials-s.is in
    let are : AreTrials table c.index-trials-s.result = trials_at net.tables c.args.trials.now stop.s _ _ c.requires.trials few is its in
    let here : slice_get net.tables stop.s ≡ Some table = slice_get_read net.tables (length net.tables) stop.s table refl few is in
    let within : place < length table = best_within table stop.p (rewritten stop.sets class.header) place (c.in-Some.ensures.every table class.header are class.inside) in
    let same : entry ≡ get_or table place entry = rw c.entries.ensures.entries at c.index-entries-place.is in
    let there : slice_get table place ≡ Some entry = slice_get_read table (length table) place entry refl within same in
    let acts = c.deref-in-Some.ensures ∙ ap (λ (e : Entry). e.actions) (sym c.index-entries-place.is) in
    let at : slice_index c.deref.result.now c.from-s.result ≡ slice_index net.topology.ports stop.s = rw (c.deref.ensures, c.from-s.ensures) refl in
    IfOk-weaker c.hops_of_actions.result _ _
    (λ hops sent. hit net class.cell stop table place entry (slice_index c.deref.result.now c.from-s.result) c.deref-in-Some.result.now hops at here there acts (λ h inside. c.in-Some.ensures.every table h are inside) sent)
    c.hops_of_actions.ensures.hops

pub returns-in-None-clause-hops : goal.returns-in-None-clause-hops
returns-in-None-clause-hops c =
    let net = c.args.net.now in
    let stop = c.args.stop.now in
    let table = c.index-deref-s.result in
    let few : stop.s < length net.tables = omega (arith, c.requires.stop.place.0, c.requires.net.tables) in
    let is : table ≡ get_or net.tables stop.s table = rw (c.deref-2.ensures, c.from-s.ensures) at c.index-deref-s.is in
    let its : c.index-trials-s.result ≡ get_or c.args.trials.now stop.s c.index-trials-s.result = rw c.from-s.ensures at c.index-trials-s.is in
    let are : AreTrials table c.index-trials-s.result = trials_at net.tables c.args.trials.now stop.s _ _ c.requires.trials few is its in
    let here : slice_get net.tables stop.s ≡ Some table = slice_get_read net.tables (length net.tables) stop.s table refl few is in
    IfOk-weaker c.hops_of_actions-in-None.result _ _
    (λ hops sent. missed net c.best.new.self.cell stop table hops here sent (λ h inside. c.in-None.ensures.every table h are inside)) c.hops_of_actions-in-None.ensures.hops
