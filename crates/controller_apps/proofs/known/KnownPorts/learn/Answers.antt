-- The switch's ports are written, or its first port is put.
use Rattle.std.proofs.Common.{◌≡◌, ℕ, Result, Ok, Err, Some, OnOk, OnErr, BTreeMap, nat_cmp, ap, subst, ◌∙◌}
use Rattle.std.specs.BTreeMap.{UpdatesBy}
use Rattle.std.specs.FinMap.{insert}
use Rattle.controller_apps.specs.Ports.{AtSwitch}
use Rattle.controller_apps.proofs.Tables.{kept_there, learnt_first, learnt_there}
use Rattle.controller_apps.proofs.known.KnownPorts.learn.Goals as goal

on_ok : {T E P Q : Type 0} (r : Result T E) → OnOk r P → (P → Q) → OnOk r Q
on_ok (Ok x) p follows = follows p
on_ok (Err e) p follows = tt

on_err : {T E P Q : Type 0} (r : Result T E) → OnErr r P → (P → Q) → OnErr r Q
on_err (Ok x) p follows = tt
on_err (Err e) p follows = follows p

pub returns-in-Some-clause-ok : goal.returns-in-Some-clause-ok
returns-in-Some-clause-ok c =
    on_ok c.put.result c.put.ensures.ok (λ put. learnt_there c.self.inside.switches (c.get_mut.follows.lender c.put.new.self) c.args.self.now c.args.s c.args.address c.args.port c.in-Some.there.now c.put.new.self
    c.self.view_is c.in-Some.ensures.value (c.get_mut.follows.holds c.put.new.self) put)

pub returns-in-Some-clause-err : goal.returns-in-Some-clause-err
returns-in-Some-clause-err c =
    on_err c.put.result c.put.ensures.err (λ same. kept_there c.self.inside.switches (c.get_mut.follows.lender c.put.new.self) c.args.self.now c.args.s c.in-Some.there.now c.put.new.self
    c.self.view_is c.in-Some.ensures.value (c.get_mut.follows.holds c.put.new.self) same)

pub returns-clause-ok : goal.returns-clause-ok
returns-clause-ok c =
    let same : c.get_mut.follows.lender-at-none ≡ c.self.inside.switches = c.get_mut.follows.holds-at-none in
    learnt_first c.self.inside.switches c.insert.new.self c.args.self.now c.args.s c.args.address c.args.port c.put-2.new.self c.self.view_is c.in_default.ensures.value
    (subst (λ (m : BTreeMap ℕ AtSwitch). UpdatesBy nat_cmp (nat_cmp c.args.s) m c.insert.new.self (Some c.put-2.new.self)) same c.in_ok-insert.ensures.updates)
    (c.in_ok-put.ensures.ok ∙ ap (λ (at : AtSwitch). insert at c.args.address c.args.port) c.new-there.ensures)
