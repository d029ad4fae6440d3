use Rattle.std.proofs.Common.{rules, ◌≡◌, List, All, subst, sym}
use Rattle.event_machine.specs.Holding.{IsEntryOf}
use Rattle.event_machine.specs.declared.trace.Entry.{Entry}
use Rattle.event_machine.specs.declared.trace.Trace.{Trace}
use Rattle.run_recorder.specs.Recording.{Begun, IsBegun}
use Rattle.run_recorder.proofs.RestGoes.{ends_legal}
use Rattle.run_recorder.proofs.begun.Begun.end.Goals as goal

pub returns-clause-legal : goal.returns-clause-legal
returns-clause-legal g c =
    let react = g.C.Controller.react in
    let first = g.C.Controller.start in
    let policies = g.C.Controller.policies in
    let trace : Trace = record { entries = c.of.result; end = c.ending-end.result } in
    let known : IsBegun react first policies c.args.self = subst (λ (b : Begun g.row.C.Denot). IsBegun react first policies b) c.self.view_is c.self.invariant.0 in
    let all : c.of.result ≡ c.args.self.entries = search rules in
    ends_legal react first policies c.args.self trace known all c.ending-end.ensures

pub returns-clause-holding : goal.returns-clause-holding
returns-clause-holding g c =
    let known : IsBegun g.C.Controller.react g.C.Controller.start g.C.Controller.policies c.args.self =
    subst (λ (b : Begun g.row.C.Denot). IsBegun g.C.Controller.react g.C.Controller.start g.C.Controller.policies b) c.self.view_is c.self.invariant.0 in
    let all : c.of.result ≡ c.args.self.entries = search rules in
    subst (λ (entries : List Entry). All (IsEntryOf c.args.self.setup) entries) (sym all) known.holding
