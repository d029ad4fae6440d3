use Rattle.std.proofs.Common.{◌≡◌, subst}
use Rattle.topology.specs.declared.invariant.Invariant.{Invariant}
use Rattle.controller_host.specs.Hosting.{hosting, starting}
use Rattle.causal_minimizer.specs.Failing.{IsReduction}
use Rattle.sts_cli.proofs.Violated.{lent_there, never_both}
use Rattle.sts_cli.proofs.sequence.reduced_at.Goals as goal

pub unreachable-requires : goal.unreachable-requires
unreachable-requires c =
    let violated = c.requires.violated in
    let same = lent_there c.args.scenario.now.invariants c.deref.result.now c.args.place violated.invariant _ c.deref.ensures violated.named in
    never_both c.there_is_one_verdict.ensures c.args.scenario.now.setup violated.invariant _ _ same violated.found
    (c.in-Err-NotViolated.ensures.not_violated c.in-Err-NotViolated.field-0-is)

pub returns-in-Ok : goal.returns-in-Ok
returns-in-Ok c =
    let violated = c.requires.violated in
    let setup = c.args.scenario.now.setup in
    let trace = c.args.trace.now in
    let r = c.in-Ok.reduced in
    let same = lent_there c.args.scenario.now.invariants c.deref.result.now c.args.place violated.invariant _ c.deref.ensures violated.named in
    let reduction : IsReduction hosting starting setup trace violated.invariant r.atoms r.of r.replayed.run r.replayed.absent r.replayed.world =
    subst (λ (i : Invariant). IsReduction hosting starting setup trace i r.atoms r.of r.replayed.run r.replayed.absent r.replayed.world) same c.in-Ok.ensures.reduced in
    record {
      invariant = violated.invariant;
      named = violated.named;
      world = r.replayed.world;
      reduced = reduction;
      legal = c.a_replay_takes_legal_steps.ensures setup trace _ r.replayed.run r.replayed.absent r.replayed.world c.requires.legal reduction.replay;
      needed = c.no_atom_can_be_left_out.ensures setup trace violated.invariant reduction.numbers reduction.enough;
    }
