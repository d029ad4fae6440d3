-- The end of the run, by the law of whole replays.
use Rattle.std.proofs.Common.{◌≡◌, length, replicate, true, rules}
use Rattle.std.proofs.lemmas.Result.{IfOk-weaker}
use Rattle.causal_minimizer.proofs.Everything.{all_true_of, end_world}
use Rattle.causal_minimizer.proofs.reduced.whole_replay.Goals as goal

pub returns-clause-world : goal.returns-clause-world
returns-clause-world g c =
    let react = g.C.Controller.react in
    let first = g.C.Controller.start in
    let setup = c.args.setup.now in
    let trace = c.args.trace.now in
    let all : c.as_slice.result.now ≡ replicate (length setup.script) true = search rules in
    IfOk-weaker c.replay.result _ _ (λ whole known. end_world react first setup trace whole.run whole.world known.world_is
    (c.whole_replay_gives_the_run.ensures.worlds setup trace c.as_slice.result.now whole.run whole.absent whole.world c.requires.legal (all_true_of c.as_slice.result.now (length setup.script) all) known)) c.replay.ensures.replay
