-- The replay with the atoms of a run, and its verdict.
use Rattle.std.proofs.lemmas.Result.{IfOk-weaker}
use Rattle.causal_minimizer.proofs.trial.ends_in_violation.Goals as goal

pub returns : goal.returns
returns g c =
    let replayed = c.in_ok-replayed.replayed in
    IfOk-weaker c.is_violated_in.result _ _ (λ failed found. record {
      run = replayed.run;
      absent = replayed.absent;
      world = replayed.world;
      replay = rw c.requires.own at (c.in_ok-replayed.ensures.replay c.args.invariant.now);
      found = found;
    }) c.is_violated_in.ensures
