use Rattle.sts_cli.proofs.sequence.shown.Goals as goal

pub returns-clause-shown : goal.returns-clause-shown
returns-clause-shown c =
    let reduced = c.in_ok-reduced.reduced in
    record {
      atoms = reduced.atoms;
      of = reduced.of;
      run = reduced.replayed.run;
      absent = reduced.replayed.absent;
      reduced = c.in_ok-reduced.ensures;
      told = c.in_ok-told.ensures;
    }
