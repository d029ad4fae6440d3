use Rattle.causal_replay.proofs.Whole.{whole_run, whole_worlds}
use Rattle.causal_replay.proofs.laws.whole_replay_gives_the_run.Goals as goal

pub returns-clause-run : goal.returns-clause-run
returns-clause-run g c = λ setup trace keep run absent world legal all known. whole_run g.C.Controller.react g.C.Controller.start setup trace.entries keep run absent world legal.entries all known

pub returns-clause-worlds : goal.returns-clause-worlds
returns-clause-worlds g c = λ setup trace keep run absent world legal all known at.
    whole_worlds g.C.Controller.react g.C.Controller.start setup trace.entries run at (whole_run g.C.Controller.react g.C.Controller.start setup trace.entries keep run absent world legal.entries all known).0
