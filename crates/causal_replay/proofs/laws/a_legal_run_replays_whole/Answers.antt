use Rattle.causal_replay.proofs.Existence.{whole_replay}
use Rattle.causal_replay.proofs.laws.a_legal_run_replays_whole.Goals as goal

pub returns : goal.returns
returns g c = λ setup trace keep legal long all. whole_replay g.C.Controller.react g.C.Controller.start setup trace.entries keep legal.entries long all
