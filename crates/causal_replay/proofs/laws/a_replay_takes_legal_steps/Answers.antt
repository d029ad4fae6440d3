use Rattle.causal_replay.proofs.LegalSteps.{legal_steps}
use Rattle.causal_replay.proofs.laws.a_replay_takes_legal_steps.Goals as goal

pub returns : goal.returns
returns g c = λ setup trace keep run absent world legal known. legal_steps g.C.Controller.react g.C.Controller.start setup trace.entries keep run absent world legal.entries known
