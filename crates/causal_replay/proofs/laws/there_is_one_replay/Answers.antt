use Rattle.causal_replay.proofs.Uniqueness.{one_replay}
use Rattle.causal_replay.proofs.laws.there_is_one_replay.Goals as goal

pub returns : goal.returns
returns g c = λ setup entries keep run other_run absent other_absent world other_world left right. one_replay g.C.Controller.react g.C.Controller.start setup entries keep run other_run absent other_absent world other_world left right
