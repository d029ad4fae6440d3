use Rattle.sts_cli.proofs.Unique.{one_answer}
use Rattle.sts_cli.proofs.laws.the_bytes_of_a_log_have_one_answer.Goals as goal

pub returns : goal.returns
returns c = one_answer c.there_is_one_replay.ensures c.there_is_one_verdict.ensures c.there_is_one_reduction.ensures
