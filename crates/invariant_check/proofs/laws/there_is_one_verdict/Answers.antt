-- Hosts and headers are compared, and two first walks from one node are one.
use Rattle.invariant_check.proofs.Verdicts.{verdict_one}
use Rattle.invariant_check.proofs.laws.there_is_one_verdict.Goals as goal

pub returns : goal.returns
returns c = verdict_one c.headers_in_field_order.ensures.total c.headers_in_field_order.ensures.one
