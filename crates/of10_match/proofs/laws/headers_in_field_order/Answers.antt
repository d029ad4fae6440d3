-- The order of headers is total and exact.
use Rattle.of10_match.proofs.HeaderLaws.{header_cmp-one, header_cmp-total}
use Rattle.of10_match.proofs.laws.headers_in_field_order.Goals as goal

pub returns-clause-total : goal.returns-clause-total
returns-clause-total c = header_cmp-total

pub returns-clause-one : goal.returns-clause-one
returns-clause-one c = header_cmp-one
