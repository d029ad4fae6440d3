-- Field by field.
use Rattle.header_classes.proofs.Rewrites.{rewritten_valid}
use Rattle.header_classes.proofs.laws.sets_keep_headers_valid.Goals as goal

pub returns : goal.returns
returns c = rewritten_valid
