use Rattle.std.proofs.Common.{arith}
use Rattle.serde_json.proofs.Views.{items_len-items_view}
use Rattle.std.proofs.lemmas.Grind.{common_steps}
use Rattle.doc_forms.proofs.lists.kind_at.Goals as goal

pub returns : goal.returns
returns g c = let h = items_len-items_view c.in-Some.items.now.items in rw (← c.in-Some.ensures, h) (grind (arith, common_steps))

pub returns-in_err-require : goal.returns-in_err-require
returns-in_err-require g c = let h = items_len-items_view c.in-Some.items.now.items in rw (← c.in-Some.ensures, h) (grind (arith, common_steps))
