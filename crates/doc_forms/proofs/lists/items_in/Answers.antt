use Rattle.std.proofs.Common.{arith}
use Rattle.serde_json.proofs.Views.{items_len-items_view}
use Rattle.std.proofs.lemmas.Grind.{common_steps}
use Rattle.doc_forms.proofs.lists.items_in.Goals as goal

pub returns-in-Some-clause-ok : goal.returns-in-Some-clause-ok
returns-in-Some-clause-ok c = let h = items_len-items_view c.in-Some.items.now.items in rw (← c.in-Some.ensures, h) (grind (arith, common_steps))

pub returns-in-Some-2-clause-err : goal.returns-in-Some-2-clause-err
returns-in-Some-2-clause-err c = let h = items_len-items_view c.in-Some.items.now.items in rw (← c.in-Some.ensures, h) (grind (arith, common_steps))
