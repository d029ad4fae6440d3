use Rattle.std.proofs.Common.{arith}
use Rattle.serde_json.proofs.Views.{items_len-items_view}
use Rattle.std.proofs.lemmas.Grind.{common_steps}
use Rattle.doc_forms.proofs.lists.counted.Goals as goal

pub returns-in-Some : goal.returns-in-Some
returns-in-Some c = let h = items_len-items_view c.in-Some.items.now.items in rw (← c.in-Some.ensures, h) (grind (arith, common_steps))
