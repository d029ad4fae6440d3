use Rattle.std.proofs.Common.{◌≡◌, drop, length, All}
use Rattle.serde_json.specs.View.{items_view}
use Rattle.doc_forms.specs.Forms.{all_read}
use Rattle.doc_forms.proofs.Elements.{with_front}
use Rattle.doc_forms.proofs.lists.all_read.Given as goal

abbrev pub invariant-loop-index : goal.invariant-loop-index
invariant-loop-index g l = let form = g.F.Form.form in record {
  so_far : with_front l.list (all_read form l.index (items_view (drop l.index l.items))) ≡ all_read form 0 (items_view l.items);
  count : length l.list ≡ l.index;
  holds : All g.F.Form.holds l.list;
}
