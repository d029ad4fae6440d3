use Rattle.std.proofs.Common.{◌≡◌, drop, find, is_some, map, not, List, ℕ}
use Rattle.serde_json.specs.Find.{get}
use Rattle.serde_json.specs.View.{view}
use Rattle.doc_forms.proofs.objects.missing_key.Given as goal

abbrev pub invariant-loop-key : goal.invariant-loop-key
invariant-loop-key l = let is_missing = λ (key : List ℕ). not (is_some (get key (view l.value))) in
    find is_missing (map (λ key. key.now) (drop l.key-index l.keys)) ≡ find is_missing (map (λ key. key.now) l.keys)
