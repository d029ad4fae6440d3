use Rattle.std.proofs.Common.{◌≡◌, bytes_eq, find, map, not, List, ℕ, string_bytes}
use Rattle.std.specs.List.{list_any}
use Rattle.serde_json.specs.View.{members_view}
use Rattle.doc_forms.specs.Forms.{keys_of}
use Rattle.doc_forms.proofs.objects.unknown_key.Given as goal

abbrev pub invariant-loop-key : goal.invariant-loop-key
invariant-loop-key l = let is_unknown = λ (key : List ℕ). not (list_any (bytes_eq key) (map (λ known. known.now) l.keys)) in
    (goal.iterator-loop-key).can_next l.key-iterator ×
    (goal.iterator-loop-key).is_finite l.key-iterator ×
    (find is_unknown (map string_bytes l.key-iterator) ≡ find is_unknown (keys_of (members_view l.members.entries)))
