use Rattle.std.proofs.Common.{◌≡◌, bytes_eq, drop, map}
use Rattle.std.specs.List.{list_any}
use Rattle.doc_forms.proofs.objects.has_key.Given as goal

abbrev pub invariant-loop-known : goal.invariant-loop-known
invariant-loop-known l =
    list_any (bytes_eq l.key) (map (λ key. key.now) (drop l.known-index l.keys)) ≡ list_any (bytes_eq l.key) (map (λ key. key.now) l.keys)
