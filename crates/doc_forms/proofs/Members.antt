-- The keys of an object.
use Rattle.std.proofs.Common.{◌≡◌, List, [], ◌∷◌, Global, String, map, refl, ap, string_bytes}
use Rattle.serde_json.specs.View.{members_view}
use Rattle.serde_json.specs.declared.value.Value.{Value}
use Rattle.doc_forms.specs.Forms.{keys_of}

-- they are those of the map that holds its members
pub keys_of-members_view : (es : List (String Global × Value)) → keys_of (members_view es) ≡ map string_bytes (map (λ e. e.0) es)
keys_of-members_view [] = refl
keys_of-members_view (e ∷ es) = ap (λ keys. string_bytes e.0 ∷ keys) (keys_of-members_view es)
