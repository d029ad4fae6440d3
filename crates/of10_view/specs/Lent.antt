-- What a view stands for, and what an iterator over actions still gives.
use Rattle.std.specs.Prelude.{◌≡◌, ℕ, List, [], ◌∷◌, Option, Some, None}
use Rattle.of10_view.specs.Parts.{action_parts}
use Rattle.of10_view.specs.declared.actions.ActionView.{ActionView}
use Rattle.of10_view.specs.declared.view.View.{View}

-- the bytes of the message
abbrev pub view_bytes : View → List ℕ
view_bytes view = view.bytes.now

-- the actions that are still to come
unfoldable pub actions_left : List ℕ → List (ℕ × List ℕ)
actions_left bytes = action_parts bytes

-- the first action is given, or none is left now or later
abbrev pub GivesAction : List ℕ → Option ActionView → List ℕ → Type 0
GivesAction old None new = (actions_left old ≡ []) × (actions_left new ≡ [])
GivesAction old (Some action) new = actions_left old ≡ (action.kind, action.bytes.now) ∷ actions_left new
