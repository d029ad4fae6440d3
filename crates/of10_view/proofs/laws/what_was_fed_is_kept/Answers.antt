-- Calls keep what was fed, from a new cutter on.
use Rattle.std.proofs.Common.{◌≡◌, [], None, refl}
use Rattle.std.proofs.lemmas.List.Elements.{All-nil}
use Rattle.of10_messages.specs.Refusal.{refusal_of}
use Rattle.of10_view.proofs.Stream.{kept_by_calls}
use Rattle.of10_view.proofs.laws.what_was_fed_is_kept.Goals as goal

pub returns : goal.returns
returns c = λ calls. kept_by_calls calls [] [] [] (record { whole = refl; each = All-nil (λ m. refusal_of m ≡ None) })
