-- What a cutter holds once the message that borrows it is gone.
use Rattle.std.specs.Prelude.{◌≡◌, ℕ, List, ⊤}
use Rattle.std.specs.Borrow.{follows_so, MutBor, Fml}
use mathlib.Core.Option.{none}
use Rattle.of10_view.specs.contracts.cutter.Cutter.{the_row}
use Rattle.of10_view.specs.declared.cutter.Cutter.{Cutter}
use Rattle.of10_view.specs.Seen.{held}

-- it holds these bytes
abbrev pub EndsAs : MutBor Cutter → List ℕ → Fml
EndsAs cutter bytes = follows_so the_row the_row cutter.ghost_name none (λ _ _. ⊤) (λ last. held last ≡ bytes)
