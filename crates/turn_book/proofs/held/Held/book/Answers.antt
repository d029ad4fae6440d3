use Rattle.std.proofs.Common.{◌≡◌, ℕ, refl}
use base.Stored.{Coded-set}
use mathlib.Core.Bool.{Bool-set}
use native.Mathlib.Nat.{ℕ_set}
use native.Mathlib.Bridge.{le_prop}
use Rattle.atomic_table.specs.Seated.{TableId, table_id_coded}
use Rattle.turn_book.specs.Steps.{Holding, Sat}
use Rattle.turn_book.specs.declared.held.Held.{Held}
use Rattle.turn_book.proofs.held.Held.book.Goals as goal

holding_prop : {B E S : Type 0} (table id : TableId) (m : Sat B E S) (word shares own : ℕ) → IsProp (Holding table id m word shares own)
holding_prop table id m word shares own = hlevel (Coded-set table_id_coded, ℕ_set, Bool-set, le_prop)

-- what is known of the seat is one fact, however it was shown
with_book : {B E S : Type 0} (h : Held B E S) (book : B) (k : Holding h.shared.now.table_id h.token.table_id h.token.me h.word h.shares h.own)
    → ◌≡◌ {A = Held B E S} (record { shared = h.shared; token = h.token; book = book; word = h.word; shares = h.shares; own = h.own; holding = k })
    (record { shared = h.shared; token = h.token; book = book; word = h.word; shares = h.shares; own = h.own; holding = h.holding })
with_book h book k i = record { shared = h.shared; token = h.token; book = book; word = h.word; shares = h.shares; own = h.own; holding = holding_prop _ _ _ _ _ _ k h.holding i }

pub returns : goal.returns
returns g c = ((refl, λ w. with_book c.args.self.now w _), record { writes_back = tt; value = refl })
