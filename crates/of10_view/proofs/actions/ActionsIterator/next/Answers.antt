-- The first of the actions that are left is given.
use Rattle.std.proofs.Common.{◌≡◌, ◌==◌, ℕ, true, List, [], ◌∷◌, drop, take, length, sym, ap, ◌∙◌, arith, rules}
use Rattle.std.proofs.lemmas.Bool.{eqb-true}
use Rattle.byteorder.specs.Endian.{big_from}
use Rattle.of10_messages.specs.Refusal.{action_starts, told_length}
use Rattle.of10_view.specs.Parts.{action_part, action_parts}
use Rattle.of10_view.specs.Lent.{actions_left}
use Rattle.of10_view.proofs.actions.ActionsIterator.next.Goals as goal

-- no bytes hold no action
ended : (old left : List ℕ) → left ≡ old → (length left == 0) ≡ true → actions_left old ≡ []
unfolding actions_left action_starts
ended old [] is empty = ap action_parts (sym is)
ended old (b ∷ left) is empty = absurd (omega (arith, eqb-true (length (b ∷ left)) 0 empty))

-- the first action, and what is left after it
stepped : (old left rest bytes : List ℕ) (len kind : ℕ) → left ≡ old → action_parts left ≡ action_part left ∷ action_parts (drop len left) → len ≡ told_length left
    → kind ≡ big_from 0 2 left → bytes ≡ take len left → rest ≡ drop len left → actions_left old ≡ (kind, bytes) ∷ actions_left rest
unfolding actions_left
stepped old left rest bytes len kind is parts told first front back = cc

pub returns-then-is_empty-clause-steps : goal.returns-then-is_empty-clause-steps
returns-then-is_empty-clause-steps c =
    let none = ended c.args.self.now c.self.inside.left.now c.self.view_is (sym c.is_empty.ensures ∙ c.if-is_empty.true) in
    (none, none)

pub returns-clause-steps : goal.returns-clause-steps
returns-clause-steps c =
    stepped c.args.self.now c.self.inside.left.now c.rest_at-self-inside.result.now c.front_of.result.now c.first_len-len.result c.u16_at.result c.self.view_is
    c.first_len-len.ensures.parts c.first_len-len.ensures.told c.u16_at.ensures c.front_of.ensures.front c.rest_at-self-inside.ensures.rest

pub returns-clause-goes : goal.returns-clause-goes
returns-clause-goes c =
    let step = stepped c.args.self.now c.self.inside.left.now c.rest_at-self-inside.result.now c.front_of.result.now c.first_len-len.result c.u16_at.result c.self.view_is
    c.first_len-len.ensures.parts c.first_len-len.ensures.told c.u16_at.ensures c.front_of.ensures.front c.rest_at-self-inside.ensures.rest in
    let shorter = ap length step in search rules
