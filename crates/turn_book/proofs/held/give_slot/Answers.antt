use Rattle.std.proofs.Common.{◌∷◌, ap, ◌∙◌, Some}
use Rattle.turn_book.proofs.Slots.{out_slot, out_rest}
use Rattle.turn_book.proofs.held.give_slot.Goals as goal

pub exchange-requires : goal.exchange-requires
exchange-requires g c = (c.requires.table, out_slot _ c.requires.slot)

pub returns-clause-slot : goal.returns-clause-slot
returns-clause-slot g c = c.exchange.ensures.3 ∙ ap (λ r. (c.args.token.now.me.0, (0, Some c.args.book) ∷ r)) (out_rest c.args.token.now.me.1 c.requires.slot)
