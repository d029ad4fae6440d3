use Rattle.std.proofs.Common.{◌∙◌, ap, arith, set}
use Rattle.number_set.proofs.Places.{below_count, changes, flags_changed, kept_after, word_within}
use Rattle.number_set.proofs.set.NumberSet.write.Goals as goal

pub index-requires : goal.index-requires
index-requires c = let within = word_within _ _ _ c.args.number c.self.invariant (below_count _ _ _ _ c.self.view_is c.requires) in omega arith

pub index_mut-requires : goal.index_mut-requires
index_mut-requires c = let within = word_within _ _ _ c.args.number c.self.invariant (below_count _ _ _ _ c.self.view_is c.requires) in omega arith

pub with_bit-self-inside-requires : goal.with_bit-self-inside-requires
with_bit-self-inside-requires c =
    let within = word_within _ _ _ c.args.number c.self.invariant (below_count _ _ _ _ c.self.view_is c.requires) in
    omega (arith, c.self.invariant.few)

pub invariant_of-self : goal.invariant_of-self
invariant_of-self c =
    let below = below_count _ _ _ c.args.number c.self.view_is c.requires in
    let within = word_within _ _ _ c.args.number c.self.invariant below in
    let change = changes c.self.inside.words.items c.args.number _ c.with_bit-word.result _ within c.index.ensures c.with_bit-word.ensures.same c.with_bit-word.ensures.others in
    kept_after _ _ _ c.args.number _ _ c.args.present c.self.invariant below (omega arith) change c.with_bit-self-inside.ensures.same c.with_bit-self-inside.ensures.others

pub returns : goal.returns
returns c =
    let below = below_count _ _ _ c.args.number c.self.view_is c.requires in
    let within = word_within _ _ _ c.args.number c.self.invariant below in
    let change = changes c.self.inside.words.items c.args.number _ c.with_bit-word.result _ within c.index.ensures c.with_bit-word.ensures.same c.with_bit-word.ensures.others in
    flags_changed c.self.inside.count _ _ c.args.number c.args.present below change ∙ ap (λ flags. set flags c.args.number c.args.present) c.self.view_is
