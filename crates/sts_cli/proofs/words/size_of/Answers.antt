use Rattle.std.proofs.Common.{◌≡◌, ◌∙◌, ◌<◌, ◌^◌, ℕ, inl, inr, sym, arith}
use Rattle.std.proofs.lemmas.Fmt.{decimal_injective}
use Rattle.sts_cli.proofs.words.size_of.Goals as goal

pub returns-then-size-lt3-clause-none : goal.returns-then-size-lt3-clause-none
returns-then-size-lt3-clause-none c _ size least most same =
    let one : c.in_ok-size.size ≡ size = decimal_injective c.in_ok-size.size size c.in_ok-size.ensures.small (omega arith) (sym c.in_ok-size.ensures.some ∙ same) in
    elim c.then-size-lt3.either [
      | inl less ↦ omega arith
      | inr more ↦ let big = more.1 in omega arith
    ]
