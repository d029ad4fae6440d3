-- The ends of all links are among the switches.
use Rattle.std.proofs.Common.{◌∙◌, ℕ, List, All, subst, sym}
use Rattle.route_app.proofs.Numbered.{HasEnds, Link}
use Rattle.route_app.proofs.routing.Routing.new.Goals as goal

pub wires_of-requires-clause-ends : goal.wires_of-requires-clause-ends
wires_of-requires-clause-ends c =
    subst (λ (ls : List Link). All (HasEnds c.as_slice-2.result.now) ls) (c.as_slice.ensures ∙ sym c.as_slice-3.ensures)
    (subst (λ (xs : List ℕ). All (HasEnds xs) c.as_slice.result.now) (sym c.as_slice-2.ensures) c.in_ok-switches.ensures.ends)
