use Rattle.std.proofs.Common.{◌≡◌, ◌∷◌, List, arith, subst, sym, ◌∙◌}
use Rattle.run_recorder.specs.Answers.{AreParts}
use Rattle.run_recorder.specs.AtOnce.{AreAway}
use Rattle.run_recorder.specs.Recorder.{recorded}
use Rattle.run_recorder.specs.Recording.{Working}
use Rattle.run_recorder.proofs.Stints.{all_away, may_serve, parts_again, taken_out}
use Rattle.run_recorder.proofs.at_once.served.Given.{Over}
use Rattle.run_recorder.proofs.at_once.served.Goals as goal

pub serve_all-stints-requires-clause-parts : goal.serve_all-stints-requires-clause-parts
serve_all-stints-requires-clause-parts g c κs within =
    let whole = taken_out c.args.parts c.into_vec-parts.result.items c.remove-idle.result c.remove-idle.new.self.items (omega (arith, c.requires.parts.count)) c.into_vec-parts.ensures
    c.remove-idle.ensures.value c.remove-idle.ensures.items in
    may_serve c.args.recorder.now c.remove-idle.result c.remove-idle.new.self.items c.in_ok-stints.stints.items
    (subst (AreParts (recorded c.args.recorder.now)) (sym whole) c.requires.parts) c.in_ok-stints.ensures

module _ (g : Over) (c : goal.After-of g) where
  whole : c.remove-idle.result ∷ c.remove-idle.new.self.items ≡ c.args.parts
  whole = taken_out c.args.parts c.into_vec-parts.result.items c.remove-idle.result c.remove-idle.new.self.items (omega (arith, c.requires.parts.count)) c.into_vec-parts.ensures
      c.remove-idle.ensures.value c.remove-idle.ensures.items

  were : AreParts (recorded c.args.recorder.now) (c.remove-idle.result ∷ c.remove-idle.new.self.items)
  were = subst (AreParts (recorded c.args.recorder.now)) (sym whole) c.requires.parts

  list : c.of.result ≡ c.remove-idle.result ∷ c.in_ok-parts.parts.items
  list = c.of.ensures ∙ c.in_ok-insert.ensures.items

pub returns-clause-parts : goal.returns-clause-parts
returns-clause-parts g c = subst (AreParts (recorded c.args.recorder.now)) (sym (list g c))
    (parts_again g.C.Controller.react g.C.Controller.start g.G.Gate.passes c.args.recorder.now c.in_ok-stints.stints.items c.serve_all-stints.result.items c.args.gates.now c.serve_all-stints.new.gates
    c.remove-idle.new.self.items c.in_ok-parts.parts.items c.in_ok-stints.ensures c.serve_all-stints.ensures c.in_ok-parts.ensures c.remove-idle.result (were g c))

pub returns-clause-served : goal.returns-clause-served
returns-clause-served g c =
    let away = all_away g.C.Controller.react g.C.Controller.start g.G.Gate.passes c.args.recorder.now c.in_ok-stints.stints.items c.serve_all-stints.result.items c.args.gates.now c.serve_all-stints.new.gates
    c.remove-idle.new.self.items c.in_ok-parts.parts.items c.in_ok-stints.ensures c.serve_all-stints.ensures c.in_ok-parts.ensures c.remove-idle.result (were g c) in
    subst (λ (parts : List (Working g.row.C.Denot)). AreAway g.C.Controller.react g.C.Controller.start g.G.Gate.passes c.args.gates.now c.serve_all-stints.new.gates parts c.of.result) (whole g c)
    (subst (AreAway g.C.Controller.react g.C.Controller.start g.G.Gate.passes c.args.gates.now c.serve_all-stints.new.gates (c.remove-idle.result ∷ c.remove-idle.new.self.items)) (sym (list g c)) away)
