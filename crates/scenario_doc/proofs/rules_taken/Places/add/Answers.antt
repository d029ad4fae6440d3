use Rattle.scenario_doc.proofs.SeenPlaces.{place_added}
use Rattle.scenario_doc.specs.Taken.{has_place}
use Rattle.scenario_doc.proofs.rules_taken.Places.add.Goals as goal

pub returns : goal.returns
returns c = λ a b. place_added c.args.s c.args.p a b (has_place c.args.self.now.seen a b) (has_place c.insert.new.self a b)
    (c.in_ok-insert.ensures.updates.0 (a, b))
