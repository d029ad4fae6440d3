-- The start, one more round, and the end.
use Rattle.std.proofs.Common.{◌≡◌, ◌∙◌, ℕ, All, None, Some, arith, length, set, subst, sym, ap}
use Rattle.std.proofs.lemmas.List.{length-replicate, length-set}
use Rattle.route_app.specs.Rounds.{at_home}
use Rattle.route_app.specs.Ways.{AreWays}
use Rattle.route_app.proofs.Levels.{length_first}
use Rattle.route_app.proofs.Search.{front_within, search_begins, search_ends, search_goes_on, search_is_over}
use Rattle.route_app.proofs.rounds.fill_row.Goals as goal

pub loop-round-init : goal.loop-round-init
loop-round-init c =
    let size = length c.args.row.now in
    let first : c.replace.new.self ≡ at_home size c.args.to = c.replace.ensures ∙ ap (λ row. set row c.args.to (Some (record { links = 0; port = 0 }))) c.clear.ensures in
    record {
      size = ap length first ∙ length_first size c.args.to;
      places = c.push.ensures.room;
      searched = search_begins size c.args.to c.args.ways_in.now c.args.down.now c.replace.new.self c.push.new.self c.requires.to (let room = c.requires.room in let same = c.push.ensures.room in omega arith) first c.push.ensures.len c.push.ensures.found;
    }

pub returns-then-start-end-clause-right : goal.returns-then-start-end-clause-right
returns-then-start-end-clause-right c =
    let is = c.loop-round.invariant in
    λ exits stand. search_ends c.args.to c.loop-round.start c.loop-round.round (length c.args.down.now) c.args.ways_in.now c.args.down.now c.loop-round.row c.loop-round.queue exits (c.requires.size ∙ sym is.size)
    (subst (λ (n : ℕ). All (AreWays n (length c.args.down.now)) c.args.ways_in.now) (sym is.size) c.requires.ways) is.searched c.if-start-end.true stand

pub run_round-requires-clause-last : goal.run_round-requires-clause-last
run_round-requires-clause-last c =
    front_within c.args.to c.loop-round.start c.loop-round.round c.args.ways_in.now c.args.down.now c.loop-round.row c.loop-round.queue c.loop-round.invariant.searched

pub loop-round-preserved : goal.loop-round-preserved
loop-round-preserved c =
    let is = c.loop-round.invariant in
    record {
      size = c.run_round.ensures.length ∙ is.size;
      places = c.run_round.ensures.places ∙ is.places;
      searched = search_goes_on c.args.to c.loop-round.start c.loop-round.round (length c.args.down.now) c.args.ways_in.now c.args.down.now c.loop-round.row c.run_round.new.row c.loop-round.queue c.run_round.new.queue
          (c.requires.size ∙ sym is.size) (subst (λ (n : ℕ). All (AreWays n (length c.args.down.now)) c.args.ways_in.now) (sym is.size) c.requires.ways) is.searched
          c.run_round.ensures.row c.run_round.ensures.found c.run_round.ensures.room;
    }

pub returns-clause-right : goal.returns-clause-right
returns-clause-right c =
    let is = c.loop-round.invariant in
    λ exits stand. search_is_over c.args.to c.loop-round.start c.loop-round.round (length c.args.down.now) c.args.ways_in.now c.args.down.now c.loop-round.row c.loop-round.queue exits (c.requires.size ∙ sym is.size)
    (subst (λ (n : ℕ). All (AreWays n (length c.args.down.now)) c.args.ways_in.now) (sym is.size) c.requires.ways) is.searched
    (
    let long : length c.replace.new.self ≡ length c.args.row.now = ap length c.replace.ensures ∙ length-set c.clear.new.row c.args.to _ ∙ ap length c.clear.ensures ∙ length-replicate (length c.args.row.now) None in
    let same = is.size in
    omega (arith, long)
    ) stand
