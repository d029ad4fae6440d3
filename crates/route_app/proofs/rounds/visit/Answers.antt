-- The queue has room for each switch to which no path is known.
use Rattle.std.proofs.Common.{◌≡◌, ◌+◌, ℕ, List, Option, None, Some, arith, get_or, is_some, not, set, subst, sym}
use Rattle.route_app.specs.Rounds.{HasRoom}
use Rattle.route_app.specs.declared.reach.Reach.{Reach}
use Rattle.route_app.proofs.Fronts.{room_for, room_kept, room_pushed}
use Rattle.route_app.proofs.rounds.visit.Goals as goal
use Rattle.route_app.proofs.rounds.visit.Goals.{then-is_none, else-is_none}

pub push-requires-clause-few : goal.push-requires-clause-few
push-requires-clause-few c =
    let test : is_some (get_or c.args.row.now c.args.exit.0 None) ≡ not c.is_none.result =
    subst (λ (r : List (Option Reach)). is_some (get_or r c.args.exit.0 None) ≡ not c.is_none.result) c.deref.ensures (subst (λ (n : ℕ). is_some (get_or c.deref.result.now n None) ≡ not c.is_none.result) c.from-from.ensures c.is_none.ensures) in
    let less = room_for c.args.row.now c.args.exit.0 c.is_none.result c.args.queue.now.len c.requires.from test c.if-is_none.true c.requires.room.0 in
    let few = c.requires.few in
    omega arith

pub push-requires-clause-room : goal.push-requires-clause-room
push-requires-clause-room c =
    let test : is_some (get_or c.args.row.now c.args.exit.0 None) ≡ not c.is_none.result =
    subst (λ (r : List (Option Reach)). is_some (get_or r c.args.exit.0 None) ≡ not c.is_none.result) c.deref.ensures (subst (λ (n : ℕ). is_some (get_or c.deref.result.now n None) ≡ not c.is_none.result) c.from-from.ensures c.is_none.ensures) in
    let less = room_for c.args.row.now c.args.exit.0 c.is_none.result c.args.queue.now.len c.requires.from test c.if-is_none.true c.requires.room.0 in
    let enough = c.requires.room.1 in
    omega arith

pub returns-then-is_better-clause-room : goal.returns-then-is_better-clause-room
returns-then-is_better-clause-room c =
    let reach : Reach = record { links = c.args.round + 1; port = c.args.exit.1 } in
    let new : c.replace.new.self ≡ set c.args.row.now c.args.exit.0 (Some reach) = subst (λ (n : ℕ). c.replace.new.self ≡ set c.args.row.now n (Some reach)) c.from-from.ensures c.replace.ensures in
    let test : is_some (get_or c.args.row.now c.args.exit.0 None) ≡ not c.is_none.result =
    subst (λ (r : List (Option Reach)). is_some (get_or r c.args.exit.0 None) ≡ not c.is_none.result) c.deref.ensures (subst (λ (n : ℕ). is_some (get_or c.deref.result.now n None) ≡ not c.is_none.result) c.from-from.ensures c.is_none.ensures) in
    elim c.if-is_none.branch [
      | then-is_none w ↦ subst (HasRoom c.replace.new.self) (sym w.queue-is)
          (room_pushed c.args.row.now c.replace.new.self c.args.exit.0 reach c.is_none.result c.args.queue.now w.push.new.self c.requires.from test w.if-is_none.true c.requires.room new w.push.ensures.len w.push.ensures.room)
      | else-is_none w ↦ subst (HasRoom c.replace.new.self) (sym w.queue-is) (room_kept c.args.row.now c.replace.new.self c.args.exit.0 reach c.args.queue.now c.requires.room new)
    ]
