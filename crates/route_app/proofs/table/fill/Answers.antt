-- A row is found anew, or it is right still.
use Rattle.std.proofs.Common.{◌≡◌, ◌∙◌, ◌+◌, ◌<◌, ℕ, Bool, List, Option, [], All, ap, arith, get_or, length, subst, sym}
use Rattle.std.proofs.lemmas.List.{get_or_default}
use Rattle.route_app.specs.Changes.{IsUntouched}
use Rattle.route_app.specs.Table.{AreWithin, IsMade, IsRow, ways}
use Rattle.route_app.specs.Ways.{AreOpen, AreWays}
use Rattle.route_app.specs.declared.reach.Reach.{Reach}
use Rattle.route_app.specs.declared.reach.Rows.{Rows}
use Rattle.route_app.specs.declared.reach.WayIn.{WayIn}
use Rattle.route_app.proofs.Search.{AreHalfRight, row_done, row_found, row_put, row_wide}
use Rattle.route_app.proofs.Untouched.{untouched_row}
use Rattle.route_app.proofs.WaysIn.{ways_open, ways_within}
use Rattle.route_app.proofs.table.fill.Goals as goal
use Rattle.route_app.proofs.table.fill.Goals.{then-is_stale, else-is_stale}

pub fill_row-requires-clause-ways : goal.fill_row-requires-clause-ways
fill_row-requires-clause-ways c =
    let size = length c.args.rows.now.rows in
    let is = c.loop-to.invariant.made in
    let wide : length c.item_mut.result.now ≡ size = row_wide size c.loop-to.rows.rows c.loop-to.to c.item_mut.result.now is.square c.item_mut.ensures.value in
    let all : All (AreWays size (length c.args.wires.now)) c.loop-to.rows.ways_in = ways_within size c.args.wires.now c.loop-to.rows.ways_in is.ways_in c.requires.within in
    subst (λ (ws : List (List WayIn)). All (AreWays (length c.item_mut.result.now) (length c.args.down.now)) ws) (sym c.as_slice-then-is_stale.ensures)
    (subst (λ (n : ℕ). All (AreWays n (length c.args.down.now)) c.loop-to.rows.ways_in) (sym wide)
    (subst (λ (n : ℕ). All (AreWays size n) c.loop-to.rows.ways_in) (sym c.requires.flags) all))

pub loop-to-preserved : goal.loop-to-preserved
loop-to-preserved c =
    let size = length c.args.rows.now.rows in
    let old = ways c.args.wires.now c.args.rows.now.down in
    let new = ways c.args.wires.now c.args.down.now in
    let rows = c.loop-to.rows.rows in
    let is = c.loop-to.invariant.made in
    let within : c.loop-to.to < length rows = let long = is.square.0 in omega (arith, c.loop-to-test.true, c.len-to-end.ensures) in
    elim c.if-is_stale.branch [
      | then-is_stale w ↦
          let wide : length w.item_mut.result.now ≡ size = row_wide size rows c.loop-to.to w.item_mut.result.now is.square w.item_mut.ensures.value in
          let inside : AreWithin (length c.loop-to.rows.ways_in) c.args.wires.now = subst (λ (n : ℕ). AreWithin n c.args.wires.now) (sym is.switches) c.requires.within in
          let stand : AreOpen new w.as_slice-then-is_stale.result.now c.args.down.now =
          subst (λ (ws : List (List WayIn)). AreOpen new ws c.args.down.now) (sym w.as_slice-then-is_stale.ensures) (ways_open c.args.wires.now c.args.down.now c.loop-to.rows.ways_in is.ways_in c.requires.flags inside) in
          record {
            made = subst (IsMade size c.args.wires.now) (sym w.rows-is)
                (row_put size c.args.wires.now c.loop-to.rows c.loop-to.to w.fill_row.new.row w.fill_row.new.queue is (w.fill_row.ensures.length ∙ wide) w.fill_row.ensures.room);
            flags = ap (λ (t : Rows). t.down) w.rows-is ∙ c.loop-to.invariant.flags;
            half = subst (λ (t : Rows). AreHalfRight old new (c.loop-to.to + 1) t.rows) (sym w.rows-is)
                (row_found old new c.loop-to.to rows w.fill_row.new.row within c.loop-to.invariant.half (w.fill_row.ensures.right new stand));
          }
      | else-is_stale w ↦
          let row = get_or rows c.loop-to.to [] in
          let row_is : c.index-deref-to.result ≡ row = c.index-deref-to.is ∙ ap (λ (xs : List (List (Option Reach))). get_or xs c.loop-to.to c.index-deref-to.result) c.deref.ensures ∙ get_or_default rows c.loop-to.to c.index-deref-to.result [] within in
          let flags_are : c.as_slice-in-loop-to.result.now ≡ c.args.rows.now.down = c.as_slice-in-loop-to.ensures ∙ c.loop-to.invariant.flags in
          let off : IsUntouched row c.args.wires.now c.args.rows.now.down c.args.down.now =
          subst (λ (r : List (Option Reach)). IsUntouched r c.args.wires.now c.args.rows.now.down c.args.down.now) row_is
          (subst (λ (flags : List (Bool × Bool)). IsUntouched c.index-deref-to.result c.args.wires.now flags c.args.down.now) flags_are (c.is_stale.ensures w.if-is_stale.false)) in
          let wide : length row ≡ size = is.square.1 c.loop-to.to [] within in
          let inside : AreWithin (length row) c.args.wires.now = subst (λ (n : ℕ). AreWithin n c.args.wires.now) (sym wide) c.requires.within in
          let still : IsRow new c.loop-to.to row = untouched_row row c.args.wires.now c.args.rows.now.down c.args.down.now c.loop-to.to c.requires.ready.flags c.requires.flags inside off
          (c.loop-to.invariant.half.left c.loop-to.to (omega arith) within) in
          record {
            made = subst (IsMade size c.args.wires.now) (sym w.rows-is) is;
            flags = ap (λ (t : Rows). t.down) w.rows-is ∙ c.loop-to.invariant.flags;
            half = subst (λ (t : Rows). AreHalfRight old new (c.loop-to.to + 1) t.rows) (sym w.rows-is) (row_done old new c.loop-to.to rows c.loop-to.invariant.half still);
          }
    ]
