-- It is right where no link can be used.
use Rattle.std.proofs.Common.{◌∙◌, ap, arith, length}
use Rattle.std.proofs.lemmas.List.{length-replicate}
use Rattle.route_app.proofs.Search.{homes_right}
use Rattle.route_app.proofs.table.empty_rows.Goals as goal

pub returns : goal.returns
returns c = record {
  made = record {
    square = c.in_ok-homes_of.ensures.square;
    switches = c.in_ok-ways_in_of.ensures.length;
    ways_in = c.in_ok-ways_in_of.ensures.ways;
    room = let long = c.in_ok-with_room.ensures in omega arith;
  };
  flags = ap length c.in_ok-none_usable.ensures ∙ length-replicate (length c.args.wires.now) _;
  right = homes_right c.args.size c.args.wires.now c.in_ok-homes_of.field-0 c.in_ok-none_usable.field-0 c.in_ok-homes_of.ensures.square.0 c.in_ok-homes_of.ensures.homes c.in_ok-none_usable.ensures;
}
