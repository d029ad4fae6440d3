-- One more link gets its numbers.
use Rattle.std.proofs.Common.{◌<◌, length, subst, sym}
use Rattle.std.proofs.lemmas.List.Elements.{All-push}
use Rattle.route_app.specs.Table.{AreWithin}
use Rattle.route_app.proofs.Numbered.{Link, named_more}
use Rattle.route_app.proofs.numbers.wires_of.Goals as goal

pub wire_of-requires-clause-first : goal.wire_of-requires-clause-first
wire_of-requires-clause-first c = (c.requires.ends c.loop-link.link-index (0, 0, 0, 0) c.loop-link-test.true).0

pub wire_of-requires-clause-second : goal.wire_of-requires-clause-second
wire_of-requires-clause-second c = (c.requires.ends c.loop-link.link-index (0, 0, 0, 0) c.loop-link-test.true).1

pub loop-link-preserved : goal.loop-link-preserved
loop-link-preserved c =
    let size = length c.args.switches.now in
    record {
      within = subst (AreWithin size) (sym c.in_ok-push.ensures.ok) (All-push (λ (link : Link). (link.0 < size) × (link.2 < size)) c.loop-link.wires c.wire_of.result c.loop-link.invariant.within c.wire_of.ensures.within);
      same = named_more c.args.switches.now c.args.links.now c.loop-link.wires c.push.new.self c.wire_of.result c.loop-link.link-index c.loop-link-test.true c.in_ok-push.ensures.ok c.loop-link.invariant.same c.wire_of.ensures.same;
    }
