-- One field more; the header's number is in both intervals.
use Rattle.std.proofs.Common.{add-one, sym}
use Rattle.std.proofs.lemmas.Bool.{and_from, both_ways}
use Rattle.header_classes.proofs.Boxes.{inner_set}
use Rattle.header_classes.proofs.Cuts.{meet_more, meet_none}
use Rattle.header_classes.proofs.cell.Cell.narrow_to.Goals.{in-Some, in_default}
use Rattle.header_classes.proofs.cell.Cell.narrow_to.Goals as goal

pub loop-field-preserved : goal.loop-field-preserved
loop-field-preserved c = elim c.match-meet.branch [
  | in-Some w ↦ rw (w.self-is, add-one, w.set.ensures) record {
    both = λ h. meet_more c.args.self.now c.loop-field.self c.args.other.now h c.loop-field.field c.interval.result c.interval-in-loop-field.result w.in-Some.both
        c.interval.ensures.here c.interval-in-loop-field.ensures.here c.loop-field-test.true (c.loop-field.invariant.both h) w.in-Some.ensures.both;
    inner = inner_set c.args.self.now c.loop-field.self c.loop-field.field c.interval.result w.in-Some.both c.loop-field.invariant.inner c.interval.ensures.here w.in-Some.ensures.inner;
  }
  | in_default w ↦ absurd (both_ways _
      (meet_none c.args.self.now c.loop-field.self c.args.other.now c.args.header.now c.loop-field.field c.interval.result c.interval-in-loop-field.result
      c.interval.ensures.here c.interval-in-loop-field.ensures.here c.loop-field-test.true (c.loop-field.invariant.both c.args.header.now) (λ y. sym ((rw w.in_default.is at c.meet.ensures.both) y)))
      (and_from _ _ c.requires.inside c.requires.both))
]
