-- The step of one place.
use Rattle.std.proofs.Common.{◌≡◌, ◌∙◌, length, ap}
use Rattle.listed.specs.Lists.{length_changed}
use Rattle.flow_table.specs.Entry.{counted}
use Rattle.switch_core.specs.declared.state.State.{State}
use Rattle.switch_core.proofs.Stays.{next_counted}
use Rattle.switch_core.proofs.state.State.count_at.Goals as goal

pub loop-place-preserved : goal.loop-place-preserved
loop-place-preserved c =
    let i = c.loop-place.invariant in
    let clock : c.loop-place.self.clock ≡ c.args.self.now.clock = ap (λ (s : State). s.clock) i.same in
    let put = rw clock at c.count_at.ensures in
    record {
      table = next_counted c.args.self.now.clock c.args.places.now c.loop-place.place-index _ c.loop-place.self.table c.count_at.new.self _
          c.loop-place-test.true put i.table;
      same = ap (λ (s : State). record s { table = c.count_at.new.self }) i.same;
      long = ap length put ∙ length_changed _ (counted c.args.self.now.clock) c.loop-place.self.table ∙ i.long;
    }
