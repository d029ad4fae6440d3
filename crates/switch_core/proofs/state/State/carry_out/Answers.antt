-- What a switch can be stays so.
use Rattle.std.proofs.Common.{ap}
use Rattle.switch_core.specs.Step.{counted_at}
use Rattle.switch_core.specs.declared.state.State.{State}
use Rattle.switch_core.proofs.Stays.{all_kept, kept_several, state_after}
use Rattle.switch_core.proofs.state.State.carry_out.Goals as goal

pub returns-clause-state : goal.returns-clause-state
returns-clause-state c =
    let s = c.args.self.now in
    let places = c.as_slice.result.now in
    let xid = c.args.counts.next_xid in
    state_after s _ (counted_at s.clock s.table places) s.clock xid c.requires.state
    (ap (λ (mid : State). record mid { next_xid = xid }) c.count_at.ensures) c.entries.ensures.table
    (kept_several s.clock s.table places (all_kept s c.requires.state)) c.requires.state.clock c.requires.fits.next_xid
