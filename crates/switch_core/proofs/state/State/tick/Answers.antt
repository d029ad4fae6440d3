-- The entries that ran out are valid, past, and no more than the room; what a switch can be stays so.
use Rattle.std.proofs.Common.{◌≡◌, ◌∙◌, ◌+◌, ◌≤◌, ℕ, length, ap, arith}
use Rattle.std.proofs.lemmas.List.Elements.{All-same, All-weaker}
use Rattle.flow_table.specs.Entry.{IsValidEntry}
use Rattle.flow_table.specs.Expiry.{gone, staying}
use Rattle.flow_table.specs.declared.entry.Entry.{Entry}
use Rattle.switch_core.proofs.Stays.{IsKept, all_gone, all_kept, few_gone, kept_later, state_after}
use Rattle.switch_core.proofs.state.State.tick.Goals as goal

pub tell_gone-requires-clause-entries : goal.tell_gone-requires-clause-entries
tell_gone-requires-clause-entries c =
    let s = c.args.self.now in
    let now = s.clock + c.args.seconds in
    All-same (λ (late : Entry × ℕ). IsValidEntry late.0) c.in_ok-gone.gone (gone now s.table) c.in_ok-gone.ensures.ok
    (all_gone IsValidEntry now s.table c.requires.state.table.valid)

pub tell_gone-requires-clause-past : goal.tell_gone-requires-clause-past
tell_gone-requires-clause-past c =
    let s = c.args.self.now in
    let now = s.clock + c.args.seconds in
    let added : Entry → Type 0 = λ (entry : Entry). entry.added ≤ now in
    All-same (λ (late : Entry × ℕ). late.0.added ≤ now) c.in_ok-gone.gone (gone now s.table) c.in_ok-gone.ensures.ok
    (all_gone added now s.table (All-weaker (IsKept s.clock) added (λ entry kept. let past = kept.past.added in omega arith) s.table (all_kept s c.requires.state)))

pub tell_gone-requires-clause-room : goal.tell_gone-requires-clause-room
tell_gone-requires-clause-room c =
    let s = c.args.self.now in
    let now = s.clock + c.args.seconds in
    let some = ap length c.in_ok-gone.ensures.ok in
    let few = few_gone now s.table in
    let all = ap length c.entries.ensures.entries in
    omega (arith, c.in_ok-reserve.ensures.room)

pub returns-clause-state : goal.returns-clause-state
returns-clause-state c =
    let s = c.args.self.now in
    let now = s.clock + c.args.seconds in
    let xid = c.tell_gone.new.sending.sent.next_xid in
    let rest : c.expire.new.self ≡ staying now s.table = c.in_ok-gone.ensures.rest in
    state_after s c.finish.new.self (staying now s.table) now xid c.requires.state
    (c.finish.ensures.state ∙ ap (λ table. record s { table = table; clock = now; next_xid = xid }) rest)
    c.finish.ensures.table (kept_later _ s.clock now s.table (omega arith) (all_kept s c.requires.state)) c.requires.room c.finish.ensures.next_xid
