-- What a DELETE takes out stood in the table; what a switch can be stays so.
use Rattle.std.proofs.Common.{length, ap, arith}
use Rattle.std.proofs.lemmas.List.Elements.{All-filter, All-same}
use Rattle.flow_table.specs.Command.{is_named}
use Rattle.flow_table.specs.Entry.{IsValidEntry}
use Rattle.flow_table.specs.Expiry.{IsPast}
use Rattle.switch_core.proofs.Stays.{all_kept, deletes, few_pass, kept_commanded, state_after}
use Rattle.switch_core.proofs.state.State.flow_mod.Goals as goal

pub tell_removals-requires-clause-entries : goal.tell_removals-requires-clause-entries
tell_removals-requires-clause-entries c = λ is.
    let s = c.args.self.now in
    let how = c.command_of-how.result in
    let mods = c.args.mods.now in
    All-same IsValidEntry c.in-Ok.effect.removed _ (deletes how s.table mods s.clock _ is c.in-Ok.ensures.ok).1
    (All-filter (is_named how mods) IsValidEntry s.table c.requires.state.table.valid)

pub tell_removals-requires-clause-past : goal.tell_removals-requires-clause-past
tell_removals-requires-clause-past c = λ is.
    let s = c.args.self.now in
    let how = c.command_of-how.result in
    let mods = c.args.mods.now in
    All-same (IsPast s.clock) c.in-Ok.effect.removed _ (deletes how s.table mods s.clock _ is c.in-Ok.ensures.ok).1
    (All-filter (is_named how mods) (IsPast s.clock) s.table c.requires.state.past)

pub tell_removals-requires-clause-room : goal.tell_removals-requires-clause-room
tell_removals-requires-clause-room c = λ is.
    let s = c.args.self.now in
    let how = c.command_of-how.result in
    let mods = c.args.mods.now in
    let some = ap length (deletes how s.table mods s.clock _ is c.in-Ok.ensures.ok).1 in
    let few = few_pass (is_named how mods) s.table in
    let room = c.in_ok-sending.ensures.room is in
    omega arith

pub returns-in-Ok-clause-state : goal.returns-in-Ok-clause-state
returns-in-Ok-clause-state c =
    let s = c.args.self.now in
    let kept = kept_commanded c.command_of-how.result s.table c.args.mods.now s.clock _ c.in-Ok.ensures.ok c.requires.small (all_kept s c.requires.state) in
    state_after s c.finish.new.self c.command.new.self s.clock c.tell_removals.new.sending.sent.next_xid c.requires.state c.finish.ensures.state
    c.finish.ensures.table kept c.requires.state.clock c.finish.ensures.next_xid
