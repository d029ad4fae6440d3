use Rattle.std.proofs.Common.{◌≡◌, ◌∙◌, count_by, filter, length, not, ap, sym, rules, arith}
use Rattle.flow_table.specs.Going.{goes}
use Rattle.flow_table.specs.declared.entry.Entry.{Entry}
use Rattle.flow_table.proofs.Changes.{all_fail, none_pass, some_fail}
use Rattle.flow_table.proofs.change.take_out.Goals as goal

pub returns-then-count-eq0-clause-removed : goal.returns-then-count-eq0-clause-removed
returns-then-count-eq0-clause-removed c = c.new.ensures.items ∙ sym (none_pass (goes c.args.going.now) c.args.entries.now.items cc)

pub returns-then-count-eq0-clause-kept : goal.returns-then-count-eq0-clause-kept
returns-then-count-eq0-clause-kept c = sym (all_fail (goes c.args.going.now) c.args.entries.now.items cc)

pub returns-clause-room : goal.returns-clause-room
returns-clause-room c =
    let going = c.args.going.now in
    let entries = c.args.entries.now.items in
    let count : c.count_going-count.result ≡ count_by (goes going) entries = cc in
    let fewer = some_fail (goes going) entries (omega arith) in
    let kept : c.part.new.kept.items ≡ filter (λ (entry : Entry). not (goes going entry)) entries = search rules in
    let long = ap length kept in
    let room = rw c.swap.ensures.x_after at c.part.ensures.room in
    let held = c.part.new.kept.ok.0 in
    let had = c.args.entries.now.ok.0 in
    λ _. omega (arith, c.in_ok-kept.ensures.exact)
