use Rattle.std.proofs.Common.{◌≡◌, ◌∙◌, ◌++◌, true, false, count_by, map, take, drop, length, ap, sym, refl, arith}
use Rattle.std.specs.List.{list_any}
use Rattle.std.proofs.lemmas.Bool.{eqb-false, eqb-true, le-ltb, lt-ltb}
use Rattle.std.proofs.lemmas.List.{length-map}
use Rattle.flow_table.specs.Command.{is_named}
use Rattle.flow_table.specs.Command.{with_actions}
use Rattle.flow_table.proofs.Changes.{any_counted, table_given, whole_changed}
use Rattle.flow_table.proofs.change.modify.Goals as goal

-- where there is no copy, no entry is named
none : (c : goal.After-drop-copies) → list_any (is_named c.args.how c.args.mods.now) c.args.entries.now.items ≡ false
none c =
    let named = is_named c.args.how c.args.mods.now in
    let entries = c.args.entries.now.items in
    let empty = eqb-true _ 0 (sym c.if-is_empty.ensures) in
    let count : count_by named entries ≡ 0 = cc (c.in_ok-copies.ensures.count) in
    any_counted named entries ∙ le-ltb 0 (count_by named entries) (omega arith)

-- there is a copy for each entry that is named
count : (c : goal.After-new) → c.len-changed.result ≡ count_by (is_named c.args.how c.args.mods.now) c.args.entries.now.items
count c = cc (c.in_ok-copies.ensures.count)

-- where there are copies, some entry is named
some : (c : goal.After-new) → list_any (is_named c.args.how c.args.mods.now) c.args.entries.now.items ≡ true
some c =
    let named = is_named c.args.how c.args.mods.now in
    let entries = c.args.entries.now.items in
    let other = eqb-false _ 0 (sym c.if-is_empty.ensures) in
    let copies = count c in
    any_counted named entries ∙ lt-ltb 0 (count_by named entries) (omega arith)

-- the entries once the copies are put in
changed : (c : goal.After-new) → take c.args.entries.now.len (c.put_actions.new.entries ++ drop (length c.put_actions.new.entries) c.args.entries.now.items)
    ≡ map (with_actions c.args.how c.args.mods.now) c.args.entries.now.items
changed c =
    let entries = c.args.entries.now.items in
    let put : c.put_actions.new.entries ≡ map (with_actions c.args.how c.args.mods.now) entries = c.put_actions.ensures ∙ ap (map (with_actions c.args.how c.args.mods.now)) c.as_mut_slice.ensures.value in
    whole_changed entries c.put_actions.new.entries c.args.entries.now.len c.args.entries.now.ok.0 (rw length-map at (ap length put)) ∙ put

pub returns-then-is_empty-clause-ok : goal.returns-then-is_empty-clause-ok
returns-then-is_empty-clause-ok c = rw (none c) c.add.ensures.ok

pub returns-then-is_empty-clause-refused : goal.returns-then-is_empty-clause-refused
returns-then-is_empty-clause-refused c = rw (none c) c.add.ensures.refused

pub returns-clause-ok : goal.returns-clause-ok
returns-clause-ok c = rw (some c, changed c, count c, c.new.ensures) refl

pub returns-clause-table : goal.returns-clause-table
returns-clause-table c = rw (changed c) (table_given c.args.how c.args.mods.now c.args.entries.now.items c.requires.mods c.requires.table)
