use Rattle.std.proofs.Common.{◌≡◌, ◌∷◌, [], ◌++◌, length, true, false, not, ap, arith}
use Rattle.std.proofs.lemmas.List.Elements.{All-rest}
use Rattle.flow_table.specs.Entry.{IsValidEntry}
use Rattle.flow_table.specs.Going.{goes}
use Rattle.flow_table.specs.declared.entry.Entry.{Entry}
use Rattle.flow_table.proofs.Changes.{counted_one, left_one, moved_one, uncounted_one}
use Rattle.flow_table.proofs.change.part.Goals as goal

pub loop-entry-preserved-then-takes_out : goal.loop-entry-preserved-then-takes_out
loop-entry-preserved-then-takes_out c =
    let i = c.loop-entry.invariant in
    let going = c.args.going.now in
    let x = c.in-Some.entry in
    let next = c.in-Some.ensures.steps in
    let yes : goes going x ≡ true = cc in
    let no : not (goes going x) ≡ false = ap not yes in
    let pushed : c.push.new.self.items ≡ c.loop-entry.removed.items ++ x ∷ [] = rw c.unwrap.ensures at c.push.ensures.items in
    let count = counted_one (goes going) _ _ x next.0 yes in
    record {
      length = let long = ap length next.0 in omega arith;
      valid = All-rest IsValidEntry x _ _ next.0 i.valid;
      kept = left_one (λ (entry : Entry). not (goes going entry)) _ _ _ _ x i.kept next.0 no;
      removed = moved_one (goes going) _ _ _ _ _ x i.removed next.0 yes pushed;
      kept_room = omega arith;
      removed_room = omega arith;
      room = i.room;
    }

pub loop-entry-preserved : goal.loop-entry-preserved
loop-entry-preserved c =
    let i = c.loop-entry.invariant in
    let going = c.args.going.now in
    let x = c.in-Some.entry in
    let next = c.in-Some.ensures.steps in
    let no : goes going x ≡ false = cc in
    let yes : not (goes going x) ≡ true = ap not no in
    let pushed : c.push-else-takes_out.new.self.items ≡ c.loop-entry.kept.items ++ x ∷ [] = rw c.unwrap-else-takes_out.ensures at c.push-else-takes_out.ensures.items in
    let count = uncounted_one (goes going) _ _ x next.0 no in
    record {
      length = let long = ap length next.0 in omega arith;
      valid = All-rest IsValidEntry x _ _ next.0 i.valid;
      kept = moved_one (λ (entry : Entry). not (goes going entry)) _ _ _ _ _ x i.kept next.0 yes pushed;
      removed = left_one (goes going) _ _ _ _ x i.removed next.0 no;
      kept_room = omega arith;
      removed_room = omega arith;
      room = omega arith;
    }
