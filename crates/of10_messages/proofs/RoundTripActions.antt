-- What is written of actions is read back.
use Rattle.std.proofs.Common.{◌≡◌, ◌+◌, ◌<◌, ◌≤◌, ◌%◌, ◌^◌, ◌==◌, ◌&&◌, ◌∙◌, ℕ, false, not, List, [], ◌∷◌, ◌++◌, length, take, drop, map, None, nat_le, refl, sym, ap, arith, inl, inr, length-append}
use Rattle.std.specs.Prelude.{All}
use Rattle.std.proofs.lemmas.Bool.{and_left, and_right, cases_lt, eq-eqb, le-ltb, lt-leb, not_from_true, or_from}
use Rattle.std.proofs.lemmas.List.Elements.{All-head, All-tail}
use Rattle.std.proofs.Math.Seq.{drop-append_seam, take-append_seam}
use Rattle.byteorder.specs.Endian.{big_from}
use Rattle.byteorder.specs.Numbers.{big_number-reads_back}
use Rattle.of10_messages.proofs.Actions.{first_start, good_action}
use Rattle.of10_messages.proofs.ReadParts.{other_kind}
use Rattle.of10_messages.specs.Reading.{action_of, action_of_kind, actions_of}
use Rattle.of10_messages.specs.Refusal.{IsGoodAction, action_starts, first_bad, fixed_length, is_bad_action, told_length}
use Rattle.of10_messages.specs.Valid.{IsOtherAction, IsValidAction}
use Rattle.of10_messages.specs.Wire.{action_bytes, actions_bytes}
use Rattle.of10_messages.specs.declared.action.Action.{Action}
use Rattle.of10_messages.specs.declared.action.Action.TheVariants as action

-- what holds of bytes that begin with an action
pub record ReadsAction (a : Action) (bytes : List ℕ) : Type 0 where
  pub told : told_length bytes ≡ length (action_bytes a)
  pub good : is_bad_action bytes ≡ false
  pub read : action_of bytes ≡ a

-- an action is not bad by its parts
pub not_bad : (bytes : List ℕ) → IsGoodAction bytes → is_bad_action bytes ≡ false
unfolding is_bad_action
not_bad bytes good =
    let told = told_length bytes in
    let kind = big_from 0 2 bytes in
    let last : (nat_le kind 11 && not (told == fixed_length kind)) ≡ false = elim (cases_lt 11 kind) [
      | inl above ↦ and_left (nat_le kind 11) (not (told == fixed_length kind)) (lt-leb kind 11 above)
      | inr known ↦ and_right (nat_le kind 11) (not (told == fixed_length kind)) (not_from_true _ (eq-eqb told (fixed_length kind) (good.fixed known)))
    ] in
    or_from _ _ (le-ltb (length bytes) 8 (omega (arith, good.least, good.room)))
    (or_from _ _ (le-ltb told 8 good.least)
    (or_from _ _ (not_from_true _ (eq-eqb (told % 8) 0 good.padded))
    (or_from _ _ (le-ltb (length bytes) told good.room) last)))

-- an action of another type is read back
other_reads : (kind : ℕ) (body rest : List ℕ) → IsOtherAction kind body → length (action_bytes (action.Other kind body)) < 2 ^ 16
    → ReadsAction (action.Other kind body) (action_bytes (action.Other kind body) ++ rest)
unfolding action_bytes action_of
other_reads kind body rest v fits =
    let bytes = action_bytes (action.Other kind body) ++ rest in
    let kind_is : big_from 0 2 bytes ≡ kind = big_number-reads_back 2 kind (drop 2 bytes) v.fits in
    let told_is : told_length bytes ≡ 4 + length body = big_number-reads_back 2 (4 + length body) (body ++ rest) (omega arith) in
    let size : 4 + length body ≡ length (action_bytes (action.Other kind body)) = omega arith in
    let whole : take (told_length bytes) bytes ≡ action_bytes (action.Other kind body) = ap (λ (n : ℕ). take n bytes) (told_is ∙ size) ∙ take-append_seam (action_bytes (action.Other kind body)) rest in
    let content : drop 4 (take (told_length bytes) bytes) ≡ body = ap (drop 4) whole in
    let good : IsGoodAction bytes = record {
      least = omega (arith, told_is, v.padded);
      room = omega (arith, told_is, length-append body rest);
      padded = omega (arith, told_is, v.padded);
      fixed = λ known. let is : kind ≡ 11 = omega (arith, v.other, kind_is) in told_is ∙ ap (λ (n : ℕ). 4 + n) (v.enqueue is) ∙ sym (ap fixed_length (kind_is ∙ is));
    } in
    record {
      told = told_is ∙ size;
      good = not_bad bytes good;
      read = ap (λ (k : ℕ). action_of_kind k bytes) kind_is ∙ other_kind kind bytes v.other ∙ ap (action.Other kind) content;
    }

-- an action is read back before any other bytes
pub action_reads : (a : Action) (rest : List ℕ) → IsValidAction a → length (action_bytes a) < 2 ^ 16 → ReadsAction a (action_bytes a ++ rest)
unfolding action_bytes action_of
action_reads (action.Output port max_len) rest v fits = record {
  told = refl;
  good = not_bad (action_bytes (action.Output port max_len) ++ rest) (record { least = omega arith; room = omega arith; padded = refl; fixed = λ known. refl });
  read = let e = big_number-reads_back 2 port [] v.0 in let f = big_number-reads_back 2 max_len [] v.1 in rw (e, f) refl;
}
action_reads (action.SetVlanVid vlan) rest v fits = record {
  told = refl;
  good = not_bad (action_bytes (action.SetVlanVid vlan) ++ rest) (record { least = omega arith; room = omega arith; padded = refl; fixed = λ known. refl });
  read = ap action.SetVlanVid (big_number-reads_back 2 vlan [] v);
}
action_reads (action.SetVlanPcp pcp) rest v fits = record {
  told = refl;
  good = not_bad (action_bytes (action.SetVlanPcp pcp) ++ rest) (record { least = omega arith; room = omega arith; padded = refl; fixed = λ known. refl });
  read = refl;
}
action_reads action.StripVlan rest v fits = record {
  told = refl;
  good = not_bad (action_bytes action.StripVlan ++ rest) (record { least = omega arith; room = omega arith; padded = refl; fixed = λ known. refl });
  read = refl;
}
action_reads (action.SetDlSrc address) rest v fits = record {
  told = refl;
  good = not_bad (action_bytes (action.SetDlSrc address) ++ rest) (record { least = omega arith; room = omega arith; padded = refl; fixed = λ known. refl });
  read = ap action.SetDlSrc (big_number-reads_back 6 address [] v);
}
action_reads (action.SetDlDst address) rest v fits = record {
  told = refl;
  good = not_bad (action_bytes (action.SetDlDst address) ++ rest) (record { least = omega arith; room = omega arith; padded = refl; fixed = λ known. refl });
  read = ap action.SetDlDst (big_number-reads_back 6 address [] v);
}
action_reads (action.SetNwSrc address) rest v fits = record {
  told = refl;
  good = not_bad (action_bytes (action.SetNwSrc address) ++ rest) (record { least = omega arith; room = omega arith; padded = refl; fixed = λ known. refl });
  read = ap action.SetNwSrc (big_number-reads_back 4 address [] v);
}
action_reads (action.SetNwDst address) rest v fits = record {
  told = refl;
  good = not_bad (action_bytes (action.SetNwDst address) ++ rest) (record { least = omega arith; room = omega arith; padded = refl; fixed = λ known. refl });
  read = ap action.SetNwDst (big_number-reads_back 4 address [] v);
}
action_reads (action.SetNwTos tos) rest v fits = record {
  told = refl;
  good = not_bad (action_bytes (action.SetNwTos tos) ++ rest) (record { least = omega arith; room = omega arith; padded = refl; fixed = λ known. refl });
  read = refl;
}
action_reads (action.SetTpSrc port) rest v fits = record {
  told = refl;
  good = not_bad (action_bytes (action.SetTpSrc port) ++ rest) (record { least = omega arith; room = omega arith; padded = refl; fixed = λ known. refl });
  read = ap action.SetTpSrc (big_number-reads_back 2 port [] v);
}
action_reads (action.SetTpDst port) rest v fits = record {
  told = refl;
  good = not_bad (action_bytes (action.SetTpDst port) ++ rest) (record { least = omega arith; room = omega arith; padded = refl; fixed = λ known. refl });
  read = ap action.SetTpDst (big_number-reads_back 2 port [] v);
}
action_reads (action.Other kind body) rest v fits = other_reads kind body rest v fits

-- what holds of the bytes of actions
pub record ReadsActions (actions : List Action) (bytes : List ℕ) : Type 0 where
  pub good : first_bad bytes ≡ None
  pub read : actions_of bytes ≡ actions

-- actions are read back, and none is bad
pub actions_read : (actions : List Action) → All IsValidAction actions → length (actions_bytes actions) < 2 ^ 16 → ReadsActions actions (actions_bytes actions)
unfolding action_starts
actions_read [] v fits = record { good = refl; read = refl }
actions_read (a ∷ actions) v fits =
    let rest = actions_bytes actions in
    let bytes = action_bytes a ++ rest in
    let sizes = length-append (action_bytes a) rest in
    let one = action_reads a rest (All-head IsValidAction a actions v) (omega (arith, sizes, fits)) in
    let others = actions_read actions (All-tail IsValidAction a actions v) (omega (arith, sizes, fits)) in
    let some : 8 ≤ told_length bytes = (good_action bytes one.good).least in
    let room : told_length bytes ≤ length bytes = (good_action bytes one.good).room in
    let moved : drop (told_length bytes) bytes ≡ rest = ap (λ (n : ℕ). drop n bytes) one.told ∙ drop-append_seam (action_bytes a) rest in
    let starts : action_starts 0 bytes ≡ bytes ∷ action_starts 0 rest = first_start bytes (omega arith) (omega arith) ∙ ap (λ (xs : List ℕ). bytes ∷ action_starts 0 xs) moved in
    record {
      good = rw (starts, one.good) others.good;
      read = ap (map action_of) starts ∙ rw (one.read, others.read) refl;
    }
