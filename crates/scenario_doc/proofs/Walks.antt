-- A walk along a list whose elements keep rules.
use Rattle.std.proofs.Common.{◌≡◌, ℕ, ◌+◌, ◌<◌, List, length, drop, get_or, Result, Ok, Err, refl}
use Rattle.std.specs.Prelude.{⊤}
use Rattle.std.specs.Fmt.{decimal}
use Rattle.std.proofs.lemmas.List.{drop_more}
use Rattle.doc_forms.specs.Reading.{Gives, Reading, under}
use Rattle.doc_forms.specs.declared.fail.DocFail.{DocFail}
use Rattle.doc_forms.specs.declared.fail.DocFail.TheVariants.{Refused, OutOfMemory}
use Rattle.scenario_doc.specs.Rules.{each_from}

-- a part whose rules were found to be kept keeps them
kept : (step : List ℕ) (found r : Result ⊤ DocFail) (reading : Reading ⊤) (u : ⊤) → Gives found reading → Gives r (under step found) → r ≡ Ok u
    → under step reading ≡ Ok tt
kept step (Ok a) (Ok b) reading u g h e = rw g refl
kept step (Ok a) (Err why) reading u g h e = absurd (cc)
kept step (Err (Refused number path)) (Ok b) reading u g h e = absurd (cc)
kept step (Err (Refused number path)) (Err why) reading u g h e = absurd (cc)
kept step (Err OutOfMemory) (Ok b) reading u g h e = absurd (cc)
kept step (Err OutOfMemory) (Err why) reading u g h e = absurd (cc)

next : {A : Type 0} (rules : ℕ → A → Reading ⊤) (xs : List A) (i : ℕ) (d : A) → i < length xs → under (decimal i) (rules i (get_or xs i d)) ≡ Ok tt
    → each_from i rules (drop i xs) ≡ each_from (i + 1) rules (drop (i + 1) xs)
next rules xs i d h e = rw (drop_more xs i d h, e) refl

-- the rest of the list decides once an element is found to keep its rules
pub walked : {A : Type 0} (rules : ℕ → A → Reading ⊤) (xs items : List A) (i : ℕ) (d : A) (found r : Result ⊤ DocFail) (u : ⊤) (whole : Reading ⊤)
    → items ≡ xs → i < length items → Gives found (rules i (get_or items i d)) → Gives r (under (decimal i) found) → r ≡ Ok u
    → each_from i rules (drop i xs) ≡ whole → each_from (i + 1) rules (drop (i + 1) xs) ≡ whole
walked rules xs items i d found r u whole e h g b o rest =
    let kept_here = kept (decimal i) found r (rules i (get_or items i d)) u g b o in
    let step : each_from i rules (drop i items) ≡ each_from (i + 1) rules (drop (i + 1) items) = next rules items i d h kept_here in
    cc
