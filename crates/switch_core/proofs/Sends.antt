-- What is left to be told as the walks over entries that went go on.
use Rattle.std.proofs.Common.{◌≡◌, ◌∙◌, Bool, true, false, List, ◌∷◌, map, filter, refl, sym, ap}
use Rattle.switch_core.specs.Leaving.{Sent, leave, leave_all}
use Rattle.switch_core.specs.declared.leaving.Leaving.{Leaving}

-- the first of those that are left passes, and was told of
pub next_told : {A : Type 0} (p : A → Bool) (f : A → Leaving) (sent after all : Sent) (left more : List A) (x : A) → left ≡ x ∷ more → p x ≡ true
    → after ≡ leave sent (f x) → leave_all sent (map f (filter p left)) ≡ all → leave_all after (map f (filter p more)) ≡ all
next_told {A = A} p f sent after all left more x is passes told before =
    let first : filter p (x ∷ more) ≡ x ∷ filter p more = rw passes refl in
    ap (λ (s : Sent). leave_all s (map f (filter p more))) told
    ∙ sym (ap (λ (ys : List A). leave_all sent (map f ys)) (ap (filter p) is ∙ first)) ∙ before

-- it doesn't, and was not
pub next_untold : {A : Type 0} (p : A → Bool) (f : A → Leaving) (sent all : Sent) (left more : List A) (x : A) → left ≡ x ∷ more → p x ≡ false
    → leave_all sent (map f (filter p left)) ≡ all → leave_all sent (map f (filter p more)) ≡ all
next_untold {A = A} p f sent all left more x is fails before =
    let first : filter p (x ∷ more) ≡ filter p more = rw fails refl in
    sym (ap (λ (ys : List A). leave_all sent (map f ys)) (ap (filter p) is ∙ first)) ∙ before
