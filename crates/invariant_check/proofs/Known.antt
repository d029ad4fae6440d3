-- Whether a stop is one of several, and a class that is narrowed on the way.
use Rattle.std.proofs.Common.{◌≡◌, ◌∙◌, ◌+◌, ◌<◌, ◌++◌, ℕ, zero, suc, IsTrue, List, [], ◌∷◌, None, Result, Ok, Err, IfOk, get_or, length, map, take, inl, inr, refl, sym, ap, subst, arith}
use Rattle.std.specs.List.{AllZip}
use Rattle.std.proofs.lemmas.List.{map_more}
use Rattle.of10_match.specs.declared.header.Header.{Header}
use Rattle.header_classes.specs.Cell.{in_cell}
use Rattle.header_classes.specs.Interval.{IsInner}
use Rattle.header_classes.specs.declared.interval.Interval.{Interval}
use Rattle.invariant_check.specs.Class.{IsNarrowed}
use Rattle.invariant_check.specs.Search.{In}
use Rattle.invariant_check.specs.declared.class.Class.{Class}
use Rattle.invariant_check.specs.declared.stop.Stop.{Stop}
use Rattle.invariant_check.specs.declared.walk.Node.{Node}
use Rattle.invariant_check.proofs.Depth.{in_either}

-- what a list of stops is read with past its end
abbrev pub no_stop : Stop
no_stop = record {
  s = 0;
  p = 0;
  sets = record {
    dl_src = None;
    dl_dst = None;
    dl_vlan = None;
    dl_vlan_pcp = None;
    dl_type = None;
    nw_tos = None;
    nw_proto = None;
    nw_src = None;
    nw_dst = None;
    tp_src = None;
    tp_dst = None;
  };
}

-- what holds of the value of an `Ok` whenever there is one
pub when_ok : {T E : Type 0} (r : Result T E) (P : T → Type 0) → ((x : T) → r ≡ Ok x → P x) → IfOk r P
when_ok (Ok x) P f = f x refl
when_ok (Err e) P f = tt

-- narrower and narrower
pub narrowed_then : (one two three : Class) → ((outer inner innermost : List Interval) → AllZip IsInner outer inner → AllZip IsInner inner innermost → AllZip IsInner outer innermost)
    → IsNarrowed one two → IsNarrowed two three → IsNarrowed one three
narrowed_then one two three chain a b = record { header = b.header ∙ a.header; inner = chain one.cell two.cell three.cell a.inner b.inner }

-- the image of one element more is added
pub image_pushed : {A B : Type 0} (f : A → B) (xs : List A) (i : ℕ) (x : A) (so_far after : List B) (y : B) → i < length xs → x ≡ get_or xs i x → so_far ≡ map f (take i xs)
    → after ≡ so_far ++ y ∷ [] → y ≡ f x → after ≡ map f (take (i + 1) xs)
image_pushed f xs i x so_far after y within is before put same =
    put ∙ ap (λ (zs : List _). zs ++ y ∷ []) before ∙ ap (λ (z : _). map f (take i xs) ++ z ∷ []) (same ∙ ap f is) ∙ sym (map_more f xs i x within)

-- an element's image is one of the images
pub in_images : {A B : Type 0} (f : A → B) (xs : List A) (i : ℕ) (x : A) → i < length xs → x ≡ get_or xs i x → In (f x) (map f xs)
in_images f [] i x within is = absurd (omega (arith, within))
in_images f (y ∷ ys) zero x within is = inl (ap f is)
in_images f (y ∷ ys) (suc i) x within is = inr (in_images f ys i x (omega (arith, within)) is)

-- not one of the elements so far, and not the next one
pub none_more : {A : Type 0} (outer inner : List Interval) (node : Header → Node) (at : Header → A → Node) (xs : List A) (i : ℕ) (x : A)
    → ((h : Header) → IsTrue (in_cell inner h) → IsTrue (in_cell outer h)) → i < length xs → x ≡ get_or xs i x
    → ((h : Header) → IsTrue (in_cell outer h) → In (node h) (map (at h) (take i xs)) → ⊥)
    → ((h : Header) → IsTrue (in_cell inner h) → node h ≡ at h x → ⊥)
    → (h : Header) → IsTrue (in_cell inner h) → In (node h) (map (at h) (take (i + 1) xs)) → ⊥
none_more outer inner node at xs i x part within is none other h inside found =
    elim (in_either (node h) (map (at h) (take i xs)) (at h (get_or xs i x) ∷ []) (subst (In (node h)) (map_more (at h) xs i x within) found)) [
      | inl before ↦ none h (part h inside) before
      | inr (inl e) ↦ other h inside (e ∙ ap (at h) (sym is))
      | inr (inr n) ↦ n
    ]
