-- What work that was done with partners tells of each.
use Rattle.std.proofs.Common.{◌≡◌, ℕ, zero, suc, List, [], ◌∷◌, length, slice_get, Some, refl, ap, subst}
use Rattle.std.proofs.lemmas.Option.{same_Some}
use denote.Ref.{MutBor}
use denote.Param.Members.{Shared}
use Rattle.paired_work.specs.Worked.{HasWorked, HaveWorked, IsCall}

module _ {F W P : Type 0} (g : Shared F (MutBor W × (MutBor P × Unit {0})) (Unit {0} × (MutBor W × (MutBor P × Unit {0})))) (f : F) where
  -- one that was at work was called with
  pub call_of : (old new : W) (before now : P) → HasWorked g f old new before now → IsCall g f old new before now
  unfolding HasWorked
  call_of old new before now did = did

module _ {W P : Type 0} (worked : W → W → P → P → Type 0) where
  -- what holds of each that was at work holds of all
  pub have_weaker : (less : W → W → P → P → Type 0) → ((old new : W) (before now : P) → worked old new before now → less old new before now)
      → (olds news : List W) (partners laters : List P) → HaveWorked worked olds news partners laters → HaveWorked less olds news partners laters
  have_weaker less each [] [] [] [] all = all
  have_weaker less each (old ∷ olds) (new ∷ news) (partner ∷ partners) (later ∷ laters) all =
      (each old new partner later all.0, have_weaker less each olds news partners laters all.1)
  have_weaker less each olds news partners laters all = absurd all

  -- what one did with its partner
  pub record WorkedAt (olds : List W) (partners laters : List P) (i : ℕ) (new : W) : Type 0 where
    pub old : W
    pub partner : P
    pub later : P
    pub was : slice_get olds i ≡ Some old
    pub met : slice_get partners i ≡ Some partner
    pub left : slice_get laters i ≡ Some later
    pub did : worked old new partner later

  pub worked_at : (olds news : List W) (partners laters : List P) → HaveWorked worked olds news partners laters
      → (i : ℕ) (new : W) → slice_get news i ≡ Some new → WorkedAt olds partners laters i new
  worked_at [] [] [] [] all i new there = absurd (cc)
  worked_at (old ∷ olds) (n ∷ news) (partner ∷ partners) (later ∷ laters) all zero new there = record {
    old = old;
    partner = partner;
    later = later;
    was = refl;
    met = refl;
    left = refl;
    did = subst (λ w. worked old w partner later) (same_Some n new there) all.0;
  }
  worked_at (old ∷ olds) (n ∷ news) (partner ∷ partners) (later ∷ laters) all (suc i) new there =
      let rest = worked_at olds news partners laters all.1 i new there in
      record { old = rest.old; partner = rest.partner; later = rest.later; was = rest.was; met = rest.met; left = rest.left; did = rest.did }
  worked_at olds news partners laters all i new there = absurd all

  -- there are as many after the work as before it
  pub worked_lengths : (olds news : List W) (partners laters : List P) → HaveWorked worked olds news partners laters
      → (length news ≡ length olds) × (length laters ≡ length partners) × (length partners ≡ length olds)
  worked_lengths [] [] [] [] all = (refl, refl, refl)
  worked_lengths (old ∷ olds) (n ∷ news) (partner ∷ partners) (later ∷ laters) all =
      let rest = worked_lengths olds news partners laters all.1 in
      (ap (λ k. suc k) rest.0, ap (λ k. suc k) rest.1, ap (λ k. suc k) rest.2)
  worked_lengths olds news partners laters all = absurd all
