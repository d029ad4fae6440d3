-- What work with partners comes to.
use Rattle.std.specs.Prelude.{◌≡◌, List, [], ◌∷◌, ⊤}
use denote.Ref.{MutBor}
use denote.Param.Members.{Shared}

module _ {F W P : Type 0} (g : Shared F (MutBor W × (MutBor P × Unit {0})) (Unit {0} × (MutBor W × (MutBor P × Unit {0})))) (f : F) where
  -- f may be called with this one, whatever its partner is
  pub record CanWork (one : W) : Type 0 where
    pub calls : (work : MutBor W) (partner : MutBor P) → work.now ≡ one → g.pre f (work, (partner, tt))

  -- a call of f with this one and its partner may leave that, and that partner
  pub record IsCall (old new : W) (before now : P) : Type 0 where
    pub work : MutBor W
    pub partner : MutBor P
    pub work_is : work.now ≡ old
    pub partner_is : partner.now ≡ before
    pub work_after : MutBor W
    pub partner_after : MutBor P
    pub call : g.post f (work, (partner, tt)) (tt, (work_after, (partner_after, tt)))
    pub work_left : work_after.now ≡ new
    pub partner_left : partner_after.now ≡ now

  -- f was called with this one and its partner
  unfoldable pub HasWorked : W → W → P → P → Type 0
  HasWorked old new before now = IsCall old new before now

-- each was at work once, with its own partner
abbrev pub HaveWorked : {W P : Type 0} → (W → W → P → P → Type 0) → List W → List W → List P → List P → Type 0
HaveWorked worked [] [] [] [] = ⊤
HaveWorked worked (old ∷ olds) (new ∷ news) (partner ∷ partners) (later ∷ laters) = worked old new partner later × HaveWorked worked olds news partners laters
HaveWorked worked olds news partners laters = ⊥
