-- What calls with partners tell, where each call tells something.
use Rattle.std.proofs.Common.{List, subst}
use denote.Ref.{MutBor}
use denote.Param.Members.{Shared}
use Rattle.paired_work.specs.Worked.{HasWorked, HaveWorked}
use Rattle.paired_work.proofs.Works.{call_of, have_weaker}

module _ {F W P : Type 0} (g : Shared F (MutBor W × (MutBor P × Unit {0})) (Unit {0} × (MutBor W × (MutBor P × Unit {0})))) (f : F) (less : W → W → P → P → Type 0)
    (tells : (work : MutBor W) (partner : MutBor P) (work_after : MutBor W) (partner_after : MutBor P) → g.post f (work, (partner, tt)) (tt, (work_after, (partner_after, tt)))
    → less work.now work_after.now partner.now partner_after.now) where
  told : (old new : W) (before now : P) → HasWorked g f old new before now → less old new before now
  told old new before now did =
      let call = call_of g f old new before now did in
      subst (λ (one : W). less one new before now) call.work_is
      (subst (λ (one : W). less call.work.now one before now) call.work_left
      (subst (λ (one : P). less call.work.now call.work_after.now one now) call.partner_is
      (subst (λ (one : P). less call.work.now call.work_after.now call.partner.now one) call.partner_left
      (tells call.work call.partner call.work_after call.partner_after call.call))))

  -- what each call tells is so of each that was at work
  pub have_told : (olds news : List W) (partners laters : List P) → HaveWorked (HasWorked g f) olds news partners laters → HaveWorked less olds news partners laters
  have_told olds news partners laters all = have_weaker (HasWorked g f) less told olds news partners laters all
