-- The leading entry of all is the best.
use Rattle.std.proofs.Common.{◌≡◌, ◌∙◌, ◌+◌, ℕ, true, Some, None, length, nat_lt, refl, sym, ap, subst, arith}
use Rattle.std.specs.Option.{option_map_or}
use Rattle.std.proofs.lemmas.Option.{slice_get_read}
use Rattle.flow_table.specs.Entry.{rank}
use Rattle.flow_table.proofs.BestLaws.{Leads, best_is, leads_none, not_over, passed, taken_over}
use Rattle.flow_table.proofs.best.best_place.Goals.{then-outranks+then-takes, else-outranks, else-outranks-via-then-outranks+else-takes, else-outranks-via-else-outranks}
use Rattle.flow_table.proofs.best.best_place.Goals as goal

pub loop-place-init : goal.loop-place-init
loop-place-init c = leads_none c.args.entries.now c.args.in_port c.args.header.now

pub loop-place-preserved : goal.loop-place-preserved
loop-place-preserved c =
    let entries = c.args.entries.now in
    let port = c.args.in_port in
    let header = c.args.header.now in
    let e = c.index-entries-place.result in
    let n = c.loop-place.place in
    let there = slice_get_read entries (length entries) n e refl c.loop-place-test.true c.index-entries-place.is in
    let over : c.outranks.result ≡ option_map_or (λ (ranked : ℕ × ℕ). nat_lt ranked.1 (rank e)) c.loop-place.best true =
    c.outranks.ensures ∙ ap (λ (r : ℕ). option_map_or (λ (ranked : ℕ × ℕ). nat_lt ranked.1 r) c.loop-place.best true) c.rank-rank.ensures in
    elim c.if-outranks.branch [
      | then-outranks+then-takes w ↦
          let top : Some (n, rank e) ≡ c.if-outranks.best = rw (← c.rank-rank.ensures) (sym w.best-is) in
          subst (Leads entries port header (n + 1)) top
          (taken_over entries port header n c.loop-place.best e there (sym w.takes.ensures ∙ w.if-takes.true) (sym over ∙ w.if-outranks.true) c.loop-place.invariant)
      | else-outranks w ↦ subst (Leads entries port header (n + 1)) (sym w.best-is) (elim w.else-outranks.branch [
        | else-outranks-via-then-outranks+else-takes v ↦ passed entries port header n c.loop-place.best e there (sym v.takes.ensures ∙ v.if-takes.false) c.loop-place.invariant
        | else-outranks-via-else-outranks v ↦ not_over entries port header n c.loop-place.best e there (sym over ∙ v.if-outranks.false) c.loop-place.invariant
      ])
    ]

pub returns-in_err-place : goal.returns-in_err-place
returns-in_err-place c =
    let entries = c.args.entries.now in
    let at_end : c.loop-place.place ≡ length entries = omega arith in
    let leads = subst (λ (n : ℕ). Leads entries c.args.in_port c.args.header.now n c.loop-place.best) at_end c.loop-place.invariant in
    let is = best_is entries c.args.in_port c.args.header.now c.loop-place.best leads in
    let none : c.loop-place.best ≡ None = c.in_err-place.was in
    c.from_residual.ensures ∙ sym (rw none at is)

pub returns : goal.returns
returns c =
    let entries = c.args.entries.now in
    let at_end : c.loop-place.place ≡ length entries = omega arith in
    let leads = subst (λ (n : ℕ). Leads entries c.args.in_port c.args.header.now n c.loop-place.best) at_end c.loop-place.invariant in
    let is = best_is entries c.args.in_port c.args.header.now c.loop-place.best leads in
    let some = c.in_ok-place.was in
    sym (rw some at is)
