-- Cases on the numbers of types.
use Rattle.std.proofs.Common.{◌≡◌, ◌+◌, ◌-◌, ◌≤◌, ℕ, zero, suc, arith, inl, inr, subst}
use Rattle.std.proofs.lemmas.Bool.{cases_lt}

-- what holds of each number up to 10 holds of all of them
pub up_to_10 : (P : ℕ → Type 0) → P 0 → P 1 → P 2 → P 3 → P 4 → P 5 → P 6 → P 7 → P 8 → P 9 → P 10 → (k : ℕ) → k ≤ 10 → P k
up_to_10 P p0 p1 p2 p3 p4 p5 p6 p7 p8 p9 p10 zero h = p0
up_to_10 P p0 p1 p2 p3 p4 p5 p6 p7 p8 p9 p10 (suc zero) h = p1
up_to_10 P p0 p1 p2 p3 p4 p5 p6 p7 p8 p9 p10 (suc (suc zero)) h = p2
up_to_10 P p0 p1 p2 p3 p4 p5 p6 p7 p8 p9 p10 (suc (suc (suc zero))) h = p3
up_to_10 P p0 p1 p2 p3 p4 p5 p6 p7 p8 p9 p10 (suc (suc (suc (suc zero)))) h = p4
up_to_10 P p0 p1 p2 p3 p4 p5 p6 p7 p8 p9 p10 (suc (suc (suc (suc (suc zero))))) h = p5
up_to_10 P p0 p1 p2 p3 p4 p5 p6 p7 p8 p9 p10 (suc (suc (suc (suc (suc (suc zero)))))) h = p6
up_to_10 P p0 p1 p2 p3 p4 p5 p6 p7 p8 p9 p10 (suc (suc (suc (suc (suc (suc (suc zero))))))) h = p7
up_to_10 P p0 p1 p2 p3 p4 p5 p6 p7 p8 p9 p10 (suc (suc (suc (suc (suc (suc (suc (suc zero)))))))) h = p8
up_to_10 P p0 p1 p2 p3 p4 p5 p6 p7 p8 p9 p10 (suc (suc (suc (suc (suc (suc (suc (suc (suc zero))))))))) h = p9
up_to_10 P p0 p1 p2 p3 p4 p5 p6 p7 p8 p9 p10 (suc (suc (suc (suc (suc (suc (suc (suc (suc (suc zero)))))))))) h = p10
up_to_10 P p0 p1 p2 p3 p4 p5 p6 p7 p8 p9 p10 (suc (suc (suc (suc (suc (suc (suc (suc (suc (suc (suc n))))))))))) h = absurd (omega arith)

-- what holds of each number up to 21 holds of all of them
pub up_to_21 : (P : ℕ → Type 0) → P 0 → P 1 → P 2 → P 3 → P 4 → P 5 → P 6 → P 7 → P 8 → P 9 → P 10
    → P 11 → P 12 → P 13 → P 14 → P 15 → P 16 → P 17 → P 18 → P 19 → P 20 → P 21 → (k : ℕ) → k ≤ 21 → P k
up_to_21 P p0 p1 p2 p3 p4 p5 p6 p7 p8 p9 p10 p11 p12 p13 p14 p15 p16 p17 p18 p19 p20 p21 k h = elim (cases_lt k 11) [
  | inl low ↦ up_to_10 P p0 p1 p2 p3 p4 p5 p6 p7 p8 p9 p10 k (omega arith)
  | inr high ↦ subst P (let e : (k - 11) + 11 ≡ k = omega arith in e)
      (up_to_10 (λ n. P (n + 11)) p11 p12 p13 p14 p15 p16 p17 p18 p19 p20 p21 (k - 11) (omega arith))
]
