-- Rational numbers as quotients: what their numerator and denominator say about them.
use mathlib.Core.Path.{◌≡◌, sym, ap, ◌∙◌, subst}
use Prim.Native.Nat.{ℕ, ◌*◌, ◌<◌, ◌≤◌}
use native.Mathlib.Omega.{arith}
use Rattle.std.proofs.lemmas.Int.{ints}
use lib.IntN.{ℤ, pos, ◌*ℤ◌}
use lib.Signed.{◌≤ℤ◌}
use Rattle.tb_math.specs.Integers.{mul_le, pos-nonneg}
use Rattle.tb_math.specs.Rational.{ℚ, int, ◌*ℚ◌, ◌≤ℚ◌}
use Rattle.tb_math.specs.Ceiling.{quotient_up, ceiling}
use Rattle.tb_math.proofs.RationalLaws.{*ℚ_comm, int-mul}
use Rattle.tb_math.proofs.RationalOrder.{≤ℚ-int}
use Rattle.tb_math.proofs.RationalProducts.{cancel_le_ℚ}
use Rattle.tb_math.proofs.CeilingLaws.{quotient-is, ratio-quotient}

-- q is z/n
pub record IsQuotient (q : ℚ) (z : ℤ) (n : ℕ) : Type 0 where
  pub positive : 0 < n
  pub value : int z ≡ int (pos n) *ℚ q

pub quotient-not_below_zero : (q : ℚ) (z : ℤ) (n : ℕ) → IsQuotient q z n → pos 0 ≤ℤ z → int (pos 0) ≤ℚ q
quotient-not_below_zero q z n h l = cancel_le_ℚ n (int (pos 0)) q h.positive (subst (λ (t : ℚ). int (pos n) *ℚ int (pos 0) ≤ℚ t) h.value (subst (λ (t : ℚ). t ≤ℚ int z) (int-mul (pos n) (pos 0)) (≤ℚ-int (pos (n * 0)) z (omega (arith, ints)))))

pub quotient-at_most : (q : ℚ) (z : ℤ) (n most : ℕ) → IsQuotient q z n → z ≤ℤ pos (n * most) → q ≤ℚ int (pos most)
quotient-at_most q z n most h l = cancel_le_ℚ n q (int (pos most)) h.positive (subst (λ (t : ℚ). t ≤ℚ int (pos n) *ℚ int (pos most)) h.value (subst (λ (t : ℚ). int z ≤ℚ t) (int-mul (pos n) (pos most)) (≤ℚ-int z (pos (n * most)) l)))

-- a quotient rounded up is its numerator over its denominator, rounded up
pub quotient-rounded_up : (q : ℚ) (z : ℤ) (n : ℕ) → IsQuotient q z n → ceiling q ≡ quotient_up z n
quotient-rounded_up q z n h = ap ceiling (quotient-is q z n h.positive (*ℚ_comm q (int (pos n)) ∙ sym h.value)) ∙ ratio-quotient z n h.positive

-- products of what is at most so large
pub scaled-at_most : (p : ℕ) (z : ℤ) (most k : ℕ) → p ≤ k → z ≤ℤ pos most → (pos p *ℤ z) ≤ℤ pos (k * most)
scaled-at_most p z most k h l = let s = mul_le (pos p) z (pos most) (pos-nonneg p) l in let t : p * most ≤ k * most = grind arith in omega (arith, ints, s, t)
