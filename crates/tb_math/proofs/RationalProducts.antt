-- Products and the order of the rational numbers, opposites, and a positive natural factor that cancels.
use mathlib.Core.Path.{◌≡◌, refl, subst}
use mathlib.Core.List.{[], ◌∷◌}
use Prim.Native.Nat.{ℕ, ◌<◌}
use lib.IntN.{pos}
use Rattle.tb_math.specs.Rational.{ℚ, ◌+ℚ◌, ◌*ℚ◌, neg_ℚ, int, one_over, ◌≤ℚ◌}
use Rattle.tb_math.proofs.RationalLaws.{one_over_cancel}
use Rattle.tb_math.proofs.RationalOrder.{≤ℚ-mul_nonneg, ≤ℚ-one_over}
use Rattle.tb_math.proofs.RationalRing.{to_difference, from_difference}
use Rattle.tb_math.proofs.ReadRationals.{by_reading, by_given, reading, none, given}

pub ≤ℚ-mul : (k p q : ℚ) → int (pos 0) ≤ℚ k → p ≤ℚ q → k *ℚ p ≤ℚ k *ℚ q
≤ℚ-mul k p q h l = from_difference (k *ℚ p) (k *ℚ q)
    (subst (λ (t : ℚ). int (pos 0) ≤ℚ t) (by_reading {atoms = k ∷ p ∷ q ∷ []} (search reading) (search reading) refl)
    (≤ℚ-mul_nonneg k (q +ℚ neg_ℚ p) h (to_difference p q l)))

pub ≤ℚ-neg : (p q : ℚ) → p ≤ℚ q → neg_ℚ q ≤ℚ neg_ℚ p
≤ℚ-neg p q h = from_difference (neg_ℚ q) (neg_ℚ p)
    (subst (λ (t : ℚ). int (pos 0) ≤ℚ t) (by_reading {atoms = p ∷ q ∷ []} (search reading) (search reading) refl) (to_difference p q h))

-- a positive natural cancels
pub cancel_ℚ : (n : ℕ) (p q : ℚ) → 0 < n → int (pos n) *ℚ p ≡ int (pos n) *ℚ q → p ≡ q
cancel_ℚ n p q h e = by_given {atoms = int (pos n) ∷ one_over n ∷ p ∷ q ∷ []} (search reading) (search reading)
    (given (one_over n) (int (pos n) *ℚ p) (int (pos n) *ℚ q) (search reading) (search reading) (search reading) e
    (given (q +ℚ neg_ℚ p) (int (pos n) *ℚ one_over n) (int (pos 1)) (search reading) (search reading) (search reading)
    (one_over_cancel n h) none)) refl

pub cancel_le_ℚ : (n : ℕ) (p q : ℚ) → 0 < n → int (pos n) *ℚ p ≤ℚ int (pos n) *ℚ q → p ≤ℚ q
cancel_le_ℚ n p q h l = subst (λ (t : ℚ). t ≤ℚ q) (back p)
    (subst (λ (t : ℚ). one_over n *ℚ (int (pos n) *ℚ p) ≤ℚ t) (back q) (≤ℚ-mul (one_over n) (int (pos n) *ℚ p) (int (pos n) *ℚ q) (≤ℚ-one_over n) l))
  where
    back : (r : ℚ) → one_over n *ℚ (int (pos n) *ℚ r) ≡ r
    back r = by_given {atoms = int (pos n) ∷ one_over n ∷ r ∷ []} (search reading) (search reading)
        (given r (int (pos n) *ℚ one_over n) (int (pos 1)) (search reading) (search reading) (search reading) (one_over_cancel n h) none) refl
