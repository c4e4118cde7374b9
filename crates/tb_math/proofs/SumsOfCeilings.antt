-- Sums of ceilings against the sum of the terms themselves: at least it, and above it by less than the number of terms.
use mathlib.Core.Path.{◌≡◌, refl, sym, ap, ◌∙◌, subst}
use mathlib.Core.List.{[], ◌∷◌}
use mathlib.Core.Logic.{◌⊎◌, inl, inr}
use Prim.Native.Nat.{ℕ, zero, suc, ◌+◌, ◌<◌}
use native.Mathlib.Omega.{arith}
use lib.IntN.{ℤ, pos, ◌+ℤ◌}
use Rattle.tb_math.specs.Rational.{ℚ, int, ◌+ℚ◌, ◌≤ℚ◌, ◌<ℚ◌}
use Rattle.tb_math.specs.Sums.{total, total_ℤ, total_ℕ}
use Rattle.tb_math.specs.Ceiling.{ceiling, RoundsTerms}
use Rattle.tb_math.proofs.RationalLaws.{int-add, +ℚ_comm, +ℚ_zero}
use Rattle.tb_math.proofs.RationalOrder.{≤ℚ-refl, ≤ℚ-add}
use Rattle.tb_math.proofs.StrictOrder.{<ℚ-add, <ℚ-≤}
use Rattle.tb_math.proofs.ReadRationals.{by_reading, reading}
use Rattle.tb_math.proofs.CeilingLaws.{ceiling-above, ceiling-below}

pub rounds-none : RoundsTerms 0 (int (pos 0)) (pos 0)
rounds-none = record {
  above = ≤ℚ-refl (int (pos 0));
  below = subst (λ (t : ℚ). int (pos 0) ≤ℚ t) (sym (+ℚ_zero (int (pos 0)))) (≤ℚ-refl (int (pos 0)));
  strictly = λ h. absurd (none h);
}
  where
    none : 0 < 0 → ⊥
    none h = omega arith

pub rounds-one : (q : ℚ) → RoundsTerms 1 q (ceiling q)
rounds-one q = record {
  above = ceiling-above q;
  below = <ℚ-≤ (int (ceiling q)) (q +ℚ int (pos 1)) (ceiling-below q);
  strictly = λ h. ceiling-below q;
}

-- both bounds add
apart : (m n : ℕ) (p q : ℚ) → (p +ℚ int (pos m)) +ℚ (q +ℚ int (pos n)) ≡ p +ℚ q +ℚ int (pos (m + n))
apart m n p q = by_reading {atoms = p ∷ q ∷ int (pos m) ∷ int (pos n) ∷ []} (search reading) (search reading) refl

pub rounds-plus : (m n : ℕ) (p q : ℚ) (y z : ℤ) → RoundsTerms m p y → RoundsTerms n q z → RoundsTerms (m + n) (p +ℚ q) (y +ℤ z)
rounds-plus m n p q y z h k = record {
  above = subst (λ (t : ℚ). p +ℚ q ≤ℚ t) (sym (int-add y z)) (≤ℚ-add p (int y) q (int z) h.above k.above);
  below = subst (λ (t : ℚ). t ≤ℚ p +ℚ q +ℚ int (pos (m + n))) (sym (int-add y z))
      (subst (λ (t : ℚ). int y +ℚ int z ≤ℚ t) (apart m n p q) (≤ℚ-add (int y) (p +ℚ int (pos m)) (int z) (q +ℚ int (pos n)) h.below k.below));
  strictly = λ l. subst (λ (t : ℚ). t <ℚ p +ℚ q +ℚ int (pos (m + n))) (sym (int-add y z))
      (subst (λ (t : ℚ). int y +ℚ int z <ℚ t) (apart m n p q) (less (some m n l)));
}
  where
    some : (m n : ℕ) → 0 < m + n → (0 < m) ⊎ (0 < n)
    some zero n l = inr (omega arith)
    some (suc m) n l = inl (omega arith)

    less : (0 < m) ⊎ (0 < n) → int y +ℚ int z <ℚ (p +ℚ int (pos m)) +ℚ (q +ℚ int (pos n))
    less (inl l) = <ℚ-add (int y) (p +ℚ int (pos m)) (int z) (q +ℚ int (pos n)) (h.strictly l) k.below
    less (inr l) = subst (λ (t : ℚ). t <ℚ (p +ℚ int (pos m)) +ℚ (q +ℚ int (pos n))) (+ℚ_comm (int z) (int y))
        (subst (λ (t : ℚ). int z +ℚ int y <ℚ t) (+ℚ_comm (q +ℚ int (pos n)) (p +ℚ int (pos m)))
        (<ℚ-add (int z) (q +ℚ int (pos n)) (int y) (p +ℚ int (pos m)) (k.strictly l) h.below))

-- and through a sum, whose parts may be sums themselves
pub rounds-sum : (n : ℕ) (m : ℕ → ℕ) (f : ℕ → ℚ) (g : ℕ → ℤ) → ((i : ℕ) → i < n → RoundsTerms (m i) (f i) (g i)) →
    RoundsTerms (total_ℕ n m) (total n f) (total_ℤ n g)
rounds-sum zero m f g h = rounds-none
rounds-sum (suc n) m f g h = rounds-plus (total_ℕ n m) (m n) (total n f) (f n) (total_ℤ n g) (g n) (rounds-sum n m f g (λ i l. h i (omega arith)))
    (h n (omega arith))

ones : (n : ℕ) → total_ℕ n (λ i. 1) ≡ n
ones zero = refl
ones (suc n) = ap (λ (t : ℕ). t + 1) (ones n) ∙ last n
  where
    last : (n : ℕ) → n + 1 ≡ suc n
    last n = omega arith

-- a sum of n ceilings
pub rounds-ceilings : (n : ℕ) (f : ℕ → ℚ) → RoundsTerms n (total n f) (total_ℤ n (λ i. ceiling (f i)))
rounds-ceilings n f = subst (λ (t : ℕ). RoundsTerms t (total n f) (total_ℤ n (λ i. ceiling (f i)))) (ones n)
    (rounds-sum n (λ i. 1) f (λ i. ceiling (f i)) (λ i l. rounds-one (f i)))
