-- The strict order of the rational numbers, and the order of the whole numbers among them.
use mathlib.Core.Path.{◌≡◌, refl, sym, subst}
use mathlib.Core.Bool.{Bool, true, false}
use mathlib.Core.List.{[], ◌∷◌}
use mathlib.Core.Logic.{◌⊎◌, inl, inr, ◌↔◌}
use Prim.Native.Nat.{ℕ, ◌<◌}
use native.Mathlib.Omega.{arith}
use Rattle.std.proofs.lemmas.Int.{ints, by_lt_z}
use lib.Dec.{T}
use lib.IntN.{ℤ, pos}
use lib.Signed.{◌≤ℤ◌, ◌<ℤ◌}
use Rattle.tb_math.specs.Fraction.{whole}
use Rattle.tb_math.specs.Rational.{ℚ, ◌+ℚ◌, ◌*ℚ◌, neg_ℚ, int, leq, ◌≤ℚ◌, ◌<ℚ◌}
use Rattle.tb_math.proofs.RationalOrder.{≤ℚ-to, ≤ℚ-int, ≤ℚ-trans, ≤ℚ-refl, ≤ℚ-add, ≤ℚ-flip, ≤ℚ-antisym}
use Rattle.tb_math.proofs.RationalProducts.{cancel_le_ℚ}
use Rattle.tb_math.proofs.ReadRationals.{by_reading, reading}

pub int-≤ : (a b : ℤ) → int a ≤ℚ int b → a ≤ℤ b
unfolding int
int-≤ a b h = let m = (≤ℚ-to (whole a) (whole b) h).at_most in omega (arith, ints, m)

pub int-order : (a b : ℤ) → int a ≤ℚ int b ↔ a ≤ℤ b
int-order a b = (int-≤ a b, ≤ℚ-int a b)

pub int-< : (a b : ℤ) → int a <ℚ int b → a <ℤ b
int-< a b h = by_lt_z a b (λ l. l) (λ m. absurd (h.not_above (≤ℚ-int b a m)))

pub <ℚ-int : (a b : ℤ) → a <ℤ b → int a <ℚ int b
<ℚ-int a b h = record { not_above = λ l. none (int-≤ b a l) }
  where
    none : b ≤ℤ a → ⊥
    none l = omega (arith, ints)

-- by the test of the order
tested : (p q : ℚ) (b : Bool) → leq p q ≡ b → (p ≤ℚ q) ⊎ ((q ≤ℚ p) × (q <ℚ p))
tested p q true e = inl (record { leq_true = subst T (sym e) tt })
tested p q false e = inr (≤ℚ-flip p q e, record { not_above = λ h. subst T e h.leq_true })

pub ≤ℚ-linear : (p q : ℚ) → (p ≤ℚ q) ⊎ (q <ℚ p)
≤ℚ-linear p q = elim (tested p q (leq p q) refl) [ inl l ↦ inl l | inr m ↦ inr m.1 ]

pub <ℚ-≤ : (p q : ℚ) → p <ℚ q → p ≤ℚ q
<ℚ-≤ p q h = elim (tested p q (leq p q) refl) [ inl l ↦ l | inr m ↦ absurd (h.not_above m.0) ]

pub ≤ℚ-total : (p q : ℚ) → (p ≤ℚ q) ⊎ (q ≤ℚ p)
≤ℚ-total p q = elim (tested p q (leq p q) refl) [ inl l ↦ inl l | inr m ↦ inr m.0 ]

-- strictly below is at most, and not equal
pub <ℚ-is : (p q : ℚ) → p <ℚ q ↔ (p ≤ℚ q) × (p ≡ q → ⊥)
<ℚ-is p q = (λ h. (<ℚ-≤ p q h, λ e. h.not_above (subst (λ (t : ℚ). t ≤ℚ p) e (≤ℚ-refl p))), λ k. record { not_above = λ l. k.1 (≤ℚ-antisym p q k.0 l) })

pub ≤-<-trans : (p q r : ℚ) → p ≤ℚ q → q <ℚ r → p <ℚ r
≤-<-trans p q r h k = record { not_above = λ l. k.not_above (≤ℚ-trans r p q l h) }

pub <-≤-trans : (p q r : ℚ) → p <ℚ q → q ≤ℚ r → p <ℚ r
<-≤-trans p q r h k = record { not_above = λ l. h.not_above (≤ℚ-trans q r p k l) }

-- a summand cancels
pub cancel_add : (p q r : ℚ) → p +ℚ r ≤ℚ q +ℚ r → p ≤ℚ q
cancel_add p q r h = subst (λ (t : ℚ). t ≤ℚ q) (without p)
    (subst (λ (t : ℚ). p +ℚ r +ℚ neg_ℚ r ≤ℚ t) (without q) (≤ℚ-add (p +ℚ r) (q +ℚ r) (neg_ℚ r) (neg_ℚ r) h (≤ℚ-refl (neg_ℚ r))))
  where
    without : (s : ℚ) → s +ℚ r +ℚ neg_ℚ r ≡ s
    without s = by_reading {atoms = s ∷ r ∷ []} (search reading) (search reading) refl

pub <ℚ-add : (p p' q q' : ℚ) → p <ℚ p' → q ≤ℚ q' → p +ℚ q <ℚ p' +ℚ q'
<ℚ-add p p' q q' h k = record {
  not_above = λ l. h.not_above (cancel_add p' p q (≤ℚ-trans (p' +ℚ q) (p' +ℚ q') (p +ℚ q)
      (≤ℚ-add p' p' q q' (≤ℚ-refl p') k) l));
}

pub <ℚ-mul : (n : ℕ) (p q : ℚ) → 0 < n → p <ℚ q → int (pos n) *ℚ p <ℚ int (pos n) *ℚ q
<ℚ-mul n p q h k = record { not_above = λ l. k.not_above (cancel_le_ℚ n q p h l) }

pub <ℚ-irreflexive : (p : ℚ) → p <ℚ p → ⊥
<ℚ-irreflexive p h = h.not_above (≤ℚ-refl p)
