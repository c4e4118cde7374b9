-- The inverse of a rational number: where it cancels, that nothing else does, its sign, and its value at products and at natural numbers.
use mathlib.Core.Path.{◌≡◌, refl, sym, ap, ◌∙◌, subst}
use mathlib.Core.HLevel.{Π_prop}
use mathlib.Core.List.{[], ◌∷◌}
use mathlib.Core.Logic.{◌⊎◌, inl, inr}
use mathlib.Core.Quot.{mk, sound, ind}
use Prim.Native.Nat.{ℕ, zero, suc, ◌<◌}
use native.Mathlib.Omega.{arith}
use Rattle.std.proofs.lemmas.Int.{ints}
use lib.IntN.{ℤ, pos, negsuc, ◌*ℤ◌, neg_ℤ}
use lib.Signed.{◌≤ℤ◌}
use Rattle.tb_math.specs.Fraction.{◌≈◌, ◌*F◌, whole}
use Rattle.tb_math.specs.Rational.{ℚ, ℚ_set, int, one_over, ratio, ◌*ℚ◌, neg_ℚ, ◌≤ℚ◌, ◌<ℚ◌}
use Rattle.tb_math.specs.Division.{upside_down, inverse}
use Rattle.tb_math.proofs.RationalLaws.{*ℚ_comm, one_over_cancel}
use Rattle.tb_math.proofs.RationalOrder.{≤ℚ-antisym, ≤ℚ-refl, ≤ℚ-square, ≤ℚ-mul_nonneg}
use Rattle.tb_math.proofs.StrictOrder.{int-≤, ≤ℚ-linear, <ℚ-≤}
use Rattle.tb_math.proofs.RationalProducts.{≤ℚ-mul}
use Rattle.tb_math.proofs.ReadRationals.{by_reading, by_given, reading, none, given}
use Rattle.tb_math.proofs.ReadIntegers as I

at_fraction : (z : ℤ) (n : ℕ) (h : 0 < n) → (◌≡◌ {A = ℚ} (mk (record { numerator = z; denominator = n; positive = h })) (mk (whole (pos 0))) → ⊥) →
    (record { numerator = z; denominator = n; positive = h }) *F upside_down z n ≈ whole (pos 1)
at_fraction (pos zero) n h k = absurd (k (sound (record { same = I.by_reading {atoms = pos n ∷ []} (search I.reading) (search I.reading) refl })))
at_fraction (pos (suc j)) n h k = record { same = I.by_reading {atoms = pos (suc j) ∷ pos n ∷ []} (search I.reading) (search I.reading) refl }
at_fraction (negsuc j) n h k = record { same = signs (pos (suc j)) (pos n) }
  where
    signs : (s n : ℤ) → neg_ℤ s *ℤ neg_ℤ n *ℤ pos 1 ≡ pos 1 *ℤ (n *ℤ s)
    signs s n = I.by_reading {atoms = s ∷ n ∷ []} (search I.reading) (search I.reading) refl

pub inverse-cancel : (q : ℚ) → (q ≡ int (pos 0) → ⊥) → q *ℚ inverse q ≡ int (pos 1)
unfolding ◌*ℚ◌ int inverse
inverse-cancel = ind {r = ◌≈◌} {β = λ q. (q ≡ int (pos 0) → ⊥) → q *ℚ inverse q ≡ int (pos 1)}
    (λ q. Π_prop (λ _. ℚ_set (q *ℚ inverse q) (int (pos 1))))
    (λ x k. sound (at_fraction x.numerator x.denominator x.positive k))

pub inverse-zero : inverse (int (pos 0)) ≡ int (pos 0)
unfolding inverse int
inverse-zero = refl

-- 0 is not 1
zero_not_one : int (pos 0) ≡ int (pos 1) → ⊥
zero_not_one e = none (int-≤ (pos 1) (pos 0) (subst (λ (t : ℚ). t ≤ℚ int (pos 0)) e (≤ℚ-refl (int (pos 0)))))
  where
    none : pos 1 ≤ℤ pos 0 → ⊥
    none h = omega (arith, ints, h)

-- a factor of 1 is not 0
pub nonzero : (p q : ℚ) → p *ℚ q ≡ int (pos 1) → p ≡ int (pos 0) → ⊥
nonzero p q e z = zero_not_one (by_given {atoms = p ∷ q ∷ []} (search reading) (search reading)
    (given (int (pos 1)) (p *ℚ q) (int (pos 1)) (search reading) (search reading) (search reading) e
    (given (neg_ℚ q) p (int (pos 0)) (search reading) (search reading) (search reading) z none)) refl)

-- no other number is the inverse
pub inverse-unique : (p q : ℚ) → p *ℚ q ≡ int (pos 1) → q ≡ inverse p
inverse-unique p q e = by_given {atoms = p ∷ q ∷ inverse p ∷ []} (search reading) (search reading)
    (given (inverse p) (p *ℚ q) (int (pos 1)) (search reading) (search reading) (search reading) e
    (given (neg_ℚ q) (p *ℚ inverse p) (int (pos 1)) (search reading) (search reading) (search reading) (inverse-cancel p (nonzero p q e)) none)) refl

-- q is 0 or not
zero_or_not : (q : ℚ) → (q ≡ int (pos 0)) ⊎ (q ≡ int (pos 0) → ⊥)
zero_or_not q = elim (≤ℚ-linear q (int (pos 0))) [
  | inl l ↦ elim (≤ℚ-linear (int (pos 0)) q) [
    | inl m ↦ inl (≤ℚ-antisym q (int (pos 0)) l m)
    | inr m ↦ inr (λ e. m.not_above (subst (λ (t : ℚ). int (pos 0) ≤ℚ t) (sym e) (≤ℚ-refl (int (pos 0)))))
  ]
  | inr l ↦ inr (λ e. l.not_above (subst (λ (t : ℚ). t ≤ℚ int (pos 0)) (sym e) (≤ℚ-refl (int (pos 0)))))
]

zero-times : (q : ℚ) → int (pos 0) *ℚ q ≡ int (pos 0)
zero-times q = by_reading {atoms = q ∷ []} (search reading) (search reading) refl

times-zero : (q : ℚ) → q *ℚ int (pos 0) ≡ int (pos 0)
times-zero q = by_reading {atoms = q ∷ []} (search reading) (search reading) refl

pub inverse-mul : (p q : ℚ) → inverse (p *ℚ q) ≡ inverse p *ℚ inverse q
inverse-mul p q = by_cases (zero_or_not p) (zero_or_not q)
  where
    left : p ≡ int (pos 0) → inverse (p *ℚ q) ≡ inverse p *ℚ inverse q
    left e = ap inverse (ap (λ (t : ℚ). t *ℚ q) e ∙ zero-times q) ∙ inverse-zero
        ∙ sym (ap (λ (t : ℚ). inverse t *ℚ inverse q) e ∙ ap (λ (t : ℚ). t *ℚ inverse q) inverse-zero ∙ zero-times (inverse q))

    right : q ≡ int (pos 0) → inverse (p *ℚ q) ≡ inverse p *ℚ inverse q
    right e = ap inverse (ap (λ (t : ℚ). p *ℚ t) e ∙ times-zero p) ∙ inverse-zero
        ∙ sym (ap (λ (t : ℚ). inverse p *ℚ inverse t) e ∙ ap (λ (t : ℚ). inverse p *ℚ t) inverse-zero ∙ times-zero (inverse p))

    both : p *ℚ inverse p ≡ int (pos 1) → q *ℚ inverse q ≡ int (pos 1) → (p *ℚ q) *ℚ (inverse p *ℚ inverse q) ≡ int (pos 1)
    both e f = by_given {atoms = p ∷ q ∷ inverse p ∷ inverse q ∷ []} (search reading) (search reading)
        (given (q *ℚ inverse q) (p *ℚ inverse p) (int (pos 1)) (search reading) (search reading) (search reading) e
        (given (int (pos 1)) (q *ℚ inverse q) (int (pos 1)) (search reading) (search reading) (search reading) f none)) refl

    by_cases : (p ≡ int (pos 0)) ⊎ (p ≡ int (pos 0) → ⊥) → (q ≡ int (pos 0)) ⊎ (q ≡ int (pos 0) → ⊥) → inverse (p *ℚ q) ≡ inverse p *ℚ inverse q
    by_cases (inl e) k = left e
    by_cases (inr h) (inl e) = right e
    by_cases (inr h) (inr k) = sym (inverse-unique (p *ℚ q) (inverse p *ℚ inverse q) (both (inverse-cancel p h) (inverse-cancel q k)))

pub inverse-inverse : (q : ℚ) → inverse (inverse q) ≡ q
inverse-inverse q = by_cases (zero_or_not q)
  where
    by_cases : (q ≡ int (pos 0)) ⊎ (q ≡ int (pos 0) → ⊥) → inverse (inverse q) ≡ q
    by_cases (inl e) = ap (λ (t : ℚ). inverse (inverse t)) e ∙ ap inverse inverse-zero ∙ inverse-zero ∙ sym e
    by_cases (inr h) = sym (inverse-unique (inverse q) q (*ℚ_comm (inverse q) q ∙ inverse-cancel q h))

one_over-zero : one_over 0 ≡ int (pos 0)
unfolding one_over int
one_over-zero = refl

pub inverse-int : (n : ℕ) → inverse (int (pos n)) ≡ one_over n
inverse-int zero = inverse-zero ∙ sym one_over-zero
inverse-int (suc n) = sym (inverse-unique (int (pos (suc n))) (one_over (suc n)) (one_over_cancel (suc n) (omega arith)))

pub inverse-ratio : (m n : ℕ) → inverse (ratio (pos m) n) ≡ ratio (pos n) m
inverse-ratio m n = inverse-mul (int (pos m)) (one_over n) ∙ ap (λ (t : ℚ). t *ℚ inverse (one_over n)) (inverse-int m)
    ∙ ap (λ (t : ℚ). one_over m *ℚ t) (ap inverse (sym (inverse-int n)) ∙ inverse-inverse (int (pos n))) ∙ *ℚ_comm (one_over m) (int (pos n))

pub inverse-nonneg : (q : ℚ) → int (pos 0) ≤ℚ q → int (pos 0) ≤ℚ inverse q
inverse-nonneg q h = by_cases (zero_or_not q)
  where
    squared : q *ℚ inverse q ≡ int (pos 1) → q *ℚ (inverse q *ℚ inverse q) ≡ inverse q
    squared e = by_given {atoms = q ∷ inverse q ∷ []} (search reading) (search reading)
        (given (inverse q) (q *ℚ inverse q) (int (pos 1)) (search reading) (search reading) (search reading) e none) refl

    by_cases : (q ≡ int (pos 0)) ⊎ (q ≡ int (pos 0) → ⊥) → int (pos 0) ≤ℚ inverse q
    by_cases (inl e) = subst (λ (t : ℚ). int (pos 0) ≤ℚ t) (sym (ap inverse e ∙ inverse-zero)) (≤ℚ-refl (int (pos 0)))
    by_cases (inr k) = subst (λ (t : ℚ). int (pos 0) ≤ℚ t) (squared (inverse-cancel q k))
        (≤ℚ-mul_nonneg q (inverse q *ℚ inverse q) h (≤ℚ-square (inverse q)))

-- a positive number is not 0, so its inverse cancels
pub inverse-positive : (q : ℚ) → int (pos 0) <ℚ q → q *ℚ inverse q ≡ int (pos 1)
inverse-positive q h = inverse-cancel q (λ e. h.not_above (subst (λ (t : ℚ). t ≤ℚ int (pos 0)) (sym e) (≤ℚ-refl (int (pos 0)))))

pub inverse-is_positive : (q : ℚ) → int (pos 0) <ℚ q → int (pos 0) <ℚ inverse q
inverse-is_positive q h = record {
  not_above = λ l. zero_not_one (sym (times-zero q)
      ∙ ap (λ (t : ℚ). q *ℚ t) (sym (≤ℚ-antisym (inverse q) (int (pos 0)) l (inverse-nonneg q (<ℚ-≤ (int (pos 0)) q h)))) ∙ inverse-positive q h);
}

-- a product of positive numbers is positive
pub product-is_positive : (p q : ℚ) → int (pos 0) <ℚ p → int (pos 0) <ℚ q → int (pos 0) <ℚ p *ℚ q
product-is_positive p q h k = record { not_above = λ l. k.not_above (subst (λ (t : ℚ). t ≤ℚ int (pos 0)) back (subst (λ (t : ℚ). inverse p *ℚ (p *ℚ q) ≤ℚ t) (times-zero (inverse p)) (≤ℚ-mul (inverse p) (p *ℚ q) (int (pos 0)) (inverse-nonneg p (<ℚ-≤ (int (pos 0)) p h)) l))) }
  where
    back : inverse p *ℚ (p *ℚ q) ≡ q
    back = by_given {atoms = p ∷ q ∷ inverse p ∷ []} (search reading) (search reading)
        (given q (p *ℚ inverse p) (int (pos 1)) (search reading) (search reading) (search reading) (inverse-positive p h) none) refl
