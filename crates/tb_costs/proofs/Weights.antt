-- A weight and what it stands for: it is more than half of it, and at most 1 above it. So a term of the loss and the
-- weighted form of the same flows are near each other.
use mathlib.Core.Path.{◌≡◌, refl, sym, subst}
use mathlib.Core.List.{[], ◌∷◌}
use Prim.Native.Nat.{zero, suc, ◌*◌, ◌^◌}
use native.Mathlib.Omega.{arith}
use Rattle.std.proofs.lemmas.Int.{ints}
use lib.IntN.{ℤ, pos, negsuc, ◌+ℤ◌, ◌*ℤ◌, neg_ℤ}
use lib.Signed.{◌≤ℤ◌}
use Rattle.tb_math.specs.Rational.{ℚ, int, ◌+ℚ◌, ◌*ℚ◌, neg_ℚ, ◌≤ℚ◌}
use Rattle.tb_math.specs.Ceiling.{ceiling, floor}
use Rattle.tb_math.proofs.CeilingLaws.{ceiling-above, ceiling-below}
use Rattle.tb_math.proofs.RationalLaws.{int-add, int-neg, +ℚ_zero}
use Rattle.tb_math.proofs.RationalOrder.{≤ℚ-add, ≤ℚ-int, ≤ℚ-mul_nonneg, ≤ℚ-refl, ≤ℚ-trans}
use Rattle.tb_math.proofs.RationalProducts.{≤ℚ-mul, ≤ℚ-neg}
use Rattle.tb_math.proofs.StrictOrder.{<ℚ-≤, int-≤}
use Rattle.tb_math.proofs.ReadRationals.{by_given, by_reading, given, none, reading}
use Rattle.tb_weighted.specs.Weighted.{at_least_one, whole_weight}

-- ---- rounding down
floor-below : (x : ℚ) → int (floor x) ≤ℚ x
unfolding floor
floor-below x = subst (λ (t : ℚ). int (neg_ℤ (ceiling (neg_ℚ x))) ≤ℚ t) (twice x)
    (subst (λ (t : ℚ). t ≤ℚ neg_ℚ (neg_ℚ x)) (sym (int-neg (ceiling (neg_ℚ x)))) (≤ℚ-neg (neg_ℚ x) (int (ceiling (neg_ℚ x))) (ceiling-above (neg_ℚ x))))
  where
    twice : (x : ℚ) → neg_ℚ (neg_ℚ x) ≡ x
    twice x = by_reading {atoms = x ∷ []} (search reading) (search reading) refl

floor-above : (x : ℚ) → x ≤ℚ int (floor x +ℤ pos 1)
unfolding floor
floor-above x =
    let c = ceiling (neg_ℚ x) in
    subst (λ (t : ℚ). t ≤ℚ int (neg_ℤ c +ℤ pos 1)) (back x)
    (subst (λ (t : ℚ). neg_ℚ (neg_ℚ x +ℚ int (pos 1)) +ℚ int (pos 1) ≤ℚ t) (next c)
    (≤ℚ-add (neg_ℚ (neg_ℚ x +ℚ int (pos 1))) (neg_ℚ (int c)) (int (pos 1)) (int (pos 1))
    (≤ℚ-neg (int c) (neg_ℚ x +ℚ int (pos 1)) (<ℚ-≤ (int c) (neg_ℚ x +ℚ int (pos 1)) (ceiling-below (neg_ℚ x)))) (≤ℚ-refl (int (pos 1)))))
  where
    back : (x : ℚ) → neg_ℚ (neg_ℚ x +ℚ int (pos 1)) +ℚ int (pos 1) ≡ x
    back x = by_reading {atoms = x ∷ []} (search reading depth 20) (search reading) refl

    next : (c : ℤ) → neg_ℚ (int c) +ℚ int (pos 1) ≡ int (neg_ℤ c +ℤ pos 1)
    next c = subst (λ (t : ℚ). t +ℚ int (pos 1) ≡ int (neg_ℤ c +ℤ pos 1)) (int-neg c) (sym (int-add (neg_ℤ c) (pos 1)))

-- ---- a weight
more_than_half : (z : ℤ) → (z +ℤ pos 1) ≤ℤ (pos 2 *ℤ at_least_one z)
more_than_half (pos zero) = omega (arith, ints)
more_than_half (pos (suc n)) = omega (arith, ints)
more_than_half (negsuc n) = omega (arith, ints)

pub weight_from : (x : ℚ) → x ≤ℚ int (pos 2 *ℤ whole_weight x)
weight_from x = ≤ℚ-trans x (int (floor x +ℤ pos 1)) (int (pos 2 *ℤ whole_weight x)) (floor-above x)
    (≤ℚ-int (floor x +ℤ pos 1) (pos 2 *ℤ whole_weight x) (more_than_half (floor x)))

one_above : (z : ℤ) (x : ℚ) → int (pos 0) ≤ℚ x → int z ≤ℚ x → int (at_least_one z) ≤ℚ x +ℚ int (pos 1)
one_above (pos zero) x low h = subst (λ (t : ℚ). t ≤ℚ x +ℚ int (pos 1)) (sym (int-add (pos 0) (pos 1))) (≤ℚ-add (int (pos 0)) x (int (pos 1)) (int (pos 1)) low (≤ℚ-refl (int (pos 1))))
one_above (pos (suc n)) x low h = subst (λ (t : ℚ). t ≤ℚ x +ℚ int (pos 1)) (+ℚ_zero (int (pos (suc n)))) (≤ℚ-add (int (pos (suc n))) x (int (pos 0)) (int (pos 1)) h (≤ℚ-int (pos 0) (pos 1) (omega (arith, ints))))
one_above (negsuc n) x low h = subst (λ (t : ℚ). t ≤ℚ x +ℚ int (pos 1)) (sym (int-add (pos 0) (pos 1))) (≤ℚ-add (int (pos 0)) x (int (pos 1)) (int (pos 1)) low (≤ℚ-refl (int (pos 1))))

pub weight_to : (x : ℚ) → int (pos 0) ≤ℚ x → int (whole_weight x) ≤ℚ x +ℚ int (pos 1)
weight_to x low = one_above (floor x) x low (floor-below x)

-- ---- a term
-- 3 · 2⁴⁴ times a term of the loss is 10⁵ times what a weight stands for times a form of whole flows
pub record IsWeighted (loss x : ℚ) (form : ℤ) : Type 0 where
  pub same : int (pos (3 * 2 ^ 44)) *ℚ loss ≡ int (pos (10 ^ 5)) *ℚ (x *ℚ int form)
  pub weight : int (pos 0) ≤ℚ x
  pub not_below_zero : pos 0 ≤ℤ form

abbrev unit : ℚ
unit = int (pos (3 * 2 ^ 44))

scaled : (form : ℤ) → pos 0 ≤ℤ form → int (pos 0) ≤ℚ int (pos (10 ^ 5)) *ℚ int form
scaled form h = ≤ℚ-mul_nonneg (int (pos (10 ^ 5))) (int form) (≤ℚ-int (pos 0) (pos (10 ^ 5)) (omega (arith, ints))) (≤ℚ-int (pos 0) form h)

-- rounded up, the term is at most twice its weighted form, and 1
pub cost_from_energy : (loss x : ℚ) (form : ℤ) → IsWeighted loss x form → (pos (3 * 2 ^ 44) *ℤ ceiling loss) ≤ℤ (pos (2 * 10 ^ 5) *ℤ (whole_weight x *ℤ form) +ℤ pos (3 * 2 ^ 44))
cost_from_energy loss x form h = int-≤ _ _
    (subst (λ (t : ℚ). t ≤ℚ int (pos (2 * 10 ^ 5) *ℤ (whole_weight x *ℤ form) +ℤ pos (3 * 2 ^ 44))) (sym (whole_cost (ceiling loss)))
    (≤ℚ-trans (unit *ℚ int (ceiling loss)) (unit *ℚ (loss +ℚ int (pos 1))) (int (pos (2 * 10 ^ 5) *ℤ (whole_weight x *ℤ form) +ℤ pos (3 * 2 ^ 44)))
    (≤ℚ-mul unit (int (ceiling loss)) (loss +ℚ int (pos 1)) (≤ℚ-int (pos 0) (pos (3 * 2 ^ 44)) (omega (arith, ints))) (<ℚ-≤ (int (ceiling loss)) (loss +ℚ int (pos 1)) (ceiling-below loss)))
    (subst (λ (t : ℚ). t ≤ℚ int (pos (2 * 10 ^ 5) *ℤ (whole_weight x *ℤ form) +ℤ pos (3 * 2 ^ 44))) (exact_cost loss x form h.same)
    (subst (λ (t : ℚ). int (pos (10 ^ 5)) *ℚ int form *ℚ x +ℚ unit ≤ℚ t) (whole_energy (whole_weight x) form)
    (≤ℚ-add (int (pos (10 ^ 5)) *ℚ int form *ℚ x) (int (pos (10 ^ 5)) *ℚ int form *ℚ int (pos 2 *ℤ whole_weight x)) unit unit
    (≤ℚ-mul (int (pos (10 ^ 5)) *ℚ int form) x (int (pos 2 *ℤ whole_weight x)) (scaled form h.not_below_zero) (weight_from x)) (≤ℚ-refl unit))))))
  where
    whole_cost : (c : ℤ) → int (pos (3 * 2 ^ 44) *ℤ c) ≡ unit *ℚ int c
    whole_cost c = by_reading {atoms = int c ∷ []} (search reading) (search reading) refl

    exact_cost : (loss x : ℚ) (form : ℤ) → unit *ℚ loss ≡ int (pos (10 ^ 5)) *ℚ (x *ℚ int form) → int (pos (10 ^ 5)) *ℚ int form *ℚ x +ℚ unit ≡ unit *ℚ (loss +ℚ int (pos 1))
    exact_cost loss x form e = by_given {atoms = loss ∷ x ∷ int form ∷ []} (search reading depth 20) (search reading depth 20)
        (given (neg_ℚ (int (pos 1))) (unit *ℚ loss) (int (pos (10 ^ 5)) *ℚ (x *ℚ int form)) (search reading) (search reading) (search reading depth 20) e none) refl

    whole_energy : (w form : ℤ) → int (pos (10 ^ 5)) *ℚ int form *ℚ int (pos 2 *ℤ w) +ℚ unit ≡ int (pos (2 * 10 ^ 5) *ℤ (w *ℤ form) +ℤ pos (3 * 2 ^ 44))
    whole_energy w form = by_reading {atoms = int w ∷ int form ∷ []} (search reading depth 20) (search reading depth 20) refl

-- and its weighted form is at most the term and the form itself
pub energy_from_cost : (loss x : ℚ) (form : ℤ) → IsWeighted loss x form → (pos (10 ^ 5) *ℤ (whole_weight x *ℤ form)) ≤ℤ (pos (3 * 2 ^ 44) *ℤ ceiling loss +ℤ pos (10 ^ 5) *ℤ form)
energy_from_cost loss x form h = int-≤ _ _
    (subst (λ (t : ℚ). t ≤ℚ int (pos (3 * 2 ^ 44) *ℤ ceiling loss +ℤ pos (10 ^ 5) *ℤ form)) (whole_energy (whole_weight x) form)
    (≤ℚ-trans (int (pos (10 ^ 5)) *ℚ int form *ℚ int (whole_weight x)) (int (pos (10 ^ 5)) *ℚ int form *ℚ (x +ℚ int (pos 1))) (int (pos (3 * 2 ^ 44) *ℤ ceiling loss +ℤ pos (10 ^ 5) *ℤ form))
    (≤ℚ-mul (int (pos (10 ^ 5)) *ℚ int form) (int (whole_weight x)) (x +ℚ int (pos 1)) (scaled form h.not_below_zero) (weight_to x h.weight))
    (subst (λ (t : ℚ). t ≤ℚ int (pos (3 * 2 ^ 44) *ℤ ceiling loss +ℤ pos (10 ^ 5) *ℤ form)) (exact_energy loss x form h.same)
    (subst (λ (t : ℚ). unit *ℚ loss +ℚ int (pos (10 ^ 5)) *ℚ int form ≤ℚ t) (whole_cost (ceiling loss) form)
    (≤ℚ-add (unit *ℚ loss) (unit *ℚ int (ceiling loss)) (int (pos (10 ^ 5)) *ℚ int form) (int (pos (10 ^ 5)) *ℚ int form)
    (≤ℚ-mul unit loss (int (ceiling loss)) (≤ℚ-int (pos 0) (pos (3 * 2 ^ 44)) (omega (arith, ints))) (ceiling-above loss)) (≤ℚ-refl (int (pos (10 ^ 5)) *ℚ int form)))))))
  where
    whole_energy : (w form : ℤ) → int (pos (10 ^ 5)) *ℚ int form *ℚ int w ≡ int (pos (10 ^ 5) *ℤ (w *ℤ form))
    whole_energy w form = by_reading {atoms = int w ∷ int form ∷ []} (search reading depth 20) (search reading depth 20) refl

    exact_energy : (loss x : ℚ) (form : ℤ) → unit *ℚ loss ≡ int (pos (10 ^ 5)) *ℚ (x *ℚ int form) → unit *ℚ loss +ℚ int (pos (10 ^ 5)) *ℚ int form ≡ int (pos (10 ^ 5)) *ℚ int form *ℚ (x +ℚ int (pos 1))
    exact_energy loss x form e = by_given {atoms = loss ∷ x ∷ int form ∷ []} (search reading depth 20) (search reading depth 20)
        (given (int (pos 1)) (unit *ℚ loss) (int (pos (10 ^ 5)) *ℚ (x *ℚ int form)) (search reading) (search reading) (search reading depth 20) e none) refl

    whole_cost : (c form : ℤ) → unit *ℚ int c +ℚ int (pos (10 ^ 5)) *ℚ int form ≡ int (pos (3 * 2 ^ 44) *ℤ c +ℤ pos (10 ^ 5) *ℤ form)
    whole_cost c form = by_reading {atoms = int c ∷ int form ∷ []} (search reading depth 20) (search reading depth 20) refl
