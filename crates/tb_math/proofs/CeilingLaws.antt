-- The ceiling of a rational number: its bounds, that no other number meets them, that it is the least whole number above, and its value at a quotient.
use mathlib.Core.Path.{◌≡◌, refl, sym, ap, ◌∙◌, subst}
use mathlib.Core.List.{[], ◌∷◌}
use mathlib.Core.Logic.{◌↔◌}
use mathlib.Core.Quot.{mk, ind}
use Prim.Native.Nat.{ℕ, ◌<◌}
use native.Mathlib.Omega.{arith}
use Rattle.std.proofs.lemmas.Int.{ints}
use lib.IntN.{ℤ, pos, ◌+ℤ◌, ◌*ℤ◌, neg_ℤ, neg_ℤ-neg_ℤ}
use lib.Signed.{◌≤ℤ◌, ◌<ℤ◌}
use Rattle.tb_math.specs.Integers.{le_antisym}
use Rattle.tb_math.specs.Fraction.{Fraction, ◌≈◌, ◌+F◌, whole}
use Rattle.tb_math.specs.FractionEquality.{≈-refl, ≈→≼}
use Rattle.tb_math.specs.Rational.{ℚ, int, one_over, ratio, ◌+ℚ◌, ◌*ℚ◌, neg_ℚ, ◌≤ℚ◌, ◌<ℚ◌}
use Rattle.tb_math.specs.Ceiling.{RoundsUp, quotient_up, quotient_up-rounds, rounds_up-le, ceiling, floor}
use Rattle.tb_math.proofs.RationalLaws.{int-add, int-neg, fraction_is, one_over_cancel}
use Rattle.tb_math.proofs.RationalOrder.{≤ℚ-from, ≤ℚ-to, ≤ℚ-prop, ≤ℚ-int, ≤ℚ-add, ≤ℚ-refl, ≤ℚ-trans}
use Rattle.tb_math.proofs.StrictOrder.{int-<, <ℚ-int, <-≤-trans}
use Rattle.tb_math.proofs.ReadRationals.{by_given, reading, none, given}

<ℚ-prop : (p q : ℚ) → IsProp (p <ℚ q)
<ℚ-prop p q = hlevel (≤ℚ-prop)

pub ceiling-above : (q : ℚ) → q ≤ℚ int (ceiling q)
unfolding ceiling int
ceiling-above = ind {r = ◌≈◌} {β = λ q. q ≤ℚ int (ceiling q)} (λ q. ≤ℚ-prop q (int (ceiling q)))
    (λ x. ≤ℚ-from x (whole (ceiling (mk x)))
    (record {
      at_most = above x.numerator (pos x.denominator) (quotient_up x.numerator x.denominator)
          (quotient_up-rounds x.numerator x.denominator x.positive).at_least;
    }))
  where
    above : (z n c : ℤ) → z ≤ℤ (c *ℤ n) → (z *ℤ pos 1) ≤ℤ (c *ℤ n)
    above z n c h = omega (arith, ints, h)

times-one : (n : ℤ) → n *ℤ pos 1 ≡ n
times-one n = omega (arith, ints)

pub ceiling-below : (q : ℚ) → int (ceiling q) <ℚ q +ℚ int (pos 1)
unfolding ceiling int ◌+ℚ◌
ceiling-below = ind {r = ◌≈◌} {β = λ q. int (ceiling q) <ℚ q +ℚ int (pos 1)} (λ q. <ℚ-prop (int (ceiling q)) (q +ℚ int (pos 1)))
    (λ x. record {
      not_above = λ l. none x.numerator (pos x.denominator) (quotient_up x.numerator x.denominator)
          (quotient_up-rounds x.numerator x.denominator x.positive).near (≤ℚ-to (x +F whole (pos 1)) (whole (ceiling (mk x))) l).at_most;
    })
  where
    none : (z n c : ℤ) → (c *ℤ n) <ℤ (z +ℤ n) → ((z *ℤ pos 1 +ℤ pos 1 *ℤ n) *ℤ pos 1) ≤ℤ (c *ℤ (n *ℤ pos 1)) → ⊥
    none z n c h l = let e : c *ℤ (n *ℤ pos 1) ≡ c *ℤ n = ap (λ (t : ℤ). c *ℤ t) (times-one n) in omega (arith, ints, h, l, e)

-- between two numbers that differ by less than 1
step : (a b : ℤ) (q : ℚ) → int a <ℚ q +ℚ int (pos 1) → q ≤ℚ int b → a ≤ℤ b
step a b q h k = last (int-< a (b +ℤ pos 1)
    (subst (λ (t : ℚ). int a <ℚ t) (sym (int-add b (pos 1)))
    (<-≤-trans (int a) (q +ℚ int (pos 1)) (int b +ℚ int (pos 1)) h (≤ℚ-add q (int b) (int (pos 1)) (int (pos 1)) k (≤ℚ-refl (int (pos 1)))))))
  where
    last : a <ℤ (b +ℤ pos 1) → a ≤ℤ b
    last m = omega (arith, ints, m)

-- no other whole number lies there
pub ceiling-unique : (q : ℚ) (c : ℤ) → q ≤ℚ int c → int c <ℚ q +ℚ int (pos 1) → c ≡ ceiling q
ceiling-unique q c h k = le_antisym c (ceiling q) (step c (ceiling q) q k (ceiling-above q)) (step (ceiling q) c q (ceiling-below q) h)

-- the least whole number that is not below q
pub ceiling-least : (q : ℚ) (c : ℤ) → ceiling q ≤ℤ c ↔ q ≤ℚ int c
ceiling-least q c = (
  λ h. ≤ℚ-trans q (int (ceiling q)) (int c) (ceiling-above q)
      (≤ℚ-int (ceiling q) c h),
  λ k. step (ceiling q) c q (ceiling-below q) k,
)

pub ceiling-mono : (p q : ℚ) → p ≤ℚ q → ceiling p ≤ℤ ceiling q
ceiling-mono p q h = (ceiling-least p (ceiling q)).1 (≤ℚ-trans p q (int (ceiling q)) h (ceiling-above q))

pub ceiling-int : (z : ℤ) → ceiling (int z) ≡ z
ceiling-int z = sym (ceiling-unique (int z) z (≤ℚ-refl (int z))
    (subst (λ (t : ℚ). int z <ℚ t) (int-add z (pos 1)) (<ℚ-int z (z +ℤ pos 1) (omega (arith, ints)))))

pub floor-int : (z : ℤ) → floor (int z) ≡ z
unfolding floor
floor-int z = ap (λ (t : ℚ). neg_ℤ (ceiling t)) (sym (int-neg z)) ∙ ap neg_ℤ (ceiling-int (neg_ℤ z)) ∙ neg_ℤ-neg_ℤ z

pub ceiling-nonneg : (q : ℚ) → int (pos 0) ≤ℚ q → pos 0 ≤ℤ ceiling q
ceiling-nonneg q h = subst (λ (t : ℤ). t ≤ℤ ceiling q) (ceiling-int (pos 0)) (ceiling-mono (int (pos 0)) q h)

-- ---- at a quotient
rounds_up-unique : (z : ℤ) (n : ℕ) (c d : ℤ) → 0 < n → RoundsUp z (pos n) c → RoundsUp z (pos n) d → c ≡ d
rounds_up-unique z n c d h k l = let x : Fraction = record { numerator = z; denominator = n; positive = h } in
    le_antisym c d (rounds_up-le x x c d (≈→≼ (≈-refl x)) k l) (rounds_up-le x x d c (≈→≼ (≈-refl x)) l k)

pub ratio-quotient : (z : ℤ) (n : ℕ) → 0 < n → ceiling (ratio z n) ≡ quotient_up z n
unfolding ceiling
ratio-quotient z n h = sym (ap ceiling (fraction_is z n h))

-- c is z rounded up to a multiple of n
pub ratio-ceiling : (z : ℤ) (n : ℕ) (c : ℤ) → 0 < n → RoundsUp z (pos n) c → c ≡ ceiling (ratio z n)
ratio-ceiling z n c h k = rounds_up-unique z n c (quotient_up z n) h k (quotient_up-rounds z n h) ∙ sym (ratio-quotient z n h)

-- and the ceiling is such a number
pub ratio-rounds : (z : ℤ) (n : ℕ) → 0 < n → RoundsUp z (pos n) (ceiling (ratio z n))
ratio-rounds z n h = subst (λ (t : ℤ). RoundsUp z (pos n) t) (sym (ratio-quotient z n h)) (quotient_up-rounds z n h)

-- a rational that n times is z
pub quotient-is : (q : ℚ) (z : ℤ) (n : ℕ) → 0 < n → q *ℚ int (pos n) ≡ int z → q ≡ ratio z n
quotient-is q z n h e = by_given {atoms = q ∷ int z ∷ int (pos n) ∷ one_over n ∷ []} (search reading) (search reading)
    (given (one_over n) (q *ℚ int (pos n)) (int z) (search reading) (search reading) (search reading) e
    (given (neg_ℚ q) (int (pos n) *ℚ one_over n) (int (pos 1)) (search reading) (search reading) (search reading) (one_over_cancel n h) none)) refl

-- the ceiling of a rational from its numerator and denominator
pub quotient-ceiling : (q : ℚ) (z : ℤ) (n : ℕ) (c : ℤ) → 0 < n → q *ℚ int (pos n) ≡ int z → RoundsUp z (pos n) c → c ≡ ceiling q
quotient-ceiling q z n c h e k = ratio-ceiling z n c h k ∙ ap ceiling (sym (quotient-is q z n h e))
