-- The order of the rational numbers: it is that of the cross products, total, and kept by sums and by products of what is not negative.
use mathlib.Core.Path.{◌≡◌, refl, ap, subst}
use mathlib.Core.Bool.{false}
use mathlib.Core.HLevel.{Π_prop}
use mathlib.Core.List.{[], ◌∷◌}
use mathlib.Core.Quot.{mk, sound, ind}
use Prim.Native.Nat.{ℕ, zero, suc, ◌*◌}
use native.Mathlib.Omega.{arith}
use Rattle.std.proofs.lemmas.Int.{ints}
use lib.Dec.{T_prop}
use lib.IntN.{ℤ, pos, ◌+ℤ◌, ◌*ℤ◌, *ℤ_comm}
use lib.Signed.{◌≤ℤ◌, le_z}
use Rattle.tb_math.specs.Integers.{mul-nonneg, square-nonneg, le_antisym, mul_le, pos-nonneg}
use Rattle.tb_math.specs.Fraction.{suc_positive, Fraction, ◌≈◌, ◌≼◌, ◌+F◌, ◌*F◌, whole, leF}
use Rattle.tb_math.specs.FractionEquality.{≈-refl, ≈→≼, ≼-trans}
use Rattle.tb_math.specs.Rational.{ℚ, ℚ_set, ◌+ℚ◌, ◌*ℚ◌, int, one_over, leq, ◌≤ℚ◌}
use Rattle.tb_math.proofs.ReadIntegers.{by_reading, reading}
use Rattle.tb_math.proofs.RationalLaws.{+ℚ_comm}

pub ≤ℚ-prop : (p q : ℚ) → IsProp (p ≤ℚ q)
≤ℚ-prop p q = hlevel (T_prop)

-- the order of two classes is that of the cross products
pub ≤ℚ-from : (x y : Fraction) → x ≼ y → mk x ≤ℚ mk y
unfolding leq leF
≤ℚ-from x y h = record { leq_true = h.at_most.le }

pub ≤ℚ-to : (x y : Fraction) → mk x ≤ℚ mk y → x ≼ y
unfolding leq leF
≤ℚ-to x y h = record { at_most = record { le = h.leq_true } }

pub ≤ℚ-trans : (p q r : ℚ) → p ≤ℚ q → q ≤ℚ r → p ≤ℚ r
≤ℚ-trans = ind {r = ◌≈◌} {β = λ p. (q r : ℚ) → p ≤ℚ q → q ≤ℚ r → p ≤ℚ r} (λ p. Π_prop (λ q. Π_prop (λ r. Π_prop (λ _. Π_prop (λ _. ≤ℚ-prop p r)))))
    (λ x. ind {r = ◌≈◌} {β = λ q. (r : ℚ) → mk x ≤ℚ q → q ≤ℚ r → mk x ≤ℚ r} (λ q. Π_prop (λ r. Π_prop (λ _. Π_prop (λ _. ≤ℚ-prop (mk x) r))))
    (λ y. ind {r = ◌≈◌} {β = λ r. mk x ≤ℚ mk y → mk y ≤ℚ r → mk x ≤ℚ r} (λ r. Π_prop (λ _. Π_prop (λ _. ≤ℚ-prop (mk x) r)))
    (λ z h k. ≤ℚ-from x z (≼-trans (≤ℚ-to x y h) (≤ℚ-to y z k)))))

-- a common denominator of a / p + b / q and c / r + b / q
common : (a p b q r : ℤ) → (a *ℤ q +ℤ b *ℤ p) *ℤ (r *ℤ q) ≡ q *ℤ q *ℤ (a *ℤ r) +ℤ q *ℤ b *ℤ (p *ℤ r)
common a p b q r = by_reading {atoms = a ∷ p ∷ b ∷ q ∷ r ∷ []} (search reading depth 40 fits 20000) (search reading depth 40 fits 20000) refl

+F-mono : (x y z : Fraction) → x ≼ y → x +F z ≼ y +F z
+F-mono x y z h = record {
  at_most = sum_le (pos z.denominator *ℤ z.numerator) (pos x.denominator *ℤ pos y.denominator)
      (pos y.denominator *ℤ pos x.denominator)
      (mul_le (pos z.denominator *ℤ pos z.denominator) (x.numerator *ℤ pos y.denominator) (y.numerator *ℤ pos x.denominator)
      (pos-nonneg (z.denominator * z.denominator)) h.at_most)
      (common x.numerator (pos x.denominator) z.numerator (pos z.denominator) (pos y.denominator))
      (common y.numerator (pos y.denominator) z.numerator (pos z.denominator) (pos x.denominator)) (*ℤ_comm (pos x.denominator) (pos y.denominator));
}
  where
    sum_le : {a b c d : ℤ} (e u v : ℤ) → a ≤ℤ b → c ≡ a +ℤ e *ℤ u → d ≡ b +ℤ e *ℤ v → u ≡ v → c ≤ℤ d
    sum_le e u v h f g k = let m = ap (λ (t : ℤ). e *ℤ t) k in omega (arith, ints, h, f, g, m)

mono_l : (p q r : ℚ) → p ≤ℚ q → p +ℚ r ≤ℚ q +ℚ r
unfolding ◌+ℚ◌
mono_l = ind {r = ◌≈◌} {β = λ p. (q r : ℚ) → p ≤ℚ q → p +ℚ r ≤ℚ q +ℚ r} (λ p. Π_prop (λ q. Π_prop (λ r. Π_prop (λ _. ≤ℚ-prop (p +ℚ r) (q +ℚ r)))))
    (λ x. ind {r = ◌≈◌} {β = λ q. (r : ℚ) → mk x ≤ℚ q → mk x +ℚ r ≤ℚ q +ℚ r} (λ q. Π_prop (λ r. Π_prop (λ _. ≤ℚ-prop (mk x +ℚ r) (q +ℚ r))))
    (λ y. ind {r = ◌≈◌} {β = λ r. mk x ≤ℚ mk y → mk x +ℚ r ≤ℚ mk y +ℚ r} (λ r. Π_prop (λ _. ≤ℚ-prop (mk x +ℚ r) (mk y +ℚ r)))
    (λ z h. ≤ℚ-from (x +F z) (y +F z) (+F-mono x y z (≤ℚ-to x y h)))))

pub ≤ℚ-add : (p p' q q' : ℚ) → p ≤ℚ p' → q ≤ℚ q' → p +ℚ q ≤ℚ p' +ℚ q'
≤ℚ-add p p' q q' h k = ≤ℚ-trans (p +ℚ q) (p' +ℚ q) (p' +ℚ q') (mono_l p p' q h)
    (subst (λ (t : ℚ). t ≤ℚ p' +ℚ q') (+ℚ_comm q p') (subst (λ (t : ℚ). q +ℚ p' ≤ℚ t) (+ℚ_comm q' p') (mono_l q q' p' k)))

pub ≤ℚ-mul_nonneg : (p q : ℚ) → int (pos 0) ≤ℚ p → int (pos 0) ≤ℚ q → int (pos 0) ≤ℚ p *ℚ q
unfolding ◌*ℚ◌ int
≤ℚ-mul_nonneg = ind {r = ◌≈◌} {β = λ p. (q : ℚ) → int (pos 0) ≤ℚ p → int (pos 0) ≤ℚ q → int (pos 0) ≤ℚ p *ℚ q}
    (λ p. Π_prop (λ q. Π_prop (λ _. Π_prop (λ _. ≤ℚ-prop (int (pos 0)) (p *ℚ q)))))
    (λ x. ind {r = ◌≈◌} {β = λ q. int (pos 0) ≤ℚ mk x → int (pos 0) ≤ℚ q → int (pos 0) ≤ℚ mk x *ℚ q}
    (λ q. Π_prop (λ _. Π_prop (λ _. ≤ℚ-prop (int (pos 0)) (mk x *ℚ q))))
    (λ y h k. ≤ℚ-from (whole (pos 0)) (x *F y)
    (record {
      at_most = nonneg x.numerator y.numerator (pos (x.denominator * y.denominator)) (pos x.denominator) (pos y.denominator)
          (≤ℚ-to (whole (pos 0)) x h).at_most (≤ℚ-to (whole (pos 0)) y k).at_most;
    })))
  where
    nonneg : (a b n d e : ℤ) → (pos 0 *ℤ d) ≤ℤ (a *ℤ pos 1) → (pos 0 *ℤ e) ≤ℤ (b *ℤ pos 1) → (pos 0 *ℤ n) ≤ℤ (a *ℤ b *ℤ pos 1)
    nonneg a b n d e h k = let p : pos 0 ≤ℤ a = omega (arith, ints) in let q : pos 0 ≤ℤ b = omega (arith, ints) in let r = mul-nonneg a b p q in
        omega (arith, ints)

pub ≤ℚ-square : (p : ℚ) → int (pos 0) ≤ℚ p *ℚ p
unfolding ◌*ℚ◌ int
≤ℚ-square = ind {r = ◌≈◌} {β = λ p. int (pos 0) ≤ℚ p *ℚ p} (λ p. ≤ℚ-prop (int (pos 0)) (p *ℚ p))
    (λ x. ≤ℚ-from (whole (pos 0)) (x *F x) (record { at_most = nonneg x.numerator (pos (x.denominator * x.denominator)) }))
  where
    nonneg : (a n : ℤ) → (pos 0 *ℤ n) ≤ℤ (a *ℤ a *ℤ pos 1)
    nonneg a n = let r = square-nonneg a in omega (arith, ints)

pub ≤ℚ-int : (a b : ℤ) → a ≤ℤ b → int a ≤ℚ int b
unfolding int
≤ℚ-int a b h = ≤ℚ-from (whole a) (whole b) (record { at_most = omega (arith, ints) })

pub ≤ℚ-one_over : (n : ℕ) → int (pos 0) ≤ℚ one_over n
unfolding int one_over
≤ℚ-one_over zero = ≤ℚ-from (whole (pos 0)) (whole (pos 0)) (≈→≼ (≈-refl (whole (pos 0))))
≤ℚ-one_over (suc n) = ≤ℚ-from (whole (pos 0)) (record { numerator = pos 1; denominator = suc n; positive = suc_positive n })
    (record { at_most = omega (arith, ints) })

-- equal classes have equal cross products
pub ≡-to : (x y : Fraction) → ◌≡◌ {A = ℚ} (mk x) (mk y) → x ≈ y
≡-to x y e = record {
  same = le_antisym (x.numerator *ℤ pos y.denominator) (y.numerator *ℤ pos x.denominator)
      (≤ℚ-to x y (subst (λ (t : ℚ). mk x ≤ℚ t) e (≤ℚ-from x x (≈→≼ (≈-refl x))))).at_most
      (≤ℚ-to y x (subst (λ (t : ℚ). t ≤ℚ mk x) e (≤ℚ-from x x (≈→≼ (≈-refl x))))).at_most;
}

pub ≤ℚ-refl : (p : ℚ) → p ≤ℚ p
≤ℚ-refl = ind {r = ◌≈◌} {β = λ p. p ≤ℚ p} (λ p. ≤ℚ-prop p p) (λ x. ≤ℚ-from x x (≈→≼ (≈-refl x)))

pub ≤ℚ-antisym : (p q : ℚ) → p ≤ℚ q → q ≤ℚ p → p ≡ q
≤ℚ-antisym = ind {r = ◌≈◌} {β = λ p. (q : ℚ) → p ≤ℚ q → q ≤ℚ p → p ≡ q} (λ p. Π_prop (λ q. Π_prop (λ _. Π_prop (λ _. ℚ_set p q))))
    (λ x. ind {r = ◌≈◌} {β = λ q. mk x ≤ℚ q → q ≤ℚ mk x → mk x ≡ q} (λ q. Π_prop (λ _. Π_prop (λ _. ℚ_set (mk x) q)))
    (λ y h k. sound (record {
      same = le_antisym (x.numerator *ℤ pos y.denominator) (y.numerator *ℤ pos x.denominator)
          (≤ℚ-to x y h).at_most (≤ℚ-to y x k).at_most;
    })))

-- where the test fails, the order is the other way round
pub ≤ℚ-flip : (p q : ℚ) → leq p q ≡ false → q ≤ℚ p
unfolding leq leF
≤ℚ-flip = ind {r = ◌≈◌} {β = λ p. (q : ℚ) → leq p q ≡ false → q ≤ℚ p} (λ p. Π_prop (λ q. Π_prop (λ _. ≤ℚ-prop q p)))
    (λ x. ind {r = ◌≈◌} {β = λ q. leq (mk x) q ≡ false → q ≤ℚ mk x} (λ q. Π_prop (λ _. ≤ℚ-prop q (mk x)))
    (λ y e. ≤ℚ-from y x (record { at_most = turned (x.numerator *ℤ pos y.denominator) (y.numerator *ℤ pos x.denominator) e })))
  where
    turned : (a b : ℤ) → le_z a b ≡ false → b ≤ℤ a
    turned a b e = omega (arith, ints)
