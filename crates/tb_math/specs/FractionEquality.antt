-- Equality of fractions is an equivalence, and sums, products, opposites and the order respect it: what `Rational` needs to make equal fractions one.
use mathlib.Core.Path.{◌≡◌, refl, sym, ap, ◌∙◌}
use mathlib.Core.Bool.{Bool, true, false}
use native.Mathlib.Omega.{arith}
use Rattle.std.proofs.lemmas.Int.{ints}
use lib.Dec.{T}
use lib.IntN.{ℤ, pos, ◌+ℤ◌, ◌*ℤ◌, neg_ℤ, *ℤ_comm}
use lib.Signed.{◌≤ℤ◌}
use Rattle.tb_math.specs.Integers.{dist_r, neg-mul, turn, medial, mul_le, cancel_le, cancel_eq, pos-nonneg}
use Rattle.tb_math.specs.Fraction.{Fraction, ◌≈◌, ◌≼◌, ◌+F◌, ◌*F◌, neg_F, leF}

pub ≈-refl : (x : Fraction) → x ≈ x
≈-refl x = record { same = refl }

pub ≈-sym : {x y : Fraction} → x ≈ y → y ≈ x
≈-sym e = record { same = sym e.same }

pub ≈-trans : {x y z : Fraction} → x ≈ y → y ≈ z → x ≈ z
≈-trans {x} {y} {z} e f = record {
  same = cancel_eq y.denominator (x.numerator *ℤ pos z.denominator) (z.numerator *ℤ pos x.denominator) y.positive
      (turn (pos y.denominator) x.numerator (pos z.denominator) ∙ ap (λ (t : ℤ). pos z.denominator *ℤ t) e.same
      ∙ turn (pos z.denominator) y.numerator (pos x.denominator)
      ∙ ap (λ (t : ℤ). pos x.denominator *ℤ t) f.same ∙ turn (pos x.denominator) z.numerator (pos y.denominator));
}

pub ≈→≼ : {x y : Fraction} → x ≈ y → x ≼ y
≈→≼ e = record { at_most = omega (arith, ints, e.same) }

pub ≼-trans : {x y z : Fraction} → x ≼ y → y ≼ z → x ≼ z
≼-trans {x} {y} {z} h k = record {
  at_most = cancel_le y.denominator (x.numerator *ℤ pos z.denominator)
      (z.numerator *ℤ pos x.denominator) y.positive last;
}
  where
    last : (pos y.denominator *ℤ (x.numerator *ℤ pos z.denominator)) ≤ℤ (pos y.denominator *ℤ (z.numerator *ℤ pos x.denominator))
    last = let p = mul_le (pos z.denominator) (x.numerator *ℤ pos y.denominator) (y.numerator *ℤ pos x.denominator)
        (pos-nonneg z.denominator) h.at_most in
        let q = mul_le (pos x.denominator) (y.numerator *ℤ pos z.denominator) (z.numerator *ℤ pos y.denominator)
        (pos-nonneg x.denominator) k.at_most in
        let e = turn (pos y.denominator) x.numerator (pos z.denominator) in let f = turn (pos z.denominator) y.numerator (pos x.denominator) in
        let g = turn (pos x.denominator) z.numerator (pos y.denominator) in
        omega (arith, ints, p, q, e, f, g)

pub +F-comm : (x y : Fraction) → x +F y ≈ y +F x
+F-comm x y = record {
  same = ap (λ (t : ℤ). t *ℤ (pos y.denominator *ℤ pos x.denominator))
      (flip (x.numerator *ℤ pos y.denominator) (y.numerator *ℤ pos x.denominator))
      ∙ ap (λ (t : ℤ). (y.numerator *ℤ pos x.denominator +ℤ x.numerator *ℤ pos y.denominator) *ℤ t) (*ℤ_comm (pos y.denominator) (pos x.denominator));
}
  where
    flip : (a b : ℤ) → a +ℤ b ≡ b +ℤ a
    flip a b = omega (arith, ints)

pub +F-left : (x x' y : Fraction) → x ≈ x' → x +F y ≈ x' +F y
+F-left x x' y e = record {
  same = dist_r (x.numerator *ℤ pos y.denominator) (y.numerator *ℤ pos x.denominator) (pos x'.denominator *ℤ pos y.denominator)
      ∙ ap (λ (t : ℤ). t +ℤ y.numerator *ℤ pos x.denominator *ℤ (pos x'.denominator *ℤ pos y.denominator))
      (medial x.numerator (pos y.denominator) (pos x'.denominator) (pos y.denominator)
      ∙ ap (λ (t : ℤ). t *ℤ (pos y.denominator *ℤ pos y.denominator)) e.same
      ∙ medial x'.numerator (pos x.denominator) (pos y.denominator) (pos y.denominator))
      ∙ ap (λ (t : ℤ). x'.numerator *ℤ pos y.denominator *ℤ (pos x.denominator *ℤ pos y.denominator) +ℤ t)
      (medial y.numerator (pos x.denominator) (pos x'.denominator) (pos y.denominator))
      ∙ sym (dist_r (x'.numerator *ℤ pos y.denominator) (y.numerator *ℤ pos x'.denominator) (pos x.denominator *ℤ pos y.denominator));
}

pub +F-right : (x y y' : Fraction) → y ≈ y' → x +F y ≈ x +F y'
+F-right x y y' e = ≈-trans (+F-comm x y) (≈-trans (+F-left y y' x e) (+F-comm y' x))

pub *F-comm : (x y : Fraction) → x *F y ≈ y *F x
*F-comm x y = record {
  same = ap (λ (t : ℤ). t *ℤ (pos y.denominator *ℤ pos x.denominator)) (*ℤ_comm x.numerator y.numerator)
      ∙ ap (λ (t : ℤ). y.numerator *ℤ x.numerator *ℤ t) (*ℤ_comm (pos y.denominator) (pos x.denominator));
}

pub *F-left : (x x' y : Fraction) → x ≈ x' → x *F y ≈ x' *F y
*F-left x x' y e = record {
  same = medial x.numerator y.numerator (pos x'.denominator) (pos y.denominator)
      ∙ ap (λ (t : ℤ). t *ℤ (y.numerator *ℤ pos y.denominator)) e.same ∙ medial x'.numerator (pos x.denominator) y.numerator (pos y.denominator);
}

pub *F-right : (x y y' : Fraction) → y ≈ y' → x *F y ≈ x *F y'
*F-right x y y' e = ≈-trans (*F-comm x y) (≈-trans (*F-left y y' x e) (*F-comm y' x))

pub neg_F-cong : (x x' : Fraction) → x ≈ x' → neg_F x ≈ neg_F x'
neg_F-cong x x' e = record { same = neg-mul x.numerator (pos x'.denominator) ∙ ap neg_ℤ e.same ∙ sym (neg-mul x'.numerator (pos x.denominator)) }

pub same_truth : (a b : Bool) → (T a → T b) → (T b → T a) → a ≡ b
same_truth true true f g = refl
same_truth true false f g = absurd (f tt)
same_truth false true f g = absurd (g tt)
same_truth false false f g = refl

pub leF-left : (x x' y : Fraction) → x ≈ x' → leF x y ≡ leF x' y
unfolding leF
leF-left x x' y e = same_truth (leF x y) (leF x' y)
    (λ t. (≼-trans {x = x'} {y = x} {z = y} (≈→≼ (≈-sym e)) (record { at_most = record { le = t } })).at_most.le)
    (λ t. (≼-trans {x = x} {y = x'} {z = y} (≈→≼ e) (record { at_most = record { le = t } })).at_most.le)

pub leF-right : (x y y' : Fraction) → y ≈ y' → leF x y ≡ leF x y'
unfolding leF
leF-right x y y' e = same_truth (leF x y) (leF x y')
    (λ t. (≼-trans {x = x} {y = y} {z = y'} (record { at_most = record { le = t } }) (≈→≼ e)).at_most.le)
    (λ t. (≼-trans {x = x} {y = y'} {z = y} (record { at_most = record { le = t } }) (≈→≼ (≈-sym e))).at_most.le)
