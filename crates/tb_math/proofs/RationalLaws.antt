-- The ring laws of the rational numbers, of the whole numbers among them, and of one over a natural number.
use mathlib.Core.Path.{◌≡◌, refl, ap, ◌∙◌}
use mathlib.Core.List.{[], ◌∷◌}
use mathlib.Core.Quot.{mk, sound, ind}
use Prim.Native.Nat.{ℕ, zero, suc, ◌<◌}
use native.Mathlib.Omega.{arith}
use lib.IntN.{ℤ, pos, ◌+ℤ◌, ◌-ℤ◌, ◌*ℤ◌, neg_ℤ}
use Rattle.tb_math.specs.Fraction.{Fraction, ◌≈◌, ◌+F◌, ◌*F◌, neg_F, whole}
use Rattle.tb_math.specs.FractionEquality.{+F-comm, *F-comm}
use Rattle.tb_math.specs.Rational.{ℚ, ℚ_set, ◌+ℚ◌, ◌-ℚ◌, ◌*ℚ◌, neg_ℚ, int, one_over}
use Rattle.tb_math.proofs.ReadIntegers.{by_reading, reading}

+F-assoc : (x y z : Fraction) → x +F y +F z ≈ x +F (y +F z)
+F-assoc x y z =
    record {
      same = by_reading {atoms = x.numerator ∷ pos x.denominator ∷ y.numerator ∷ pos y.denominator ∷ z.numerator ∷ pos z.denominator ∷ []}
          (search reading depth 40 fits 20000) (search reading depth 40 fits 20000) refl;
    }

+F-zero : (x : Fraction) → x +F whole (pos 0) ≈ x
+F-zero x =
    record {
      same = by_reading {atoms = x.numerator ∷ pos x.denominator ∷ []} (search reading depth 40 fits 20000)
          (search reading depth 40 fits 20000) refl;
    }

+F-neg : (x : Fraction) → x +F neg_F x ≈ whole (pos 0)
+F-neg x =
    record {
      same = by_reading {atoms = x.numerator ∷ pos x.denominator ∷ []} (search reading depth 40 fits 20000)
          (search reading depth 40 fits 20000) refl;
    }

*F-assoc : (x y z : Fraction) → x *F y *F z ≈ x *F (y *F z)
*F-assoc x y z =
    record {
      same = by_reading {atoms = x.numerator ∷ pos x.denominator ∷ y.numerator ∷ pos y.denominator ∷ z.numerator ∷ pos z.denominator ∷ []}
          (search reading depth 40 fits 20000) (search reading depth 40 fits 20000) refl;
    }

*F-one : (x : Fraction) → whole (pos 1) *F x ≈ x
*F-one x =
    record {
      same = by_reading {atoms = x.numerator ∷ pos x.denominator ∷ []} (search reading depth 40 fits 20000)
          (search reading depth 40 fits 20000) refl;
    }

*F-dist : (x y z : Fraction) → x *F (y +F z) ≈ x *F y +F x *F z
*F-dist x y z =
    record {
      same = by_reading {atoms = x.numerator ∷ pos x.denominator ∷ y.numerator ∷ pos y.denominator ∷ z.numerator ∷ pos z.denominator ∷ []}
          (search reading depth 40 fits 20000) (search reading depth 40 fits 20000) refl;
    }

ind1 : (f g : ℚ → ℚ) → ((x : Fraction) → f (mk x) ≡ g (mk x)) → (p : ℚ) → f p ≡ g p
ind1 f g h = ind {r = ◌≈◌} {β = λ p. f p ≡ g p} (λ p. ℚ_set (f p) (g p)) h

ind2 : (f g : ℚ → ℚ → ℚ) → ((x y : Fraction) → f (mk x) (mk y) ≡ g (mk x) (mk y)) → (p q : ℚ) → f p q ≡ g p q
ind2 f g h p q = ind1 (λ p. f p q) (λ p. g p q) (λ x. ind1 (λ q. f (mk x) q) (λ q. g (mk x) q) (λ y. h x y) q) p

ind3 : (f g : ℚ → ℚ → ℚ → ℚ) → ((x y z : Fraction) → f (mk x) (mk y) (mk z) ≡ g (mk x) (mk y) (mk z)) → (p q r : ℚ) → f p q r ≡ g p q r
ind3 f g h p q r = ind1 (λ p. f p q r) (λ p. g p q r) (λ x. ind2 (λ q r. f (mk x) q r) (λ q r. g (mk x) q r) (λ y z. h x y z) q r) p

pub +ℚ_assoc : (p q r : ℚ) → p +ℚ q +ℚ r ≡ p +ℚ (q +ℚ r)
unfolding ◌+ℚ◌
+ℚ_assoc = ind3 (λ p q r. p +ℚ q +ℚ r) (λ p q r. p +ℚ (q +ℚ r)) (λ x y z. sound (+F-assoc x y z))

pub +ℚ_comm : (p q : ℚ) → p +ℚ q ≡ q +ℚ p
unfolding ◌+ℚ◌
+ℚ_comm = ind2 (λ p q. p +ℚ q) (λ p q. q +ℚ p) (λ x y. sound (+F-comm x y))

pub +ℚ_zero : (p : ℚ) → p +ℚ int (pos 0) ≡ p
unfolding ◌+ℚ◌ int
+ℚ_zero = ind1 (λ p. p +ℚ int (pos 0)) (λ p. p) (λ x. sound (+F-zero x))

pub +ℚ_neg : (p : ℚ) → p +ℚ neg_ℚ p ≡ int (pos 0)
unfolding ◌+ℚ◌ int neg_ℚ
+ℚ_neg = ind1 (λ p. p +ℚ neg_ℚ p) (λ p. int (pos 0)) (λ x. sound (+F-neg x))

pub *ℚ_assoc : (p q r : ℚ) → p *ℚ q *ℚ r ≡ p *ℚ (q *ℚ r)
unfolding ◌*ℚ◌
*ℚ_assoc = ind3 (λ p q r. p *ℚ q *ℚ r) (λ p q r. p *ℚ (q *ℚ r)) (λ x y z. sound (*F-assoc x y z))

pub *ℚ_comm : (p q : ℚ) → p *ℚ q ≡ q *ℚ p
unfolding ◌*ℚ◌
*ℚ_comm = ind2 (λ p q. p *ℚ q) (λ p q. q *ℚ p) (λ x y. sound (*F-comm x y))

pub *ℚ_one : (p : ℚ) → int (pos 1) *ℚ p ≡ p
unfolding ◌*ℚ◌ int
*ℚ_one = ind1 (λ p. int (pos 1) *ℚ p) (λ p. p) (λ x. sound (*F-one x))

pub *ℚ_dist : (p q r : ℚ) → p *ℚ (q +ℚ r) ≡ p *ℚ q +ℚ p *ℚ r
unfolding ◌*ℚ◌ ◌+ℚ◌
*ℚ_dist = ind3 (λ p q r. p *ℚ (q +ℚ r)) (λ p q r. p *ℚ q +ℚ p *ℚ r) (λ x y z. sound (*F-dist x y z))

pub int-add : (a b : ℤ) → int (a +ℤ b) ≡ int a +ℚ int b
unfolding ◌+ℚ◌ int
int-add a b = sound (record { same = by_reading {atoms = a ∷ b ∷ []} (search reading) (search reading) refl })

pub int-neg : (z : ℤ) → int (neg_ℤ z) ≡ neg_ℚ (int z)
unfolding int neg_ℚ
int-neg z = refl

pub int-difference : (a b : ℤ) → int (a -ℤ b) ≡ int a -ℚ int b
int-difference a b = int-add a (neg_ℤ b) ∙ ap (λ (t : ℚ). int a +ℚ t) (int-neg b)

pub int-mul : (a b : ℤ) → int (a *ℤ b) ≡ int a *ℚ int b
unfolding ◌*ℚ◌ int
int-mul a b = sound (record { same = by_reading {atoms = a ∷ b ∷ []} (search reading) (search reading) refl })

pub one_over_cancel : (n : ℕ) → 0 < n → int (pos n) *ℚ one_over n ≡ int (pos 1)
unfolding ◌*ℚ◌ int one_over
one_over_cancel zero h = absurd (omega arith)
one_over_cancel (suc n) h = sound (record { same = by_reading {atoms = pos (suc n) ∷ []} (search reading) (search reading) refl })

-- a fraction is its numerator times one over its denominator
pub fraction_is : (z : ℤ) (n : ℕ) (h : 0 < n) → ◌≡◌ {A = ℚ} (mk (record { numerator = z; denominator = n; positive = h })) (int z *ℚ one_over n)
unfolding ◌*ℚ◌ int one_over
fraction_is z zero h = absurd (omega arith)
fraction_is z (suc n) h = sound (record { same = by_reading {atoms = z ∷ pos (suc n) ∷ []} (search reading) (search reading) refl })
