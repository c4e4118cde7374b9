-- Fractions: a whole number over a positive one, compared by cross products. Equal numbers may be unlike fractions, as 1/2 and 2/4;
-- `Rational` makes them one.
use mathlib.Core.Path.{◌≡◌}
use mathlib.Core.Bool.{Bool}
use Prim.Native.Nat.{ℕ, suc, ◌*◌, ◌<◌}
use native.Mathlib.Omega.{arith}
use lib.IntN.{ℤ, pos, ◌+ℤ◌, ◌*ℤ◌, neg_ℤ}
use lib.Signed.{◌≤ℤ◌, le_z}

infix 4 ◌≈◌ ◌≼◌
infixl 6 ◌+F◌
infixl 7 ◌*F◌
pub record Fraction : Type 0 where
  pub numerator : ℤ
  pub denominator : ℕ
  pub positive : 0 < denominator

-- equal as numbers
pub record ◌≈◌ (x y : Fraction) : Type 0 where
  pub same : x.numerator *ℤ pos y.denominator ≡ y.numerator *ℤ pos x.denominator

-- at most, as numbers
pub record ◌≼◌ (x y : Fraction) : Type 0 where
  pub at_most : (x.numerator *ℤ pos y.denominator) ≤ℤ (y.numerator *ℤ pos x.denominator)

pub mul_positive : (a b : ℕ) → 0 < a → 0 < b → 0 < a * b
mul_positive a b h k = grind arith

pub suc_positive : (n : ℕ) → 0 < suc n
suc_positive n = omega arith

abbrev pub whole : ℤ → Fraction
whole z = record { numerator = z; denominator = 1; positive = suc_positive 0 }

abbrev pub ◌+F◌ : Fraction → Fraction → Fraction
x +F y = record {
  numerator = x.numerator *ℤ pos y.denominator +ℤ y.numerator *ℤ pos x.denominator;
  denominator = x.denominator * y.denominator;
  positive = mul_positive x.denominator y.denominator x.positive y.positive;
}

abbrev pub ◌*F◌ : Fraction → Fraction → Fraction
x *F y = record {
  numerator = x.numerator *ℤ y.numerator;
  denominator = x.denominator * y.denominator;
  positive = mul_positive x.denominator y.denominator x.positive y.positive;
}

abbrev pub neg_F : Fraction → Fraction
neg_F x = record { numerator = neg_ℤ x.numerator; denominator = x.denominator; positive = x.positive }

-- the test of the order
unfoldable pub leF : Fraction → Fraction → Bool
leF x y = le_z (x.numerator *ℤ pos y.denominator) (y.numerator *ℤ pos x.denominator)
