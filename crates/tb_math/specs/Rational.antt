-- The rational numbers ℚ: the quotient of fractions by equal cross products, so that equal numbers are `≡`.
-- Sums, products and the order are those of fractions; `ratio z n` is z/n.
use mathlib.Core.Path.{◌≡◌}
use mathlib.Core.Bool.{Bool, Bool-set}
use mathlib.Core.Quot.{Quot, mk, Quot-set, sound, ind, lift}
use Prim.Native.Nat.{ℕ, zero, suc}
use lib.Dec.{T}
use lib.IntN.{ℤ, pos}
use Rattle.tb_math.specs.Fraction.{suc_positive, Fraction, ◌≈◌, ◌+F◌, ◌*F◌, neg_F, whole, leF}
use Rattle.tb_math.specs.FractionEquality.{+F-left, +F-right, *F-left, *F-right, neg_F-cong, leF-left, leF-right}

infixl 6 ◌-ℚ◌
infix 4 ◌<ℚ◌
infixl 6 ◌+ℚ◌
infixl 7 ◌*ℚ◌
-- the rational numbers: equal fractions made one
abbrev pub ℚ : Type 0
ℚ = Quot ◌≈◌

pub ℚ_set : IsSet ℚ
ℚ_set = Quot-set

-- a function of two fractions that respects equality is one of two rationals
abbrev pub lift2 : {B : Type 0} → IsSet B → (f : Fraction → Fraction → B) → ((x x' y : Fraction) → x ≈ x' → f x y ≡ f x' y) →
    ((x y y' : Fraction) → y ≈ y' → f x y ≡ f x y') → ℚ → ℚ → B
lift2 {B} bset f l r q q' = lift bset (λ x. lift bset (f x) (r x) q')
    (λ x x' e. ind {r = ◌≈◌} {β = λ s. lift bset (f x) (r x) s ≡ lift bset (f x') (r x') s}
    (λ s. bset (lift bset (f x) (r x) s) (lift bset (f x') (r x') s)) (λ y. l x x' y e) q') q

unfoldable pub ◌+ℚ◌ : ℚ → ℚ → ℚ
p +ℚ q = lift2 ℚ_set (λ x y. mk (x +F y)) (λ x x' y e. sound (+F-left x x' y e)) (λ x y y' e. sound (+F-right x y y' e)) p q

unfoldable pub ◌*ℚ◌ : ℚ → ℚ → ℚ
p *ℚ q = lift2 ℚ_set (λ x y. mk (x *F y)) (λ x x' y e. sound (*F-left x x' y e)) (λ x y y' e. sound (*F-right x y y' e)) p q

unfoldable pub neg_ℚ : ℚ → ℚ
neg_ℚ p = lift ℚ_set (λ x. mk (neg_F x)) (λ x x' e. sound (neg_F-cong x x' e)) p

abbrev pub ◌-ℚ◌ : ℚ → ℚ → ℚ
p -ℚ q = p +ℚ neg_ℚ q

-- a whole number as a rational
unfoldable pub int : ℤ → ℚ
int z = mk (whole z)

-- one over a natural number; one over 0 is 0
unfoldable pub one_over : ℕ → ℚ
one_over zero = mk (whole (pos 0))
one_over (suc n) = mk (record { numerator = pos 1; denominator = suc n; positive = suc_positive n })

-- z/n, and 0 for n = 0
abbrev pub ratio : ℤ → ℕ → ℚ
ratio z n = int z *ℚ one_over n

-- the test of the order
unfoldable pub leq : ℚ → ℚ → Bool
leq p q = lift2 Bool-set leF leF-left leF-right p q

infix 4 ◌≤ℚ◌
pub record ◌≤ℚ◌ (p q : ℚ) : Type 0 where
  pub leq_true : T (leq p q)

-- strictly below: the order fails the other way round
pub record ◌<ℚ◌ (p q : ℚ) : Type 0 where
  pub not_above : q ≤ℚ p → ⊥
