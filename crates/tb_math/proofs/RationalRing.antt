-- The rational numbers as an ordered commutative ring, for the normal form of polynomials.
use mathlib.Core.Path.{ap, ◌∙◌, subst}
use lib.IntN.{pos}
use Rattle.tb_math.specs.Rational.{ℚ, ◌+ℚ◌, ◌*ℚ◌, neg_ℚ, int, ◌≤ℚ◌}
use Rattle.tb_math.proofs.Rings.{CommutativeRing, OrderedRing}
use Rattle.tb_math.proofs.RationalLaws.{+ℚ_assoc, +ℚ_comm, +ℚ_zero, +ℚ_neg, *ℚ_assoc, *ℚ_comm, *ℚ_one, *ℚ_dist, int-add, int-mul}
use Rattle.tb_math.proofs.RationalOrder.{≤ℚ-add, ≤ℚ-mul_nonneg, ≤ℚ-square, ≤ℚ-refl}

-- p ≤ q is that the difference q - p is not negative
pub to_difference : (p q : ℚ) → p ≤ℚ q → int (pos 0) ≤ℚ q +ℚ neg_ℚ p
to_difference p q h = subst (λ (t : ℚ). t ≤ℚ q +ℚ neg_ℚ p) (+ℚ_neg p) (≤ℚ-add p q (neg_ℚ p) (neg_ℚ p) h (≤ℚ-refl (neg_ℚ p)))

abbrev pub ring_ℚ : CommutativeRing ℚ
ring_ℚ = record {
  plus = ◌+ℚ◌;
  times = ◌*ℚ◌;
  opposite = neg_ℚ;
  inj = int;
  plus-assoc = +ℚ_assoc;
  plus-comm = +ℚ_comm;
  plus-zero = +ℚ_zero;
  plus-opposite = +ℚ_neg;
  times-assoc = *ℚ_assoc;
  times-comm = *ℚ_comm;
  times-one = *ℚ_one;
  times-plus = *ℚ_dist;
  inj-plus = int-add;
  inj-times = int-mul;
}

pub from_difference : (a b : ℚ) → int (pos 0) ≤ℚ b +ℚ neg_ℚ a → a ≤ℚ b
from_difference a b h = subst (λ (t : ℚ). t ≤ℚ b) (+ℚ_comm (int (pos 0)) a
    ∙ +ℚ_zero a) (subst (λ (t : ℚ). int (pos 0) +ℚ a ≤ℚ t) (+ℚ_assoc b (neg_ℚ a) a ∙ ap (λ (t : ℚ). b +ℚ t) (+ℚ_comm (neg_ℚ a) a ∙ +ℚ_neg a)
    ∙ +ℚ_zero b) (≤ℚ-add (int (pos 0)) (b +ℚ neg_ℚ a) a a h (≤ℚ-refl a)))

abbrev pub ordered_ℚ : OrderedRing ℚ ring_ℚ
ordered_ℚ = record {
  le = ◌≤ℚ◌;
  nonneg-plus = λ a b h k. subst (λ (t : ℚ). t ≤ℚ a +ℚ b) (+ℚ_zero (int (pos 0)))
      (≤ℚ-add (int (pos 0)) a (int (pos 0)) b h k);
  nonneg-times = ≤ℚ-mul_nonneg;
  nonneg-square = ≤ℚ-square;
  nonneg-zero = ≤ℚ-refl (int (pos 0));
  from_nonneg = from_difference;
}
