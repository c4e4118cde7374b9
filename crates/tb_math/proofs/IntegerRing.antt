-- The whole numbers as a commutative ring: identities by the normal form of polynomials.
use mathlib.Core.Path.{◌≡◌, refl}
use mathlib.Core.Bool.{true}
use mathlib.Core.List.{List}
use native.Mathlib.Omega.{arith}
use Rattle.std.proofs.lemmas.Int.{ints}
use lib.IntN.{ℤ, pos, ◌+ℤ◌, ◌*ℤ◌, neg_ℤ, *ℤ_comm}
use Rattle.tb_math.specs.Integers.{dist_l, mul_assoc, one-mul}
use Rattle.tb_math.proofs.Polynomials.{Expression, ◌⊖◌, norm, all_zero}
use Rattle.tb_math.proofs.Rings.{CommutativeRing, value, ring_over}

pub add_assoc : (a b c : ℤ) → (a +ℤ b) +ℤ c ≡ a +ℤ (b +ℤ c)
add_assoc a b c = omega (arith, ints)

pub add_comm : (a b : ℤ) → a +ℤ b ≡ b +ℤ a
add_comm a b = omega (arith, ints)

pub add_zero : (a : ℤ) → a +ℤ pos 0 ≡ a
add_zero a = omega (arith, ints)

pub add_neg : (a : ℤ) → a +ℤ neg_ℤ a ≡ pos 0
add_neg a = omega (arith, ints)

abbrev pub ring_ℤ : CommutativeRing ℤ
ring_ℤ = record {
  plus = ◌+ℤ◌;
  times = ◌*ℤ◌;
  opposite = neg_ℤ;
  inj = λ z. z;
  plus-assoc = add_assoc;
  plus-comm = add_comm;
  plus-zero = add_zero;
  plus-opposite = add_neg;
  times-assoc = mul_assoc;
  times-comm = *ℤ_comm;
  times-one = one-mul;
  times-plus = dist_l;
  inj-plus = λ a b. refl;
  inj-times = λ a b. refl;
}

-- two expressions with one normal form have one value
pub ring : (atoms : List ℤ) (a b : Expression) → all_zero (norm (a ⊖ b)) ≡ true → value ring_ℤ atoms a ≡ value ring_ℤ atoms b
ring = ring_over ring_ℤ
