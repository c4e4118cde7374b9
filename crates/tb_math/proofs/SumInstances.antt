-- The additions of the rational, the whole and the natural numbers, for the laws of sums.
use mathlib.Core.Path.{◌≡◌}
use Prim.Native.Nat.{ℕ, ◌+◌}
use native.Mathlib.Omega.{arith}
use lib.IntN.{ℤ, pos, ◌+ℤ◌}
use Rattle.std.proofs.lemmas.Int.{ints}
use lib.Signed.{◌≤ℤ◌}
use Rattle.tb_math.specs.Rational.{ℚ, int, ◌+ℚ◌, ◌≤ℚ◌}
use Rattle.tb_math.proofs.IntegerRing.{add_assoc, add_comm, add_zero}
use Rattle.tb_math.proofs.RationalLaws.{+ℚ_assoc, +ℚ_comm, +ℚ_zero}
use Rattle.tb_math.proofs.RationalOrder.{≤ℚ-trans, ≤ℚ-refl, ≤ℚ-add}
use Rattle.tb_math.proofs.SumLaws.{Adds}
use Rattle.tb_math.proofs.SumOrder.{AddsInOrder}

abbrev pub adds_ℚ : Adds ℚ
adds_ℚ = record { none = int (pos 0); plus = ◌+ℚ◌; plus-assoc = +ℚ_assoc; plus-comm = +ℚ_comm; plus-none = +ℚ_zero }

abbrev pub adds_ℤ : Adds ℤ
adds_ℤ = record { none = pos 0; plus = ◌+ℤ◌; plus-assoc = add_assoc; plus-comm = add_comm; plus-none = add_zero }

pub nat_assoc : (a b c : ℕ) → (a + b) + c ≡ a + (b + c)
nat_assoc a b c = omega arith

pub nat_comm : (a b : ℕ) → a + b ≡ b + a
nat_comm a b = omega arith

pub nat_zero : (a : ℕ) → a + 0 ≡ a
nat_zero a = omega arith

abbrev pub adds_ℕ : Adds ℕ
adds_ℕ = record { none = 0; plus = ◌+◌; plus-assoc = nat_assoc; plus-comm = nat_comm; plus-none = nat_zero }

-- ---- the orders
abbrev pub order_ℚ : AddsInOrder ℚ adds_ℚ
order_ℚ = record { le = ◌≤ℚ◌; le-trans = ≤ℚ-trans; le-refl = ≤ℚ-refl; le-plus = ≤ℚ-add }

pub int_trans : (a b c : ℤ) → a ≤ℤ b → b ≤ℤ c → a ≤ℤ c
int_trans a b c h k = omega (arith, ints)

pub int_refl : (a : ℤ) → a ≤ℤ a
int_refl a = omega (arith, ints)

pub int_plus : (a b c d : ℤ) → a ≤ℤ b → c ≤ℤ d → (a +ℤ c) ≤ℤ (b +ℤ d)
int_plus a b c d h k = omega (arith, ints)

abbrev pub order_ℤ : AddsInOrder ℤ adds_ℤ
order_ℤ = record { le = ◌≤ℤ◌; le-trans = int_trans; le-refl = int_refl; le-plus = int_plus }
