-- products of 128 bits
use mathlib.Core.Path.{◌≡◌, sym, ap, ◌∙◌, subst}
use Prim.Native.Nat.{ℕ, ◌*◌, ◌<◌, ◌≤◌, ◌^◌}
use native.Mathlib.Omega.{arith}
use native.Mathlib.Nat.{mul-le-mul}
use Rattle.std.proofs.lemmas.Int.{ints, fits_signed_mul, to_z-of_z, unsigned_abs-mul}
use Rattle.std.specs.Prelude.{unsigned_abs}
use lib.IntN.{ℤ, pos, ◌+ℤ◌, ◌-ℤ◌, ◌*ℤ◌}
use lib.Signed.{◌≤ℤ◌}
use mir.Syntax.{w64, w128}
use mir.Val.{SFits, to_z, of_z}

pub record Product (a b w d : ℤ) (m n : ℕ) : Type 0 where
  pub fits : SFits w128 (a *ℤ b)
  pub value : to_z w128 (of_z w128 (a *ℤ b)) ≡ w *ℤ d
  pub bound : unsigned_abs (to_z w128 (of_z w128 (a *ℤ b))) ≤ m * n

-- a and b are w and d, as the code has them
pub product : (a b w d : ℤ) (m n : ℕ) → a ≡ w → b ≡ d → unsigned_abs w ≤ m → unsigned_abs d ≤ n → m * n < 2 ^ 127 → Product a b w d m n
product a b w d m n e f hw hd l = record { fits = fits; value = value; bound = subst (λ (z : ℤ). unsigned_abs z ≤ m * n) (sym value) (subst (λ (k : ℕ). k ≤ m * n) (sym (unsigned_abs-mul w d)) (mul-le-mul hw hd)) }
  where
    same : a *ℤ b ≡ w *ℤ d
    same = ap (λ (z : ℤ). z *ℤ b) e ∙ ap (λ (z : ℤ). w *ℤ z) f

    fits : SFits w128 (a *ℤ b)
    fits = subst (λ (z : ℤ). SFits w128 z) (sym same) (fits_signed_mul w128 w d m n hw hd l)

    value : to_z w128 (of_z w128 (a *ℤ b)) ≡ w *ℤ d
    value = to_z-of_z w128 (a *ℤ b) fits ∙ same

pub record Doubled (m b : ℤ) : Type 0 where
  pub fits : SFits w128 (pos 2 *ℤ to_z w128 (of_z w128 (m +ℤ to_z w128 (of_z w128 b))))
  pub value : to_z w128 (of_z w128 (pos 2 *ℤ to_z w128 (of_z w128 (m +ℤ to_z w128 (of_z w128 b))))) ≡ pos 2 *ℤ (m +ℤ b)
  pub small : unsigned_abs (to_z w128 (of_z w128 (pos 2 *ℤ to_z w128 (of_z w128 (m +ℤ to_z w128 (of_z w128 b)))))) < 2 ^ 120

pub doubled : (m b : ℤ) → unsigned_abs m ≤ 2 ^ 118 → unsigned_abs b < 2 ^ 110 → Doubled m b
doubled m b h k = record { fits = omega (arith, ints); value = omega (arith, ints); small = omega (arith, ints) }

pub sum_same : (p t : ℤ) → unsigned_abs p ≤ 2 ^ 46 → unsigned_abs t ≤ 2 ^ 48 → to_z w64 (of_z w64 (to_z w64 (of_z w64 p) +ℤ to_z w64 (of_z w64 t))) ≡ p +ℤ t
sum_same p t h k = omega (arith, ints)

pub step_within : (lo hi p t lo' hi' : ℤ) → lo' ≡ lo -ℤ p → hi' ≡ hi -ℤ p → unsigned_abs lo ≤ 2 ^ 46 → unsigned_abs hi ≤ 2 ^ 46 → unsigned_abs p ≤ 2 ^ 46 → lo' ≤ℤ t → t ≤ℤ hi' → unsigned_abs t ≤ 2 ^ 48
step_within lo hi p t lo' hi' e f h k l m n = omega (arith, ints)
