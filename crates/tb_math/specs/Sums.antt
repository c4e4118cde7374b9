-- Sums over ranges and lists, in any addition `plus` with its zero `z`.
use mathlib.Core.List.{List, [], ◌∷◌}
use Prim.Native.Nat.{ℕ, zero, suc, ◌+◌}
use lib.IntN.{ℤ, pos, ◌+ℤ◌}
use Rattle.tb_math.specs.Rational.{ℚ, int, ◌+ℚ◌}

-- f 0 + f 1 + .. + f (n - 1)
abbrev pub sum_to : {A : Type 0} → A → (A → A → A) → ℕ → (ℕ → A) → A
sum_to z plus zero f = z
sum_to z plus (suc n) f = plus (sum_to z plus n f) (f n)

-- the sum over a list, the first value first
abbrev pub sum_list : {A : Type 0} → A → (A → A → A) → List A → A
sum_list z plus [] = z
sum_list z plus (x ∷ xs) = plus x (sum_list z plus xs)

-- f 0 + f 1 + .. + f (n - 1) in the rational, the whole and the natural numbers
abbrev pub total : ℕ → (ℕ → ℚ) → ℚ
total n f = sum_to (int (pos 0)) ◌+ℚ◌ n f

abbrev pub total_ℤ : ℕ → (ℕ → ℤ) → ℤ
total_ℤ n f = sum_to (pos 0) ◌+ℤ◌ n f

abbrev pub total_ℕ : ℕ → (ℕ → ℕ) → ℕ
total_ℕ n f = sum_to 0 ◌+◌ n f
