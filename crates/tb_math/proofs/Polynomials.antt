-- Polynomial expressions with whole coefficients, and their normal form: sums of monomials in a fixed order of the variables.
-- All of it computes, so that `refl` decides whether an expression is zero everywhere. `Rings` proves that this is sound in any commutative ring.
use mathlib.Core.Bool.{Bool, true, false}
use Prim.Native.Nat.{ℕ, zero, suc, compare, Ordering}
use lib.IntN.{ℤ, pos, negsuc, ◌+ℤ◌, ◌*ℤ◌}

infixl 6 ◌⊕◌ ◌⊖◌
infixl 7 ◌⊗◌
-- expressions, as one writes them
pub data Expression : Type 0 where
  var : ℕ → Expression
  con : ℤ → Expression
  ◌⊕◌ : Expression → Expression → Expression
  ◌⊖◌ : Expression → Expression → Expression
  ◌⊗◌ : Expression → Expression → Expression
  neg : Expression → Expression

-- `node v p q` is x_v * p + q
pub data Polynomial : Type 0 where
  lit : ℤ → Polynomial
  node : ℕ → Polynomial → Polynomial → Polynomial

abbrev pub add_lit : ℤ → Polynomial → Polynomial
add_lit a (lit b) = lit (a +ℤ b)
add_lit a (node v p q) = node v p (add_lit a q)

abbrev pub merge : (Polynomial → Polynomial) → (Polynomial → Polynomial) → ℕ → Polynomial → Polynomial → Polynomial → Polynomial
merge f g v p q (lit b) = node v p (g (lit b))
merge f g v p q (node w r s) = elim (compare v w) [
  | Ordering.lt ↦ node v p (g (node w r s))
  | Ordering.eq ↦ node v (f r) (g s)
  | Ordering.gt ↦ node w r (merge f g v p q s)
]

abbrev pub add : Polynomial → Polynomial → Polynomial
add (lit a) y = add_lit a y
add (node v p q) y = merge (add p) (add q) v p q y

abbrev pub times_var : ℕ → Polynomial → Polynomial
times_var v (lit a) = node v (lit a) (lit (pos 0))
times_var v (node w r s) = elim (compare v w) [
  | Ordering.lt ↦ node v (node w r s) (lit (pos 0))
  | Ordering.eq ↦ node v (node w r s) (lit (pos 0))
  | Ordering.gt ↦ node w (times_var v r) (times_var v s)
]

abbrev pub scale : ℤ → Polynomial → Polynomial
scale a (lit b) = lit (a *ℤ b)
scale a (node v p q) = node v (scale a p) (scale a q)

abbrev pub mul : Polynomial → Polynomial → Polynomial
mul (lit a) y = scale a y
mul (node v p q) y = add (times_var v (mul p y)) (mul q y)

abbrev pub norm : Expression → Polynomial
norm (var i) = node i (lit (pos 1)) (lit (pos 0))
norm (con c) = lit c
norm (a ⊕ b) = add (norm a) (norm b)
norm (a ⊖ b) = add (norm a) (scale (negsuc 0) (norm b))
norm (a ⊗ b) = mul (norm a) (norm b)
norm (neg a) = scale (negsuc 0) (norm a)

abbrev pub is_zero : ℤ → Bool
is_zero (pos zero) = true
is_zero (pos (suc n)) = false
is_zero (negsuc n) = false

abbrev pub all_zero : Polynomial → Bool
all_zero (lit a) = is_zero a
all_zero (node v p q) = elim (all_zero p) [ true ↦ all_zero q | false ↦ false ]
