-- The spread of four whole numbers by Simpson's rule, and how large it is.
use mathlib.Core.Path.{◌≡◌, refl, sym, ap, ◌∙◌, subst}
use mathlib.Core.List.{List, [], ◌∷◌}
use Prim.Native.Nat.{ℕ, zero, suc, ◌+◌, ◌*◌, ◌^◌, ◌≤◌}
use native.Mathlib.Omega.{arith}
use Rattle.std.proofs.Common.{unsigned_abs, slice_index_or, All, to_z, of_z, w64}
use Rattle.std.proofs.Math.Nat.{mul-le-mul}
use Rattle.std.proofs.lemmas.Int.{ints, to_z-of_z}
use lib.IntN.{ℤ, pos, negsuc, ◌+ℤ◌, ◌*ℤ◌}
use lib.Signed.{◌≤ℤ◌}
use Rattle.tb_math.specs.Integers.{square-nonneg}
use Rattle.tb_math.specs.Rational.{int}
use Rattle.tb_math.proofs.ReadRationals.{by_reading, reading}
use Rattle.tb_model.specs.Energy.{spread}
use Rattle.tb_terms.specs.Limits.{IsDifference}
use Rattle.tb_terms.specs.Spread.{corner_spread}

pub square-at_most : (z : ℤ) (most : ℕ) → unsigned_abs z ≤ most → (z *ℤ z) ≤ℤ pos (most * most)
square-at_most (pos n) most h = let k : n * n ≤ most * most = mul-le-mul h h in omega (arith, ints)
square-at_most (negsuc n) most h = let k : suc n * suc n ≤ most * most = mul-le-mul h h in omega (arith, ints)

pub sum-size : (a b : ℤ) (m n : ℕ) → unsigned_abs a ≤ m → unsigned_abs b ≤ n → unsigned_abs (a +ℤ b) ≤ m + n
sum-size a b m n h k = omega (arith, ints)

-- the squares of two numbers and of their sum
abbrev pub simpson : ℤ → ℤ → ℤ
simpson x y = x *ℤ x +ℤ y *ℤ y +ℤ (x +ℤ y) *ℤ (x +ℤ y)

pub simpson-not_below_zero : (x y : ℤ) → pos 0 ≤ℤ simpson x y
simpson-not_below_zero x y = omega (arith, ints, square-nonneg x, square-nonneg y, square-nonneg (x +ℤ y))

pub simpson-at_most : (x y : ℤ) (most : ℕ) → unsigned_abs x ≤ most → unsigned_abs y ≤ most → simpson x y ≤ℤ pos (6 * (most * most))
simpson-at_most x y most h k = omega (arith, ints, square-at_most x most h, square-at_most y most k, square-at_most (x +ℤ y) (most + most) (sum-size x y most most h k))

abbrev pub simpson_twice : ℤ → ℤ → ℤ → ℤ → ℤ
simpson_twice d00 d10 d01 d11 = simpson d00 d10 +ℤ simpson d01 d11 +ℤ simpson (d00 +ℤ d01) (d10 +ℤ d11)

pub simpson-spread : (d00 d10 d01 d11 : ℤ) → int (simpson_twice d00 d10 d01 d11) ≡ spread (int d00) (int d10) (int d01) (int d11)
unfolding spread
simpson-spread d00 d10 d01 d11 = by_reading {atoms = int d00 ∷ int d10 ∷ int d01 ∷ int d11 ∷ []} (search reading depth 40 fits 20000) (search reading depth 40 fits 20000) refl

-- Four values within the limits --

pub difference_at : (d : List ℤ) (k : ℕ) → All IsDifference d → unsigned_abs (slice_index_or d k (pos 0)) ≤ 10 ^ 8
difference_at [] k h = omega arith
difference_at (x ∷ d) zero h = (h 0 (pos 0) (omega arith)).at_most
difference_at (x ∷ d) (suc k) h = difference_at d k (λ j e l. h (suc j) e (omega arith))

abbrev pub at : List ℤ → ℕ → ℤ
at d k = slice_index_or d k (pos 0)

abbrev pub whole_spread : List ℤ → ℤ
whole_spread d = simpson_twice (at d 0) (at d 1) (at d 2) (at d 3)

pub whole_spread-is : (d : List ℤ) → int (whole_spread d) ≡ corner_spread d
whole_spread-is d = simpson-spread (at d 0) (at d 1) (at d 2) (at d 3)

pub whole_spread-not_below_zero : (d : List ℤ) → pos 0 ≤ℤ whole_spread d
whole_spread-not_below_zero d = let x = simpson-not_below_zero (at d 0) (at d 1) in
    let y = simpson-not_below_zero (at d 2) (at d 3) in
    let z = simpson-not_below_zero (at d 0 +ℤ at d 2) (at d 1 +ℤ at d 3) in
    sum-not_below_zero (simpson (at d 0) (at d 1)) (simpson (at d 2) (at d 3)) (simpson (at d 0 +ℤ at d 2) (at d 1 +ℤ at d 3)) x y z
  where
    sum-not_below_zero : (x y z : ℤ) → pos 0 ≤ℤ x → pos 0 ≤ℤ y → pos 0 ≤ℤ z → pos 0 ≤ℤ (x +ℤ y +ℤ z)
    sum-not_below_zero x y z h k l = omega (arith, ints)

pub whole_spread-at_most : (d : List ℤ) → All IsDifference d → whole_spread d ≤ℤ pos (36 * 10 ^ 16)
whole_spread-at_most d h = let x = simpson-at_most (at d 0) (at d 1) (10 ^ 8) (difference_at d 0 h) (difference_at d 1 h) in
    let y = simpson-at_most (at d 2) (at d 3) (10 ^ 8) (difference_at d 2 h) (difference_at d 3 h) in
    let z = simpson-at_most (at d 0 +ℤ at d 2) (at d 1 +ℤ at d 3) (2 * 10 ^ 8) (sum-size (at d 0) (at d 2) (10 ^ 8) (10 ^ 8) (difference_at d 0 h) (difference_at d 2 h)) (sum-size (at d 1) (at d 3) (10 ^ 8) (10 ^ 8) (difference_at d 1 h) (difference_at d 3 h)) in
    sum-at_most (simpson (at d 0) (at d 1)) (simpson (at d 2) (at d 3)) (simpson (at d 0 +ℤ at d 2) (at d 1 +ℤ at d 3)) x y z
  where
    sum-at_most : (x y z : ℤ) → x ≤ℤ pos (6 * 10 ^ 16) → y ≤ℤ pos (6 * 10 ^ 16) → z ≤ℤ pos (24 * 10 ^ 16) → (x +ℤ y +ℤ z) ≤ℤ pos (36 * 10 ^ 16)
    sum-at_most x y z h k l = omega (arith, ints)

-- In 64 bits --

abbrev pub stored : ℤ → ℤ
stored z = to_z w64 (of_z w64 z)

pub stored-is : (z : ℤ) → unsigned_abs z ≤ 2 * 10 ^ 8 → stored z ≡ z
stored-is (pos n) h = to_z-of_z w64 (pos n) (record { sfits = omega arith })
stored-is (negsuc n) h = to_z-of_z w64 (negsuc n) (record { sfits = omega arith })

pub stored_sum-is : (x y : ℤ) → unsigned_abs x ≤ 10 ^ 8 → unsigned_abs y ≤ 10 ^ 8 → stored (stored x +ℤ stored y) ≡ x +ℤ y
stored_sum-is x y h k = ap stored (ap (λ (z : ℤ). z +ℤ stored y) (stored-is x (omega arith)) ∙ ap (λ (z : ℤ). x +ℤ z) (stored-is y (omega arith))) ∙ stored-is (x +ℤ y) (sum-size x y (10 ^ 8) (10 ^ 8) h k)

pub stored_sum-size : (x y : ℤ) → unsigned_abs x ≤ 10 ^ 8 → unsigned_abs y ≤ 10 ^ 8 → unsigned_abs (stored (stored x +ℤ stored y)) ≤ 2 * 10 ^ 8
stored_sum-size x y h k = let s = sum-size x y (10 ^ 8) (10 ^ 8) h k in
    subst (λ (z : ℤ). unsigned_abs z ≤ 2 * 10 ^ 8) (sym (stored_sum-is x y h k)) s

-- the three parts of a spread, as they are computed
pub stored_parts : (d00 d10 d01 d11 : ℤ) (x y z : ℕ) → unsigned_abs d00 ≤ 10 ^ 8 → unsigned_abs d10 ≤ 10 ^ 8 → unsigned_abs d01 ≤ 10 ^ 8 → unsigned_abs d11 ≤ 10 ^ 8
    → pos x ≡ simpson (stored d00) (stored d10) → pos y ≡ simpson (stored d01) (stored d11) → pos z ≡ simpson (stored (stored d00 +ℤ stored d01)) (stored (stored d10 +ℤ stored d11))
    → pos (x + y + z) ≡ simpson_twice d00 d10 d01 d11
stored_parts d00 d10 d01 d11 x y z h00 h10 h01 h11 e f g =
    added x y z (simpson d00 d10) (simpson d01 d11) (simpson (d00 +ℤ d01) (d10 +ℤ d11))
    (e ∙ both (stored-is d00 (omega arith)) (stored-is d10 (omega arith)))
    (f ∙ both (stored-is d01 (omega arith)) (stored-is d11 (omega arith)))
    (g ∙ both (stored_sum-is d00 d01 h00 h01) (stored_sum-is d10 d11 h10 h11))
  where
    both : {a b c d : ℤ} → a ≡ c → b ≡ d → simpson a b ≡ simpson c d
    both {a} {b} {c} {d} e f = ap (λ (x : ℤ). simpson x b) e ∙ ap (simpson c) f

    added : (x y z : ℕ) (p q r : ℤ) → pos x ≡ p → pos y ≡ q → pos z ≡ r → pos (x + y + z) ≡ p +ℤ q +ℤ r
    added x y z p q r e f g = omega (arith, ints)
