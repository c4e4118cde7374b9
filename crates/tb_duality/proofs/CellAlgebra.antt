-- The inequalities of one axis of a cell and of one surface face, over plain variables: weak duality's two squares.
--
-- The spread of four values is at least 9/4 of the square of their sum, and the passage of two at least 3/4 of
-- the square of theirs. What is left is 2xy ≤ x² + y². The inverses are variables with their equations.
use mathlib.Core.Path.{◌≡◌, refl}
use mathlib.Core.Bool.{true}
use mathlib.Core.List.{[], ◌∷◌}
use Prim.Native.Nat.{ℕ}
use lib.IntN.{pos}
use Rattle.tb_math.specs.Rational.{ℚ, ◌+ℚ◌, ◌-ℚ◌, ◌*ℚ◌, int, ◌≤ℚ◌}
use Rattle.tb_math.specs.Integers.{pos-nonneg}
use Rattle.tb_math.proofs.RationalOrder.{≤ℚ-mul_nonneg, ≤ℚ-int}
use Rattle.tb_math.proofs.ReadRationals.{by_squares, reading, none, given, nil, square}
use Rattle.tb_model.specs.Energy.{spread, passage}

-- a numeral times what is not negative
scaled : (n : ℕ) (p : ℚ) → int (pos 0) ≤ℚ p → int (pos 0) ≤ℚ int (pos n) *ℚ p
scaled n p h = ≤ℚ-mul_nonneg (int (pos n)) p (≤ℚ-int (pos 0) (pos n) (pos-nonneg n)) h

-- One axis of a cell of conductivity c, width a and section s, with v = 1/a, w = 1/(3sc) and g = 1/(36·10⁹):
-- flux times difference is at most 400 times the energy and the loss.
pub axis_law : (c a s v w g F0 F1 d00 d10 d01 d11 : ℚ) → int (pos 0) ≤ℚ v → int (pos 0) ≤ℚ w → int (pos 0) ≤ℚ g →
    a *ℚ v ≡ int (pos 1) → int (pos 3) *ℚ s *ℚ c *ℚ w ≡ int (pos 1) → int (pos 36000000000) *ℚ g ≡ int (pos 1) →
    (F0 +ℚ F1) *ℚ (d00 +ℚ d10 +ℚ d01 +ℚ d11)
    ≤ℚ int (pos 400) *ℚ (c *ℚ s *ℚ v *ℚ spread d00 d10 d01 d11 *ℚ g +ℚ a *ℚ passage F0 F1 *ℚ int (pos 100000) *ℚ w)
unfolding spread passage
axis_law c a s v w g F0 F1 d00 d10 d01 d11 hv hw hg ev ew eg =
    let positive : int (pos 0) ≤ℚ g *ℚ v *ℚ w = ≤ℚ-mul_nonneg (g *ℚ v) w (≤ℚ-mul_nonneg g v hg hv) hw in
    by_squares {atoms = c ∷ a ∷ s ∷ v ∷ w ∷ g ∷ F0 ∷ F1 ∷ d00 ∷ d10 ∷ d01 ∷ d11 ∷ []} (search reading depth 60 fits 100000) (search reading depth 60 fits 100000)
    (square (int (pos 300) *ℚ (g *ℚ v *ℚ w)) (int (pos 3) *ℚ (c *ℚ s) *ℚ (d00 +ℚ d10 +ℚ d01 +ℚ d11) -ℚ int (pos 60000000) *ℚ a *ℚ (F0 +ℚ F1)) (search reading depth 60 fits 100000) (search reading depth 60 fits 100000) (scaled 300 (g *ℚ v *ℚ w) positive)
    (square (int (pos 900) *ℚ (g *ℚ v *ℚ w)) (c *ℚ s *ℚ (d00 -ℚ d10 +ℚ d01 -ℚ d11)) (search reading depth 60 fits 100000) (search reading depth 60 fits 100000) (scaled 900 (g *ℚ v *ℚ w) positive)
    (square (int (pos 900) *ℚ (g *ℚ v *ℚ w)) (c *ℚ s *ℚ (d00 +ℚ d10 -ℚ d01 -ℚ d11)) (search reading depth 60 fits 100000) (search reading depth 60 fits 100000) (scaled 900 (g *ℚ v *ℚ w) positive)
    (square (int (pos 300) *ℚ (g *ℚ v *ℚ w)) (c *ℚ s *ℚ (d00 -ℚ d10 -ℚ d01 +ℚ d11)) (search reading depth 60 fits 100000) (search reading depth 60 fits 100000) (scaled 300 (g *ℚ v *ℚ w) positive)
    (square (int (pos 360000000000000000) *ℚ (g *ℚ v *ℚ w)) (a *ℚ (F0 -ℚ F1)) (search reading depth 60 fits 100000) (search reading depth 60 fits 100000) (scaled 360000000000000000 (g *ℚ v *ℚ w) positive) nil)))))
    (given ((F0 +ℚ F1) *ℚ (d00 +ℚ d10 +ℚ d01 +ℚ d11) *ℚ (int (pos 36000000000) *ℚ g *ℚ v *ℚ a) -ℚ int (pos 400) *ℚ (c *ℚ s *ℚ v *ℚ g) *ℚ spread d00 d10 d01 d11) (int (pos 3) *ℚ s *ℚ c *ℚ w) (int (pos 1)) (search reading depth 60 fits 100000) (search reading depth 60 fits 100000) (search reading depth 60 fits 100000) ew
    (given (int (pos 36000000000) *ℚ g *ℚ ((F0 +ℚ F1) *ℚ (d00 +ℚ d10 +ℚ d01 +ℚ d11) -ℚ int (pos 40000000) *ℚ (a *ℚ passage F0 F1 *ℚ w))) (a *ℚ v) (int (pos 1)) (search reading depth 60 fits 100000) (search reading depth 60 fits 100000) (search reading depth 60 fits 100000) ev
    (given ((F0 +ℚ F1) *ℚ (d00 +ℚ d10 +ℚ d01 +ℚ d11) -ℚ int (pos 40000000) *ℚ (a *ℚ passage F0 F1 *ℚ w)) (int (pos 36000000000) *ℚ g) (int (pos 1)) (search reading depth 60 fits 100000) (search reading depth 60 fits 100000) (search reading depth 60 fits 100000) eg none))) (refl {a = true})

-- A surface face of section s and resistance r, with u = 1/r, w = 1/s and g = 1/(36·10⁵): twice flux times
-- difference is at most 400 times the energy and the loss.
pub surface_law : (s u w g r F t00 t10 t01 t11 : ℚ) → int (pos 0) ≤ℚ s → int (pos 0) ≤ℚ u → int (pos 0) ≤ℚ g →
    r *ℚ u ≡ int (pos 1) → s *ℚ w ≡ int (pos 1) → int (pos 3600000) *ℚ g ≡ int (pos 1) →
    int (pos 2) *ℚ (F *ℚ (t00 +ℚ t10 +ℚ t01 +ℚ t11))
    ≤ℚ int (pos 400) *ℚ (s *ℚ u *ℚ spread t00 t10 t01 t11 *ℚ g +ℚ int (pos 10) *ℚ r *ℚ (F *ℚ F) *ℚ w)
unfolding spread
surface_law s u w g r F t00 t10 t01 t11 hs hu hg eu ew eg =
    let positive : int (pos 0) ≤ℚ s *ℚ u *ℚ g = ≤ℚ-mul_nonneg (s *ℚ u) g (≤ℚ-mul_nonneg s u hs hu) hg in
    by_squares {atoms = s ∷ u ∷ w ∷ g ∷ r ∷ F ∷ t00 ∷ t10 ∷ t01 ∷ t11 ∷ []} (search reading depth 60 fits 100000) (search reading depth 60 fits 100000)
    (square (int (pos 900) *ℚ (s *ℚ u *ℚ g)) ((t00 +ℚ t10 +ℚ t01 +ℚ t11) -ℚ int (pos 4000) *ℚ r *ℚ w *ℚ F) (search reading depth 60 fits 100000) (search reading depth 60 fits 100000) (scaled 900 (s *ℚ u *ℚ g) positive)
    (square (int (pos 300) *ℚ (s *ℚ u *ℚ g)) (t00 -ℚ t10 +ℚ t01 -ℚ t11) (search reading depth 60 fits 100000) (search reading depth 60 fits 100000) (scaled 300 (s *ℚ u *ℚ g) positive)
    (square (int (pos 300) *ℚ (s *ℚ u *ℚ g)) (t00 +ℚ t10 -ℚ t01 -ℚ t11) (search reading depth 60 fits 100000) (search reading depth 60 fits 100000) (scaled 300 (s *ℚ u *ℚ g) positive)
    (square (int (pos 100) *ℚ (s *ℚ u *ℚ g)) (t00 -ℚ t10 -ℚ t01 +ℚ t11) (search reading depth 60 fits 100000) (search reading depth 60 fits 100000) (scaled 100 (s *ℚ u *ℚ g) positive) nil))))
    (given ((F *ℚ (int (pos 2) *ℚ (t00 +ℚ t10 +ℚ t01 +ℚ t11) -ℚ int (pos 4000) *ℚ r *ℚ w *ℚ F)) *ℚ (int (pos 3600000) *ℚ g *ℚ s *ℚ w)) (r *ℚ u) (int (pos 1)) (search reading depth 60 fits 100000) (search reading depth 60 fits 100000) (search reading depth 60 fits 100000) eu
    (given ((F *ℚ (int (pos 2) *ℚ (t00 +ℚ t10 +ℚ t01 +ℚ t11) -ℚ int (pos 4000) *ℚ r *ℚ w *ℚ F)) *ℚ (int (pos 3600000) *ℚ g)) (s *ℚ w) (int (pos 1)) (search reading depth 60 fits 100000) (search reading depth 60 fits 100000) (search reading depth 60 fits 100000) ew
    (given (F *ℚ (int (pos 2) *ℚ (t00 +ℚ t10 +ℚ t01 +ℚ t11) -ℚ int (pos 4000) *ℚ r *ℚ w *ℚ F)) (int (pos 3600000) *ℚ g) (int (pos 1)) (search reading depth 60 fits 100000) (search reading depth 60 fits 100000) (search reading depth 60 fits 100000) eg none))) (refl {a = true})
