-- A form's energy is a parabola in the change of its values along any direction: each cell and each face is one.
use mathlib.Core.Path.{◌≡◌, refl, ap, ◌∙◌}
use mathlib.Core.List.{[], ◌∷◌}
use Prim.Native.Nat.{ℕ, suc}
use lib.IntN.{ℤ, ◌+ℤ◌, ◌-ℤ◌, ◌*ℤ◌}
use Rattle.tb_math.specs.Sums.{total_ℤ}
use Rattle.tb_math.proofs.ReadIntegers.{by_reading, reading}
use Rattle.tb_places.specs.declared.AxisName.{AxisName}
use Rattle.tb_places.specs.declared.AxisName.TheVariants.{X, Y, Z}
use Rattle.tb_places.specs.Places.{along}
use Rattle.tb_weighted.specs.Least.{parabola}
use Rattle.tb_weighted.specs.Forms.{form, cross, Spread3, cell_part, face_part, cell_slope, face_slope, face_rate, line_sum, axis_sum, Forms, axis_energy, axis_rate, axis_slope, form_energy, form_rate, form_slope}
use Rattle.tb_weighted.proofs.Corners.{corners}
use Rattle.tb_weighted.proofs.Unique.{IsParabola}
use Rattle.tb_weighted.proofs.Local.{total_parabola}

-- values changed by t times u
abbrev pub shift : Spread3 → Spread3 → ℤ → Spread3
shift g u t i j k = g i j k +ℤ t *ℤ u i j k

cell_parabola : (w g u : Spread3) (i j k : ℕ) → IsParabola (λ t. cell_part w (shift g u t) i j k) (cell_part w u i j k) (cell_slope w g u i j k) (cell_part w g i j k)
cell_parabola w g u i j k = record {
  at = λ t. corners (w i j k) (g i j k) (g (suc i) j k) (g i (suc j) k) (g (suc i) (suc j) k) (g i j (suc k)) (g (suc i) j (suc k)) (g i (suc j) (suc k)) (g (suc i) (suc j) (suc k))
      (u i j k) (u (suc i) j k) (u i (suc j) k) (u (suc i) (suc j) k) (u i j (suc k)) (u (suc i) j (suc k)) (u i (suc j) (suc k)) (u (suc i) (suc j) (suc k)) t;
}

face_corners : (s l v0 v1 v2 v3 u0 u1 u2 u3 t : ℤ) → s *ℤ form ((v0 +ℤ t *ℤ u0) -ℤ l) ((v1 +ℤ t *ℤ u1) -ℤ l) ((v2 +ℤ t *ℤ u2) -ℤ l) ((v3 +ℤ t *ℤ u3) -ℤ l)
    ≡ parabola (s *ℤ form u0 u1 u2 u3) (s *ℤ cross (v0 -ℤ l) (v1 -ℤ l) (v2 -ℤ l) (v3 -ℤ l) u0 u1 u2 u3) t +ℤ s *ℤ form (v0 -ℤ l) (v1 -ℤ l) (v2 -ℤ l) (v3 -ℤ l)
face_corners s l v0 v1 v2 v3 u0 u1 u2 u3 t = by_reading {atoms = s ∷ l ∷ v0 ∷ v1 ∷ v2 ∷ v3 ∷ u0 ∷ u1 ∷ u2 ∷ u3 ∷ t ∷ []} (search reading depth 60 fits 100000) (search reading depth 60 fits 100000) refl

face_parabola : (s l g u : Spread3) (i j k : ℕ) → IsParabola (λ t. face_part s l (shift g u t) i j k) (face_rate s u i j k) (face_slope s l g u i j k) (face_part s l g i j k)
face_parabola s l g u i j k = record { at = λ t. face_corners (s i j k) (l i j k) (g i j k) (g i (suc j) k) (g i j (suc k)) (g i (suc j) (suc k)) (u i j k) (u i (suc j) k) (u i j (suc k)) (u i (suc j) (suc k)) t }

plus_at : (a b c a' b' c' t : ℤ) → (parabola a b t +ℤ c) +ℤ (parabola a' b' t +ℤ c') ≡ parabola (a +ℤ a') (b +ℤ b') t +ℤ (c +ℤ c')
plus_at a b c a' b' c' t = by_reading {atoms = a ∷ b ∷ c ∷ a' ∷ b' ∷ c' ∷ t ∷ []} (search reading depth 60 fits 100000) (search reading depth 60 fits 100000) refl

pub plus_parabola : (f g : ℤ → ℤ) (a b c a' b' c' : ℤ) → IsParabola f a b c → IsParabola g a' b' c' → IsParabola (λ t. f t +ℤ g t) (a +ℤ a') (b +ℤ b') (c +ℤ c')
plus_parabola f g a b c a' b' c' h k = record { at = λ t. ap (λ (z : ℤ). z +ℤ g t) (h.at t) ∙ ap (λ (z : ℤ). (parabola a b t +ℤ c) +ℤ z) (k.at t) ∙ plus_at a b c a' b' c' t }

line_parabola : (n : ℕ) (w s l g u : Spread3) (j k : ℕ) → IsParabola (λ t. line_sum n (cell_part w (shift g u t)) (face_part s l (shift g u t)) j k)
    (line_sum n (cell_part w u) (face_rate s u) j k) (line_sum n (cell_slope w g u) (face_slope s l g u) j k) (line_sum n (cell_part w g) (face_part s l g) j k)
line_parabola n w s l g u j k =
    plus_parabola (λ t. total_ℤ n (λ i. cell_part w (shift g u t) i j k)) (λ t. total_ℤ (suc n) (λ i. face_part s l (shift g u t) i j k))
    (total_ℤ n (λ i. cell_part w u i j k)) (total_ℤ n (λ i. cell_slope w g u i j k)) (total_ℤ n (λ i. cell_part w g i j k))
    (total_ℤ (suc n) (λ i. face_rate s u i j k)) (total_ℤ (suc n) (λ i. face_slope s l g u i j k)) (total_ℤ (suc n) (λ i. face_part s l g i j k))
    (total_parabola n (λ i t. cell_part w (shift g u t) i j k) (λ i. cell_part w u i j k) (λ i. cell_slope w g u i j k) (λ i. cell_part w g i j k) (λ i. cell_parabola w g u i j k))
    (total_parabola (suc n) (λ i t. face_part s l (shift g u t) i j k) (λ i. face_rate s u i j k) (λ i. face_slope s l g u i j k) (λ i. face_part s l g i j k) (λ i. face_parabola s l g u i j k))

pub axis_parabola : (n m p : ℕ) (w s l g u : Spread3) → IsParabola (λ t. axis_sum n m p (cell_part w (shift g u t)) (face_part s l (shift g u t)))
    (axis_sum n m p (cell_part w u) (face_rate s u)) (axis_sum n m p (cell_slope w g u) (face_slope s l g u)) (axis_sum n m p (cell_part w g) (face_part s l g))
unfolding axis_sum
axis_parabola n m p w s l g u =
    total_parabola p (λ k t. total_ℤ m (λ j. line_sum n (cell_part w (shift g u t)) (face_part s l (shift g u t)) j k)) (λ k. total_ℤ m (λ j. line_sum n (cell_part w u) (face_rate s u) j k))
    (λ k. total_ℤ m (λ j. line_sum n (cell_slope w g u) (face_slope s l g u) j k)) (λ k. total_ℤ m (λ j. line_sum n (cell_part w g) (face_part s l g) j k))
    (λ k. total_parabola m (λ j t. line_sum n (cell_part w (shift g u t)) (face_part s l (shift g u t)) j k) (λ j. line_sum n (cell_part w u) (face_rate s u) j k)
    (λ j. line_sum n (cell_slope w g u) (face_slope s l g u) j k) (λ j. line_sum n (cell_part w g) (face_part s l g) j k) (λ j. line_parabola n w s l g u j k))

on_axis : (f : Forms) (g u : Spread3) (a : AxisName) → IsParabola (λ t. axis_energy f (shift g u t) a) (axis_rate f u a) (axis_slope f g u a) (axis_energy f g a)
on_axis f g u X = axis_parabola (f.cells X) (f.cells Y) (f.cells Z) (f.cell X) (f.face X) (f.level X) (along X g) (along X u)
on_axis f g u Y = axis_parabola (f.cells Y) (f.cells X) (f.cells Z) (f.cell Y) (f.face Y) (f.level Y) (along Y g) (along Y u)
on_axis f g u Z = axis_parabola (f.cells Z) (f.cells X) (f.cells Y) (f.cell Z) (f.face Z) (f.level Z) (along Z g) (along Z u)

-- the whole energy of values that change along a direction
pub energy_parabola : (f : Forms) (g u : Spread3) → IsParabola (λ t. form_energy f (shift g u t)) (form_rate f u) (form_slope f g u) (form_energy f g)
unfolding form_energy form_rate form_slope
energy_parabola f g u =
    plus_parabola (λ t. axis_energy f (shift g u t) X +ℤ axis_energy f (shift g u t) Y) (λ t. axis_energy f (shift g u t) Z)
    (axis_rate f u X +ℤ axis_rate f u Y) (axis_slope f g u X +ℤ axis_slope f g u Y) (axis_energy f g X +ℤ axis_energy f g Y)
    (axis_rate f u Z) (axis_slope f g u Z) (axis_energy f g Z)
    (plus_parabola (λ t. axis_energy f (shift g u t) X) (λ t. axis_energy f (shift g u t) Y)
    (axis_rate f u X) (axis_slope f g u X) (axis_energy f g X) (axis_rate f u Y) (axis_slope f g u Y) (axis_energy f g Y)
    (on_axis f g u X) (on_axis f g u Y))
    (on_axis f g u Z)
