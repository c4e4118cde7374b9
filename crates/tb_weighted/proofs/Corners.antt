-- the same for a cell of eight corners: the form M of the four differences along an axis
use mathlib.Core.Path.{◌≡◌, refl}
use mathlib.Core.List.{[], ◌∷◌}
use lib.IntN.{ℤ, pos, ◌+ℤ◌, ◌-ℤ◌, ◌*ℤ◌}
use Rattle.tb_math.proofs.ReadIntegers.{by_reading, reading}
use Rattle.tb_weighted.specs.Least.{parabola}
use Rattle.tb_weighted.specs.Forms.{form, cross}

-- eight corners v with a change t * u at each
pub corners : (w v0 v1 v2 v3 v4 v5 v6 v7 u0 u1 u2 u3 u4 u5 u6 u7 t : ℤ)
    → w *ℤ form ((v1 +ℤ t *ℤ u1) -ℤ (v0 +ℤ t *ℤ u0)) ((v3 +ℤ t *ℤ u3) -ℤ (v2 +ℤ t *ℤ u2)) ((v5 +ℤ t *ℤ u5) -ℤ (v4 +ℤ t *ℤ u4)) ((v7 +ℤ t *ℤ u7) -ℤ (v6 +ℤ t *ℤ u6))
    ≡ parabola (w *ℤ form (u1 -ℤ u0) (u3 -ℤ u2) (u5 -ℤ u4) (u7 -ℤ u6)) (w *ℤ cross (v1 -ℤ v0) (v3 -ℤ v2) (v5 -ℤ v4) (v7 -ℤ v6) (u1 -ℤ u0) (u3 -ℤ u2) (u5 -ℤ u4) (u7 -ℤ u6)) t
    +ℤ w *ℤ form (v1 -ℤ v0) (v3 -ℤ v2) (v5 -ℤ v4) (v7 -ℤ v6)
corners w v0 v1 v2 v3 v4 v5 v6 v7 u0 u1 u2 u3 u4 u5 u6 u7 t =
    by_reading {atoms = w ∷ v0 ∷ v1 ∷ v2 ∷ v3 ∷ v4 ∷ v5 ∷ v6 ∷ v7 ∷ u0 ∷ u1 ∷ u2 ∷ u3 ∷ u4 ∷ u5 ∷ u6 ∷ u7 ∷ t ∷ []} (search reading depth 60 fits 100000) (search reading depth 60 fits 100000) refl

-- in two steps: first along the differences (ten variables), then each difference
pub four : (w a b c d a' b' c' d' t : ℤ)
    → w *ℤ form (a +ℤ t *ℤ a') (b +ℤ t *ℤ b') (c +ℤ t *ℤ c') (d +ℤ t *ℤ d') ≡ parabola (w *ℤ form a' b' c' d') (w *ℤ cross a b c d a' b' c' d') t +ℤ w *ℤ form a b c d
four w a b c d a' b' c' d' t = by_reading {atoms = w ∷ a ∷ b ∷ c ∷ d ∷ a' ∷ b' ∷ c' ∷ d' ∷ t ∷ []} (search reading depth 60 fits 100000) (search reading depth 60 fits 100000) refl

pub flux : (v f g u u' t : ℤ) → v *ℤ ((f +ℤ t *ℤ u) *ℤ (f +ℤ t *ℤ u) +ℤ (f +ℤ t *ℤ u) *ℤ (g +ℤ t *ℤ u') +ℤ (g +ℤ t *ℤ u') *ℤ (g +ℤ t *ℤ u'))
    ≡ parabola (v *ℤ (u *ℤ u +ℤ u *ℤ u' +ℤ u' *ℤ u')) (v *ℤ (u *ℤ (pos 2 *ℤ f +ℤ g) +ℤ u' *ℤ (f +ℤ pos 2 *ℤ g))) t +ℤ v *ℤ (f *ℤ f +ℤ f *ℤ g +ℤ g *ℤ g)
flux v f g u u' t = by_reading {atoms = v ∷ f ∷ g ∷ u ∷ u' ∷ t ∷ []} (search reading depth 60 fits 100000) (search reading depth 60 fits 100000) refl
