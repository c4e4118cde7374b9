-- The inequalities of one axis of a cell and of one surface face, at the terms of a mesh.
use mathlib.Core.Path.{◌≡◌, refl, sym, subst}
use mathlib.Core.List.{[], ◌∷◌}
use Prim.Native.Nat.{ℕ, ◌*◌, ◌<◌}
use native.Mathlib.Omega.{arith}
use lib.IntN.{pos}
use Rattle.tb_math.specs.Rational.{ℚ, int, one_over, ◌+ℚ◌, ◌*ℚ◌, neg_ℚ, ◌≤ℚ◌, ◌<ℚ◌}
use Rattle.tb_math.specs.Division.{inverse, ◌/ℚ◌}
use Rattle.tb_math.proofs.RationalLaws.{int-mul, one_over_cancel}
use Rattle.tb_math.proofs.RationalOrder.{≤ℚ-one_over}
use Rattle.tb_math.proofs.StrictOrder.{<ℚ-≤, <ℚ-int}
use Rattle.tb_math.proofs.DivisionLaws.{inverse-positive, inverse-nonneg, product-is_positive}
use Rattle.tb_math.proofs.ReadRationals.{by_reading, reading}
use Rattle.tb_model.specs.Energy.{spread, passage, cell_energy, cell_loss, surface_energy, surface_loss}
use Rattle.tb_duality.proofs.CellAlgebra.{axis_law, surface_law}
use Rattle.std.proofs.lemmas.Int.{ints}

three_positive : int (pos 0) <ℚ int (pos 3)
three_positive = <ℚ-int (pos 0) (pos 3) (omega (arith, ints))

-- the field term and the flux term of one axis of a cell
pub cell_law : (conductivity width section F0 F1 d00 d10 d01 d11 : ℚ) → int (pos 0) <ℚ conductivity → int (pos 0) <ℚ width → int (pos 0) <ℚ section →
    (F0 +ℚ F1) *ℚ (d00 +ℚ d10 +ℚ d01 +ℚ d11)
    ≤ℚ int (pos 400) *ℚ (cell_energy conductivity width section (spread d00 d10 d01 d11) +ℚ cell_loss conductivity width section (passage F0 F1))
cell_law c a s F0 F1 d00 d10 d01 d11 hc ha hs =
    let hk : int (pos 0) <ℚ int (pos 3) *ℚ s *ℚ c = product-is_positive (int (pos 3) *ℚ s) c (product-is_positive (int (pos 3)) s three_positive hs) hc in
    axis_law c a s (inverse a) (inverse (int (pos 3) *ℚ s *ℚ c)) (one_over 36000000000) F0 F1 d00 d10 d01 d11
    (inverse-nonneg a (<ℚ-≤ (int (pos 0)) a ha)) (inverse-nonneg (int (pos 3) *ℚ s *ℚ c) (<ℚ-≤ (int (pos 0)) (int (pos 3) *ℚ s *ℚ c) hk)) (≤ℚ-one_over 36000000000)
    (inverse-positive a ha) (inverse-positive (int (pos 3) *ℚ s *ℚ c) hk) (one_over_cancel 36000000000 (omega arith))

passage_neg : (F0 F1 : ℚ) → passage (neg_ℚ F0) (neg_ℚ F1) ≡ passage F0 F1
unfolding passage
passage_neg F0 F1 = by_reading {atoms = F0 ∷ F1 ∷ []} (search reading depth 20) (search reading depth 20) refl

pub cell_law_neg : (conductivity width section F0 F1 d00 d10 d01 d11 : ℚ) → int (pos 0) <ℚ conductivity → int (pos 0) <ℚ width → int (pos 0) <ℚ section →
    neg_ℚ ((F0 +ℚ F1) *ℚ (d00 +ℚ d10 +ℚ d01 +ℚ d11))
    ≤ℚ int (pos 400) *ℚ (cell_energy conductivity width section (spread d00 d10 d01 d11) +ℚ cell_loss conductivity width section (passage F0 F1))
cell_law_neg c a s F0 F1 d00 d10 d01 d11 hc ha hs =
    subst (λ (t : ℚ). t ≤ℚ int (pos 400) *ℚ (cell_energy c a s (spread d00 d10 d01 d11) +ℚ cell_loss c a s (passage F0 F1))) (product_neg F0 F1 d00 d10 d01 d11)
    (subst (λ (t : ℚ). (neg_ℚ F0 +ℚ neg_ℚ F1) *ℚ (d00 +ℚ d10 +ℚ d01 +ℚ d11) ≤ℚ int (pos 400) *ℚ (cell_energy c a s (spread d00 d10 d01 d11) +ℚ cell_loss c a s t)) (passage_neg F0 F1)
    (cell_law c a s (neg_ℚ F0) (neg_ℚ F1) d00 d10 d01 d11 hc ha hs))
  where
    product_neg : (F0 F1 d00 d10 d01 d11 : ℚ) → (neg_ℚ F0 +ℚ neg_ℚ F1) *ℚ (d00 +ℚ d10 +ℚ d01 +ℚ d11) ≡ neg_ℚ ((F0 +ℚ F1) *ℚ (d00 +ℚ d10 +ℚ d01 +ℚ d11))
    product_neg F0 F1 d00 d10 d01 d11 = by_reading {atoms = F0 ∷ F1 ∷ d00 ∷ d10 ∷ d01 ∷ d11 ∷ []} (search reading depth 20) (search reading depth 20) refl

-- the field term and the flux term of a surface face
pub face_law : (rs : ℕ) (section F t00 t10 t01 t11 : ℚ) → 0 < rs → int (pos 0) <ℚ section →
    int (pos 2) *ℚ (F *ℚ (t00 +ℚ t10 +ℚ t01 +ℚ t11))
    ≤ℚ int (pos 400) *ℚ (surface_energy rs section (spread t00 t10 t01 t11) +ℚ surface_loss rs section F)
face_law rs s F t00 t10 t01 t11 hr hs =
    subst (λ (z : ℚ). int (pos 2) *ℚ (F *ℚ (t00 +ℚ t10 +ℚ t01 +ℚ t11)) ≤ℚ int (pos 400) *ℚ (surface_energy rs s (spread t00 t10 t01 t11) +ℚ z *ℚ (F *ℚ F) *ℚ inverse s)) (sym (int-mul (pos 10) (pos rs)))
    (surface_law s (one_over rs) (inverse s) (one_over 3600000) (int (pos rs)) F t00 t10 t01 t11
    (<ℚ-≤ (int (pos 0)) s hs) (≤ℚ-one_over rs) (≤ℚ-one_over 3600000)
    (one_over_cancel rs hr) (inverse-positive s hs) (one_over_cancel 3600000 (omega arith)))

-- the same with any flow of the same size, so with either sign
pub face_law_signed : (rs : ℕ) (section F G t00 t10 t01 t11 : ℚ) → 0 < rs → int (pos 0) <ℚ section → G *ℚ G ≡ F *ℚ F →
    int (pos 2) *ℚ (G *ℚ (t00 +ℚ t10 +ℚ t01 +ℚ t11))
    ≤ℚ int (pos 400) *ℚ (surface_energy rs section (spread t00 t10 t01 t11) +ℚ surface_loss rs section F)
face_law_signed rs s F G t00 t10 t01 t11 hr hs same =
    subst (λ (z : ℚ). int (pos 2) *ℚ (G *ℚ (t00 +ℚ t10 +ℚ t01 +ℚ t11)) ≤ℚ int (pos 400) *ℚ (surface_energy rs s (spread t00 t10 t01 t11) +ℚ int (pos (10 * rs)) *ℚ z /ℚ s)) same (face_law rs s G t00 t10 t01 t11 hr hs)
