-- The laws of one cell and of one surface face, in mean values.
use mathlib.Core.Path.{◌≡◌, refl, subst}
use mathlib.Core.List.{[], ◌∷◌}
use Prim.Native.Nat.{ℕ, suc, ◌<◌}
use native.Mathlib.Omega.{arith}
use lib.IntN.{pos}
use Rattle.std.specs.Prelude.{Bool, true, false}
use Rattle.tb_math.specs.Rational.{ℚ, int, one_over, ◌+ℚ◌, ◌-ℚ◌, ◌*ℚ◌, neg_ℚ, ◌≤ℚ◌, ◌<ℚ◌}
use Rattle.tb_math.proofs.RationalLaws.{one_over_cancel}
use Rattle.tb_math.proofs.RationalOrder.{≤ℚ-one_over}
use Rattle.tb_math.proofs.RationalProducts.{≤ℚ-mul}
use Rattle.tb_math.proofs.ReadRationals.{by_reading, by_given, reading, none, given}
use Rattle.tb_places.specs.declared.AxisName.{AxisName}
use Rattle.tb_places.specs.declared.AxisName.TheVariants.{X, Y, Z}
use Rattle.tb_places.specs.Places.{along}
use Rattle.tb_model.specs.Mesh.{Mesh, cross_section}
use Rattle.tb_model.specs.Energy.{Case, Field, Flux, outflow, boundary, field_terms, flux_terms}
use Rattle.tb_duality.specs.MeanValues.{face_temperature, mean_difference, mean_flow, carried_off, entering}
use Rattle.tb_duality.proofs.Corners.{corner_sum, corners_are}
use Rattle.tb_duality.proofs.Leaks.{weighted}
use Rattle.tb_duality.proofs.Terms.{cell_law, cell_law_neg, face_law_signed}

half : int (pos 2) *ℚ one_over 2 ≡ int (pos 1)
half = one_over_cancel 2 (omega arith)

quarter : int (pos 4) *ℚ one_over 4 ≡ int (pos 1)
quarter = one_over_cancel 4 (omega arith)

-- One axis of a cell, with the mean of its eight corners: what is carried off is the product of the means and
-- what leaves the cell along the axis times the temperature of the cell.
axis_part : (h f w F0 F1 l00 l10 l01 l11 h00 h10 h01 h11 : ℚ) → int (pos 2) *ℚ h ≡ int (pos 1) → w ≡ (l00 +ℚ l10 +ℚ l01 +ℚ l11) +ℚ (h00 +ℚ h10 +ℚ h01 +ℚ h11) →
    F1 *ℚ (f *ℚ (h00 +ℚ h10 +ℚ h01 +ℚ h11)) -ℚ F0 *ℚ (f *ℚ (l00 +ℚ l10 +ℚ l01 +ℚ l11))
    ≡ h *ℚ (F0 +ℚ F1) *ℚ (f *ℚ ((h00 -ℚ l00) +ℚ (h10 -ℚ l10) +ℚ (h01 -ℚ l01) +ℚ (h11 -ℚ l11))) +ℚ (F1 -ℚ F0) *ℚ (h *ℚ f *ℚ w)
axis_part h f w F0 F1 l00 l10 l01 l11 h00 h10 h01 h11 e is = by_given {atoms = h ∷ f ∷ w ∷ F0 ∷ F1 ∷ l00 ∷ l10 ∷ l01 ∷ l11 ∷ h00 ∷ h10 ∷ h01 ∷ h11 ∷ []} (search reading depth 60 fits 100000) (search reading depth 60 fits 100000)
    (given ((F0 -ℚ F1) *ℚ (h *ℚ f)) w ((l00 +ℚ l10 +ℚ l01 +ℚ l11) +ℚ (h00 +ℚ h10 +ℚ h01 +ℚ h11)) (search reading depth 20) (search reading) (search reading depth 20) is
    (given (f *ℚ (F0 *ℚ (l00 +ℚ l10 +ℚ l01 +ℚ l11) -ℚ F1 *ℚ (h00 +ℚ h10 +ℚ h01 +ℚ h11))) (int (pos 2) *ℚ h) (int (pos 1)) (search reading depth 20) (search reading) (search reading) e none)) refl

axis_carries : (T : Field) (q : Flux) (a : AxisName) (i j k : ℕ) →
    carried_off T q a i j k ≡ mean_flow q a i j k *ℚ mean_difference T a i j k +ℚ (along a (q a) (suc i) j k -ℚ along a (q a) i j k) *ℚ (one_over 2 *ℚ one_over 4 *ℚ along a (corner_sum T) i j k)
axis_carries T q a i j k = axis_part (one_over 2) (one_over 4) (along a (corner_sum T) i j k) (along a (q a) i j k) (along a (q a) (suc i) j k)
    (along a T i j k) (along a T i (suc j) k) (along a T i j (suc k)) (along a T i (suc j) (suc k))
    (along a T (suc i) j k) (along a T (suc i) (suc j) k) (along a T (suc i) j (suc k)) (along a T (suc i) (suc j) (suc k))
    half (corners_are T a i j k)

pub cell_carries : (T : Field) (q : Flux) (i j k : ℕ) → outflow q i j k ≡ int (pos 0) →
    carried_off T q X i j k +ℚ carried_off T q Y j i k +ℚ carried_off T q Z k i j
    ≡ mean_flow q X i j k *ℚ mean_difference T X i j k +ℚ mean_flow q Y j i k *ℚ mean_difference T Y j i k +ℚ mean_flow q Z k i j *ℚ mean_difference T Z k i j
cell_carries T q i j k balanced = gathered _ _ _ _ _ _ _ _ _ (axis_carries T q X i j k) (axis_carries T q Y j i k) (axis_carries T q Z k i j)
    (weighted (q X (suc i) j k -ℚ q X i j k) (q Y i (suc j) k -ℚ q Y i j k) (q Z i j (suc k) -ℚ q Z i j k) (one_over 2 *ℚ one_over 4 *ℚ corner_sum T i j k) balanced)
  where
    gathered : (x y z p q r u v w : ℚ) → x ≡ p +ℚ u → y ≡ q +ℚ v → z ≡ r +ℚ w → u +ℚ v +ℚ w ≡ int (pos 0) → x +ℚ y +ℚ z ≡ p +ℚ q +ℚ r
    gathered x y z p q r u v w ex ey ez e = by_given {atoms = x ∷ y ∷ z ∷ p ∷ q ∷ r ∷ u ∷ v ∷ w ∷ []} (search reading depth 20) (search reading depth 20)
        (given (int (pos 1)) x (p +ℚ u) (search reading) (search reading) (search reading) ex
        (given (int (pos 1)) y (q +ℚ v) (search reading) (search reading) (search reading) ey
        (given (int (pos 1)) z (r +ℚ w) (search reading) (search reading) (search reading) ez
        (given (int (pos 1)) (u +ℚ v +ℚ w) (int (pos 0)) (search reading) (search reading depth 20) (search reading) e none)))) refl

-- 400 times a bound of one number bounds its quarter 100 times
quartered : (z B : ℚ) → z ≤ℚ int (pos 400) *ℚ B → one_over 4 *ℚ z ≤ℚ int (pos 100) *ℚ B
quartered z B h = subst (λ (t : ℚ). one_over 4 *ℚ z ≤ℚ t) (hundred (one_over 4) B quarter) (≤ℚ-mul (one_over 4) z (int (pos 400) *ℚ B) (≤ℚ-one_over 4) h)
  where
    hundred : (f B : ℚ) → int (pos 4) *ℚ f ≡ int (pos 1) → f *ℚ (int (pos 400) *ℚ B) ≡ int (pos 100) *ℚ B
    hundred f B e = by_given {atoms = f ∷ B ∷ []} (search reading) (search reading) (given (int (pos 100) *ℚ B) (int (pos 4) *ℚ f) (int (pos 1)) (search reading) (search reading) (search reading) e none) refl

product_of_means : (h f x y : ℚ) → int (pos 2) *ℚ h ≡ int (pos 1) → f *ℚ (x *ℚ y) ≡ int (pos 2) *ℚ (h *ℚ x *ℚ (f *ℚ y))
product_of_means h f x y e = by_given {atoms = h ∷ f ∷ x ∷ y ∷ []} (search reading depth 20) (search reading depth 20)
    (given (neg_ℚ (f *ℚ (x *ℚ y))) (int (pos 2) *ℚ h) (int (pos 1)) (search reading depth 20) (search reading) (search reading) e none) refl

product_of_means_neg : (h f x y : ℚ) → int (pos 2) *ℚ h ≡ int (pos 1) → f *ℚ neg_ℚ (x *ℚ y) ≡ int (pos 2) *ℚ neg_ℚ (h *ℚ x *ℚ (f *ℚ y))
product_of_means_neg h f x y e = by_given {atoms = h ∷ f ∷ x ∷ y ∷ []} (search reading depth 20) (search reading depth 20)
    (given (f *ℚ (x *ℚ y)) (int (pos 2) *ℚ h) (int (pos 1)) (search reading depth 20) (search reading) (search reading) e none) refl

-- what the two terms of an axis of a cell add up to
abbrev pub cell_terms : Mesh → Case → Field → Flux → AxisName → ℕ → ℕ → ℕ → ℚ → ℚ
cell_terms m inside T q a i j k conductivity = (field_terms m inside T).cell a i j k conductivity +ℚ (flux_terms m q).cell a i j k conductivity

pub axis_above : (m : Mesh) (inside : Case) (T : Field) (q : Flux) (a : AxisName) (i j k : ℕ) (conductivity : ℚ) → int (pos 0) <ℚ conductivity → int (pos 0) <ℚ m.width a i → int (pos 0) <ℚ cross_section m a j k →
    int (pos 2) *ℚ (mean_flow q a i j k *ℚ mean_difference T a i j k) ≤ℚ int (pos 100) *ℚ cell_terms m inside T q a i j k conductivity
axis_above m inside T q a i j k c hc hw hs =
    subst (λ (t : ℚ). t ≤ℚ int (pos 100) *ℚ cell_terms m inside T q a i j k c) (product_of_means (one_over 2) (one_over 4) _ _ half)
    (quartered _ (cell_terms m inside T q a i j k c) (cell_law c (m.width a i) (cross_section m a j k) (along a (q a) i j k) (along a (q a) (suc i) j k)
    (along a T (suc i) j k -ℚ along a T i j k) (along a T (suc i) (suc j) k -ℚ along a T i (suc j) k) (along a T (suc i) j (suc k) -ℚ along a T i j (suc k)) (along a T (suc i) (suc j) (suc k) -ℚ along a T i (suc j) (suc k)) hc hw hs))

pub axis_below : (m : Mesh) (inside : Case) (T : Field) (q : Flux) (a : AxisName) (i j k : ℕ) (conductivity : ℚ) → int (pos 0) <ℚ conductivity → int (pos 0) <ℚ m.width a i → int (pos 0) <ℚ cross_section m a j k →
    int (pos 2) *ℚ neg_ℚ (mean_flow q a i j k *ℚ mean_difference T a i j k) ≤ℚ int (pos 100) *ℚ cell_terms m inside T q a i j k conductivity
axis_below m inside T q a i j k c hc hw hs =
    subst (λ (t : ℚ). t ≤ℚ int (pos 100) *ℚ cell_terms m inside T q a i j k c) (product_of_means_neg (one_over 2) (one_over 4) _ _ half)
    (quartered _ (cell_terms m inside T q a i j k c) (cell_law_neg c (m.width a i) (cross_section m a j k) (along a (q a) i j k) (along a (q a) (suc i) j k)
    (along a T (suc i) j k -ℚ along a T i j k) (along a T (suc i) (suc j) k -ℚ along a T i (suc j) k) (along a T (suc i) j (suc k) -ℚ along a T i j (suc k)) (along a T (suc i) (suc j) (suc k) -ℚ along a T i (suc j) (suc k)) hc hw hs))

-- what the two terms of a surface face add up to
abbrev pub face_terms : Mesh → Case → Field → Flux → AxisName → ℕ → ℕ → ℕ → ℕ → ℕ → Bool → ℚ
face_terms m inside T q a i j k e rs low = (field_terms m inside T).surface a i j k e rs low +ℚ (flux_terms m q).surface a i j k e rs low

excess_in : (f F b t00 t10 t01 t11 : ℚ) → int (pos 4) *ℚ f ≡ int (pos 1) → f *ℚ (int (pos 2) *ℚ (neg_ℚ F *ℚ ((t00 -ℚ b) +ℚ (t10 -ℚ b) +ℚ (t01 -ℚ b) +ℚ (t11 -ℚ b)))) ≡ int (pos 2) *ℚ (F *ℚ (b -ℚ f *ℚ (t00 +ℚ t10 +ℚ t01 +ℚ t11)))
excess_in f F b t00 t10 t01 t11 e = by_given {atoms = f ∷ F ∷ b ∷ t00 ∷ t10 ∷ t01 ∷ t11 ∷ []} (search reading depth 20) (search reading depth 20)
    (given (int (pos 2) *ℚ (F *ℚ b)) (int (pos 4) *ℚ f) (int (pos 1)) (search reading) (search reading) (search reading) e none) refl

excess_out : (f F b t00 t10 t01 t11 : ℚ) → int (pos 4) *ℚ f ≡ int (pos 1) → f *ℚ (int (pos 2) *ℚ (F *ℚ ((t00 -ℚ b) +ℚ (t10 -ℚ b) +ℚ (t01 -ℚ b) +ℚ (t11 -ℚ b)))) ≡ int (pos 2) *ℚ (neg_ℚ F *ℚ (b -ℚ f *ℚ (t00 +ℚ t10 +ℚ t01 +ℚ t11)))
excess_out f F b t00 t10 t01 t11 e = by_given {atoms = f ∷ F ∷ b ∷ t00 ∷ t10 ∷ t01 ∷ t11 ∷ []} (search reading depth 20) (search reading depth 20)
    (given (neg_ℚ (int (pos 2) *ℚ (F *ℚ b))) (int (pos 4) *ℚ f) (int (pos 1)) (search reading) (search reading) (search reading) e none) refl

pub surface_bounds : (m : Mesh) (inside : Case) (T : Field) (q : Flux) (a : AxisName) (i j k e rs : ℕ) (low : Bool) → 0 < rs → int (pos 0) <ℚ cross_section m a j k →
    int (pos 2) *ℚ (entering (along a (q a) i j k) low *ℚ (boundary inside e -ℚ face_temperature T a i j k)) ≤ℚ int (pos 100) *ℚ face_terms m inside T q a i j k e rs low
surface_bounds m inside T q a i j k e rs low hr hs = by_side low
  where
    law : (G : ℚ) → G *ℚ G ≡ along a (q a) i j k *ℚ along a (q a) i j k →
        one_over 4 *ℚ (int (pos 2) *ℚ (G *ℚ ((along a T i j k -ℚ boundary inside e) +ℚ (along a T i (suc j) k -ℚ boundary inside e) +ℚ (along a T i j (suc k) -ℚ boundary inside e) +ℚ (along a T i (suc j) (suc k) -ℚ boundary inside e)))) ≤ℚ int (pos 100) *ℚ face_terms m inside T q a i j k e rs low
    law G same = quartered _ (face_terms m inside T q a i j k e rs low) (face_law_signed rs (cross_section m a j k) (along a (q a) i j k) G (along a T i j k -ℚ boundary inside e) (along a T i (suc j) k -ℚ boundary inside e) (along a T i j (suc k) -ℚ boundary inside e) (along a T i (suc j) (suc k) -ℚ boundary inside e) hr hs same)

    square_neg : (F : ℚ) → neg_ℚ F *ℚ neg_ℚ F ≡ F *ℚ F
    square_neg F = by_reading {atoms = F ∷ []} (search reading) (search reading) refl

    by_side : (side : Bool) → int (pos 2) *ℚ (entering (along a (q a) i j k) side *ℚ (boundary inside e -ℚ face_temperature T a i j k)) ≤ℚ int (pos 100) *ℚ face_terms m inside T q a i j k e rs low
    by_side true = subst (λ (t : ℚ). t ≤ℚ int (pos 100) *ℚ face_terms m inside T q a i j k e rs low) (excess_in (one_over 4) (along a (q a) i j k) (boundary inside e) (along a T i j k) (along a T i (suc j) k) (along a T i j (suc k)) (along a T i (suc j) (suc k)) quarter) (law (neg_ℚ (along a (q a) i j k)) (square_neg (along a (q a) i j k)))
    by_side false = subst (λ (t : ℚ). t ≤ℚ int (pos 100) *ℚ face_terms m inside T q a i j k e rs low) (excess_out (one_over 4) (along a (q a) i j k) (boundary inside e) (along a T i j k) (along a T i (suc j) k) (along a T i j (suc k)) (along a T i (suc j) (suc k)) quarter) (law (along a (q a) i j k) refl)
