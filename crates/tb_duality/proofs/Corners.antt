-- The temperatures at the corners of a cell are those at the corners of any two of its opposite faces.
use mathlib.Core.Path.{◌≡◌, refl}
use mathlib.Core.List.{[], ◌∷◌}
use Prim.Native.Nat.{ℕ, suc}
use Rattle.tb_math.specs.Rational.{ℚ, ◌+ℚ◌}
use Rattle.tb_math.proofs.ReadRationals.{by_reading, reading}
use Rattle.tb_places.specs.declared.AxisName.{AxisName}
use Rattle.tb_places.specs.declared.AxisName.TheVariants.{X, Y, Z}
use Rattle.tb_places.specs.Places.{along}
use Rattle.tb_model.specs.Energy.{Field}

-- the temperatures at the eight corners of a cell
abbrev pub corner_sum : Field → ℕ → ℕ → ℕ → ℚ
corner_sum T i j k =
    (T i j k +ℚ T (suc i) j k +ℚ T i (suc j) k +ℚ T (suc i) (suc j) k)
    +ℚ (T i j (suc k) +ℚ T (suc i) j (suc k) +ℚ T i (suc j) (suc k) +ℚ T (suc i) (suc j) (suc k))

-- the temperatures at the four corners of the face across an axis
abbrev pub face_sum : Field → AxisName → ℕ → ℕ → ℕ → ℚ
face_sum T a i j k = along a T i j k +ℚ along a T i (suc j) k +ℚ along a T i j (suc k) +ℚ along a T i (suc j) (suc k)

pub corners_are : (T : Field) (a : AxisName) (i j k : ℕ) → along a (corner_sum T) i j k ≡ face_sum T a i j k +ℚ face_sum T a (suc i) j k
corners_are T X i j k = eight (T i j k) (T (suc i) j k) (T i (suc j) k) (T (suc i) (suc j) k) (T i j (suc k)) (T (suc i) j (suc k)) (T i (suc j) (suc k)) (T (suc i) (suc j) (suc k))
  where
    eight : (a b c d e f g h : ℚ) → (a +ℚ b +ℚ c +ℚ d) +ℚ (e +ℚ f +ℚ g +ℚ h) ≡ (a +ℚ c +ℚ e +ℚ g) +ℚ (b +ℚ d +ℚ f +ℚ h)
    eight a b c d e f g h = by_reading {atoms = a ∷ b ∷ c ∷ d ∷ e ∷ f ∷ g ∷ h ∷ []} (search reading depth 20) (search reading depth 20) refl
corners_are T Y i j k = eight (T j i k) (T (suc j) i k) (T j (suc i) k) (T (suc j) (suc i) k) (T j i (suc k)) (T (suc j) i (suc k)) (T j (suc i) (suc k)) (T (suc j) (suc i) (suc k))
  where
    eight : (a b c d e f g h : ℚ) → (a +ℚ b +ℚ c +ℚ d) +ℚ (e +ℚ f +ℚ g +ℚ h) ≡ (a +ℚ b +ℚ e +ℚ f) +ℚ (c +ℚ d +ℚ g +ℚ h)
    eight a b c d e f g h = by_reading {atoms = a ∷ b ∷ c ∷ d ∷ e ∷ f ∷ g ∷ h ∷ []} (search reading depth 20) (search reading depth 20) refl
corners_are T Z i j k = refl
