-- Mixtures of two changes of a flux: along an axis the slope is linear in the change. And what it means that two faces
-- stand on different lines of cells.
use mathlib.Core.Path.{◌≡◌, refl, sym, ◌∙◌}
use mathlib.Core.Bool.{Bool, true, false}
use mathlib.Core.List.{[], ◌∷◌}
use Prim.Native.Nat.{ℕ, zero, suc}
use Rattle.std.proofs.Common.{◌≢◌, eqb}
use Rattle.std.proofs.lemmas.Bool.{eqb-true, eqb-false}
use lib.IntN.{ℤ, pos, ◌+ℤ◌, ◌*ℤ◌}
use Rattle.tb_math.specs.Sums.{total_ℤ}
use Rattle.tb_math.proofs.ReadIntegers.{by_reading, reading}
use Rattle.tb_weighted.specs.Forms.{Spread3, line_sum, axis_sum, bit}
use Rattle.tb_weighted.specs.Flows.{flow_cell_slope, flow_face_slope}
use Rattle.tb_weighted.proofs.Local.{bit_other}

nothing : (c d : ℤ) → pos 0 ≡ c *ℤ pos 0 +ℤ d *ℤ pos 0
nothing c d = by_reading {atoms = c ∷ d ∷ []} (search reading depth 60 fits 100000) (search reading depth 60 fits 100000) refl

one_more : (c d x y x' y' : ℤ) → (c *ℤ x +ℤ d *ℤ y) +ℤ (c *ℤ x' +ℤ d *ℤ y') ≡ c *ℤ (x +ℤ x') +ℤ d *ℤ (y +ℤ y')
one_more c d x y x' y' = by_reading {atoms = c ∷ d ∷ x ∷ y ∷ x' ∷ y' ∷ []} (search reading depth 60 fits 100000) (search reading depth 60 fits 100000) refl

both : (a a' b b' : ℤ) → a ≡ a' → b ≡ b' → a +ℤ b ≡ a' +ℤ b'
both a a' b b' e f = rw (e, f) refl

total_mixed : (c d : ℤ) (n : ℕ) (f g h : ℕ → ℤ) → ((i : ℕ) → f i ≡ c *ℤ g i +ℤ d *ℤ h i) → total_ℤ n f ≡ c *ℤ total_ℤ n g +ℤ d *ℤ total_ℤ n h
total_mixed c d zero f g h e = nothing c d
total_mixed c d (suc n) f g h e = both _ _ _ _ (total_mixed c d n f g h e) (e n) ∙ one_more c d (total_ℤ n g) (total_ℤ n h) (g n) (h n)

-- an axis' sum of a mixture of terms
pub axis_mixed : (c d : ℤ) (n m p : ℕ) (cell face cell1 face1 cell2 face2 : Spread3) → ((i j k : ℕ) → cell i j k ≡ c *ℤ cell1 i j k +ℤ d *ℤ cell2 i j k) → ((i j k : ℕ) → face i j k ≡ c *ℤ face1 i j k +ℤ d *ℤ face2 i j k)
    → axis_sum n m p cell face ≡ c *ℤ axis_sum n m p cell1 face1 +ℤ d *ℤ axis_sum n m p cell2 face2
unfolding axis_sum
axis_mixed c d n m p cell face cell1 face1 cell2 face2 e f =
    total_mixed c d p (λ k. total_ℤ m (λ j. line_sum n cell face j k)) (λ k. total_ℤ m (λ j. line_sum n cell1 face1 j k)) (λ k. total_ℤ m (λ j. line_sum n cell2 face2 j k)) (λ k.
    total_mixed c d m (λ j. line_sum n cell face j k) (λ j. line_sum n cell1 face1 j k) (λ j. line_sum n cell2 face2 j k) (λ j.
    both _ _ _ _ (total_mixed c d n (λ i. cell i j k) (λ i. cell1 i j k) (λ i. cell2 i j k) (λ i. e i j k)) (total_mixed c d (suc n) (λ i. face i j k) (λ i. face1 i j k) (λ i. face2 i j k) (λ i. f i j k))
    ∙ one_more c d (total_ℤ n (λ i. cell1 i j k)) (total_ℤ n (λ i. cell2 i j k)) (total_ℤ (suc n) (λ i. face1 i j k)) (total_ℤ (suc n) (λ i. face2 i j k))))

-- ---- two changes
abbrev pub mixed : ℤ → ℤ → Spread3 → Spread3 → Spread3
mixed c d a b i j k = c *ℤ a i j k +ℤ d *ℤ b i j k

slope_in_cell : (c d v g h a0 a1 b0 b1 : ℤ) → v *ℤ ((c *ℤ a0 +ℤ d *ℤ b0) *ℤ (pos 2 *ℤ g +ℤ h) +ℤ (c *ℤ a1 +ℤ d *ℤ b1) *ℤ (g +ℤ pos 2 *ℤ h))
    ≡ c *ℤ (v *ℤ (a0 *ℤ (pos 2 *ℤ g +ℤ h) +ℤ a1 *ℤ (g +ℤ pos 2 *ℤ h))) +ℤ d *ℤ (v *ℤ (b0 *ℤ (pos 2 *ℤ g +ℤ h) +ℤ b1 *ℤ (g +ℤ pos 2 *ℤ h)))
slope_in_cell c d v g h a0 a1 b0 b1 = by_reading {atoms = c ∷ d ∷ v ∷ g ∷ h ∷ a0 ∷ a1 ∷ b0 ∷ b1 ∷ []} (search reading depth 60 fits 100000) (search reading depth 60 fits 100000) refl

slope_at_face : (c d s e g a b : ℤ) → s *ℤ (pos 2 *ℤ ((c *ℤ a +ℤ d *ℤ b) *ℤ g)) +ℤ e *ℤ (c *ℤ a +ℤ d *ℤ b) ≡ c *ℤ (s *ℤ (pos 2 *ℤ (a *ℤ g)) +ℤ e *ℤ a) +ℤ d *ℤ (s *ℤ (pos 2 *ℤ (b *ℤ g)) +ℤ e *ℤ b)
slope_at_face c d s e g a b = by_reading {atoms = c ∷ d ∷ s ∷ e ∷ g ∷ a ∷ b ∷ []} (search reading depth 60 fits 100000) (search reading depth 60 fits 100000) refl

-- the slope along an axis is linear in the change, whatever the changes are
pub slopes_mixed : (c d : ℤ) (n m p : ℕ) (v s e g a b : Spread3)
    → axis_sum n m p (flow_cell_slope v g (mixed c d a b)) (flow_face_slope s e g (mixed c d a b))
    ≡ c *ℤ axis_sum n m p (flow_cell_slope v g a) (flow_face_slope s e g a) +ℤ d *ℤ axis_sum n m p (flow_cell_slope v g b) (flow_face_slope s e g b)
slopes_mixed c d n m p v s e g a b = axis_mixed c d n m p _ _ (flow_cell_slope v g a) (flow_face_slope s e g a) (flow_cell_slope v g b) (flow_face_slope s e g b)
    (λ i j k. slope_in_cell c d (v i j k) (g i j k) (g (suc i) j k) (a i j k) (a (suc i) j k) (b i j k) (b (suc i) j k))
    (λ i j k. slope_at_face c d (s i j k) (e i j k) (g i j k) (a i j k) (b i j k))

zero_of : (x y : ℤ) → x ≡ pos 0 → x *ℤ y ≡ pos 0
zero_of x y e = rw e (by_reading {atoms = y ∷ []} (search reading) (search reading) refl)

zero_in : (x y : ℤ) → y ≡ pos 0 → x *ℤ y ≡ pos 0
zero_in x y e = rw e (by_reading {atoms = x ∷ []} (search reading) (search reading) refl)

bits_apart : (j q q' : ℕ) → q ≢ q' → bit j q *ℤ bit j q' ≡ pos 0
bits_apart j q q' h = cases (eqb j q) refl
  where
    cases : (b : Bool) → eqb j q ≡ b → bit j q *ℤ bit j q' ≡ pos 0
    cases true e = zero_in (bit j q) (bit j q') (bit_other j q' (λ f. h (sym (eqb-true j q e) ∙ f)))
    cases false e = zero_of (bit j q) (bit j q') (bit_other j q (eqb-false j q e))

regroup : (y z y' z' : ℤ) → (y *ℤ z) *ℤ (y' *ℤ z') ≡ (y *ℤ y') *ℤ (z *ℤ z')
regroup y z y' z' = by_reading {atoms = y ∷ z ∷ y' ∷ z' ∷ []} (search reading depth 60 fits 100000) (search reading depth 60 fits 100000) refl

-- two lines of cells along an axis
abbrev pub AreApart : ℕ → ℕ → ℕ → ℕ → Type 0
AreApart q r q' r' = (j k : ℕ) → (bit j q *ℤ bit k r) *ℤ (bit j q' *ℤ bit k r') ≡ pos 0

pub apart_second : (q r q' r' : ℕ) → q ≢ q' → AreApart q r q' r'
apart_second q r q' r' h j k = regroup (bit j q) (bit k r) (bit j q') (bit k r') ∙ zero_of (bit j q *ℤ bit j q') (bit k r *ℤ bit k r') (bits_apart j q q' h)

pub apart_third : (q r q' r' : ℕ) → r ≢ r' → AreApart q r q' r'
apart_third q r q' r' h j k = regroup (bit j q) (bit k r) (bit j q') (bit k r') ∙ zero_in (bit j q *ℤ bit j q') (bit k r *ℤ bit k r') (bits_apart k r r' h)
