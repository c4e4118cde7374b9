-- The theorem of the divergence on a mesh: what a quantity on faces loses over the solid cells of a line, it loses at
-- their surfaces, where it vanishes on the adiabatic faces.
use mathlib.Core.Path.{◌≡◌, refl, sym, ap, ◌∙◌}
use mathlib.Core.List.{[], ◌∷◌}
use Prim.Native.Nat.{ℕ, zero, suc, ◌<◌, ◌≤◌}
use native.Mathlib.Omega.{arith}
use lib.IntN.{pos}
use Rattle.std.specs.Prelude.{Option, Some, None}
use Rattle.tb_math.specs.Rational.{ℚ, int, ◌+ℚ◌, ◌-ℚ◌, neg_ℚ}
use Rattle.tb_math.specs.Sums.{total}
use Rattle.tb_math.proofs.ReadRationals.{by_reading, reading}
use Rattle.tb_math.proofs.SumLaws.{sum-cong, sum-front, sum-none}
use Rattle.tb_math.proofs.SumInstances.{adds_ℚ}
use Rattle.tb_places.specs.declared.AxisName.{AxisName}
use Rattle.tb_places.specs.declared.AxisName.TheVariants.{X, Y, Z}
use Rattle.tb_places.specs.Places.{second, third, along}
use Rattle.tb_detail.specs.declared.Content.{Content}
use Rattle.tb_detail.specs.declared.Content.TheVariants.{Solid, Air}
use Rattle.tb_model.specs.declared.FaceKind.TheVariants.{Shut}
use Rattle.tb_model.specs.Mesh.{Mesh, kind, kind_between, below, above}
use Rattle.tb_duality.specs.MeanValues.{entering}
use Rattle.tb_model.specs.Energy.{Terms, of_solid, at_surface, line_sum, axis_sum, exact}

-- a number at a solid, else 0
abbrev pub part : ℚ → Option Content → ℚ
part x c = of_solid (int (pos 0)) (λ _. x) c

neg_none : int (pos 0) ≡ int (pos 0) -ℚ int (pos 0)
neg_none = by_reading {atoms = []} (search reading) (search reading) refl

cell_step : (x y : ℚ) (c : Option Content) → of_solid (int (pos 0)) (λ _. x -ℚ y) c ≡ part x c -ℚ part y c
cell_step x y (Some (Solid n)) = refl
cell_step x y (Some (Air e rs)) = neg_none
cell_step x y None = neg_none

-- the nine kinds of faces
face_step : (x : ℚ) (low high : Option Content) → (kind_between low high ≡ Shut → x ≡ int (pos 0)) → at_surface (int (pos 0)) (λ _ _ low_is_air. neg_ℚ (entering x low_is_air)) (kind_between low high) ≡ part x low -ℚ part x high
face_step x (Some (Solid m)) (Some (Solid n)) h = by_reading {atoms = x ∷ []} (search reading) (search reading) refl
face_step x (Some (Solid m)) (Some (Air e rs)) h = by_reading {atoms = x ∷ []} (search reading) (search reading) refl
face_step x (Some (Solid m)) None h = neg_none ∙ ap (λ (z : ℚ). z -ℚ int (pos 0)) (sym (h refl))
face_step x (Some (Air e rs)) (Some (Solid n)) h = by_reading {atoms = x ∷ []} (search reading) (search reading) refl
face_step x (Some (Air e rs)) (Some (Air f rt)) h = neg_none
face_step x (Some (Air e rs)) None h = neg_none
face_step x None (Some (Solid n)) h = neg_none ∙ ap (λ (z : ℚ). int (pos 0) -ℚ z) (sym (h refl))
face_step x None (Some (Air e rs)) h = neg_none
face_step x None None h = neg_none

-- differences add up
total_differences : (n : ℕ) (f g h : ℕ → ℚ) → ((i : ℕ) → i < n → f i ≡ g i -ℚ h i) → total n f ≡ total n g -ℚ total n h
total_differences zero f g h e = neg_none
total_differences (suc n) f g h e = ap (λ (z : ℚ). z +ℚ f n) (total_differences n f g h (λ i l. e i (omega arith))) ∙ ap (λ (z : ℚ). (total n g -ℚ total n h) +ℚ z) (e n (omega arith)) ∙ regrouped (total n g) (total n h) (g n) (h n)
  where
    regrouped : (a b c d : ℚ) → (a -ℚ b) +ℚ (c -ℚ d) ≡ (a +ℚ c) -ℚ (b +ℚ d)
    regrouped a b c d = by_reading {atoms = a ∷ b ∷ c ∷ d ∷ []} (search reading) (search reading) refl

above_within : (n i : ℕ) (occupant : ℕ → Option Content) → i < n → above n occupant i ≡ occupant i
above_within n i occupant h = grind arith

above_end : (n : ℕ) (occupant : ℕ → Option Content) → above n occupant n ≡ None
above_end n occupant = grind arith

-- the law of one line of n cells, for a quantity x on its faces
pub line_jumps : (n : ℕ) (occupant : ℕ → Option Content) (x : ℕ → ℚ) →
    ((i : ℕ) → i ≤ n → kind_between (below occupant i) (above n occupant i) ≡ Shut → x i ≡ int (pos 0)) →
    total n (λ i. of_solid (int (pos 0)) (λ _. x i -ℚ x (suc i)) (occupant i))
    +ℚ total (suc n) (λ i. at_surface (int (pos 0)) (λ _ _ low_is_air. neg_ℚ (entering (x i) low_is_air)) (kind_between (below occupant i) (above n occupant i)))
    ≡ int (pos 0)
line_jumps n occupant x shut =
    ap (λ (z : ℚ). z +ℚ total (suc n) faces) (total_differences n cells lows highs (λ i l. cell_step (x i) (x (suc i)) (occupant i)))
    ∙ ap (λ (z : ℚ). (total n lows -ℚ total n highs) +ℚ z) (total_differences (suc n) faces belows aboves (λ i l. face_step (x i) (below occupant i) (above n occupant i) (shut i (omega arith))))
    ∙ ap (λ (z : ℚ). (total n lows -ℚ total n highs) +ℚ (z -ℚ total (suc n) aboves)) (sum-front adds_ℚ n belows)
    ∙ ap (λ (z : ℚ). (total n lows -ℚ total n highs) +ℚ ((int (pos 0) +ℚ total n highs) -ℚ z)) ends_above
    ∙ vanishes (total n lows) (total n highs)
  where
    cells : ℕ → ℚ
    cells i = of_solid (int (pos 0)) (λ _. x i -ℚ x (suc i)) (occupant i)

    faces : ℕ → ℚ
    faces i = at_surface (int (pos 0)) (λ _ _ low_is_air. neg_ℚ (entering (x i) low_is_air)) (kind_between (below occupant i) (above n occupant i))

    lows : ℕ → ℚ
    lows i = part (x i) (occupant i)

    highs : ℕ → ℚ
    highs i = part (x (suc i)) (occupant i)

    belows : ℕ → ℚ
    belows i = part (x i) (below occupant i)

    aboves : ℕ → ℚ
    aboves i = part (x i) (above n occupant i)

    ends_above : total (suc n) aboves ≡ total n lows +ℚ int (pos 0)
    ends_above = ap (λ (z : ℚ). z +ℚ aboves n) (sum-cong adds_ℚ n aboves lows (λ i l. ap (part (x i)) (above_within n i occupant l))) ∙ ap (λ (z : ℚ). total n lows +ℚ z) (ap (part (x n)) (above_end n occupant))

    vanishes : (a b : ℚ) → (a -ℚ b) +ℚ ((int (pos 0) +ℚ b) -ℚ (a +ℚ int (pos 0))) ≡ int (pos 0)
    vanishes a b = by_reading {atoms = a ∷ b ∷ []} (search reading depth 20) (search reading depth 20) refl

pub total_none : (n : ℕ) (f : ℕ → ℚ) → ((i : ℕ) → i < n → f i ≡ int (pos 0)) → total n f ≡ int (pos 0)
total_none n f h = sum-cong adds_ℚ n f (λ _. int (pos 0)) h ∙ sum-none adds_ℚ n

-- a sum over a mesh vanishes where each of its lines does
pub lines_none : (m : Mesh) (t : Terms) → ((a : AxisName) (j k : ℕ) → j < m.cells (second a) → k < m.cells (third a) → line_sum (int (pos 0)) ◌+ℚ◌ (λ x. x) m t a j k ≡ int (pos 0)) → exact m t ≡ int (pos 0)
unfolding exact
lines_none m t h =
    ap (λ (z : ℚ). z +ℚ along_axis Y +ℚ along_axis Z) (axis_none X) ∙ ap (λ (z : ℚ). int (pos 0) +ℚ z +ℚ along_axis Z) (axis_none Y) ∙ ap (λ (z : ℚ). int (pos 0) +ℚ int (pos 0) +ℚ z) (axis_none Z)
    ∙ by_reading {atoms = []} (search reading) (search reading) refl
  where
    along_axis : AxisName → ℚ
    along_axis a = axis_sum (int (pos 0)) ◌+ℚ◌ (λ x. x) m t a

    axis_none : (a : AxisName) → along_axis a ≡ int (pos 0)
    axis_none a = total_none (m.cells (third a)) (λ k. total (m.cells (second a)) (λ j. line_sum (int (pos 0)) ◌+ℚ◌ (λ x. x) m t a j k)) (λ k hk. total_none (m.cells (second a)) (λ j. line_sum (int (pos 0)) ◌+ℚ◌ (λ x. x) m t a j k) (λ j hj. h a j k hj hk))

-- what a quantity on the faces across each axis, the index along the axis first, loses in cells and at surfaces
abbrev pub jumps : (AxisName → ℕ → ℕ → ℕ → ℚ) → Terms
jumps x = record {
  cell = λ a i j k _. x a i j k -ℚ x a (suc i) j k;
  surface = λ a i j k _ _ low_is_air. neg_ℚ (entering (x a i j k) low_is_air);
}

pub jumps_none : (m : Mesh) (x : AxisName → ℕ → ℕ → ℕ → ℚ) →
    ((a : AxisName) (i j k : ℕ) → i ≤ m.cells a → j < m.cells (second a) → k < m.cells (third a) → kind m a i j k ≡ Shut → x a i j k ≡ int (pos 0)) →
    exact m (jumps x) ≡ int (pos 0)
jumps_none m x shut = lines_none m (jumps x) (λ a j k hj hk. line_jumps (m.cells a) (λ i. along a m.occupant i j k) (λ i. x a i j k) (λ i hi. shut a i j k hi hj hk))
