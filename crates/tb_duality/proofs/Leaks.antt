-- What a flux loses in the cells of a mesh, weighted by the temperature there: nothing, where it is balanced.
--
-- The sums of the three axes go over the cells in three orders; all are turned into one.
use mathlib.Core.Path.{◌≡◌, refl, ap, ◌∙◌}
use mathlib.Core.List.{[], ◌∷◌}
use Prim.Native.Nat.{ℕ, suc}
use lib.IntN.{pos}
use Rattle.tb_math.specs.Rational.{ℚ, int, ◌+ℚ◌, ◌-ℚ◌, ◌*ℚ◌}
use Rattle.tb_math.specs.Sums.{total}
use Rattle.tb_math.proofs.RationalLaws.{+ℚ_zero}
use Rattle.tb_math.proofs.ReadRationals.{by_reading, by_given, reading, none, given}
use Rattle.tb_math.proofs.SumLaws.{sum-cong, sum-swap}
use Rattle.tb_math.proofs.SumInstances.{adds_ℚ}
use Rattle.tb_places.specs.declared.AxisName.{AxisName}
use Rattle.tb_places.specs.declared.AxisName.TheVariants.{X, Y, Z}
use Rattle.tb_places.specs.Places.{Counts, second, third, along}
use Rattle.tb_model.specs.declared.FaceKind.{FaceKind}
use Rattle.tb_model.specs.declared.FaceKind.TheVariants.{Inner, Surface, Shut, Idle}
use Rattle.tb_model.specs.Mesh.{Mesh, kind}
use Rattle.tb_model.specs.Energy.{Field, Flux, Terms, IsBalanced, of_solid, at_surface, line_sum, axis_sum, exact}
use Rattle.tb_duality.proofs.Corners.{corner_sum}
use Rattle.tb_duality.proofs.MeshSums.{exactly, range_related, solid_related}
use Rattle.tb_duality.proofs.Jumps.{total_none}

-- the sum over all cells, row by row and layer by layer
abbrev pub cells_sum : Counts → (ℕ → ℕ → ℕ → ℚ) → ℚ
cells_sum n f = total (n Z) (λ k. total (n Y) (λ j. total (n X) (λ i. f i j k)))

-- the same sum in the order of any axis
pub turned_sum : (n : Counts) (a : AxisName) (f : ℕ → ℕ → ℕ → ℚ) → total (n (third a)) (λ k. total (n (second a)) (λ j. total (n a) (λ i. along a f i j k))) ≡ cells_sum n f
turned_sum n X f = refl
turned_sum n Y f = sum-cong adds_ℚ (n Z) (λ k. total (n X) (λ j. total (n Y) (λ i. f j i k))) (λ k. total (n Y) (λ j. total (n X) (λ i. f i j k))) (λ k hk. sum-swap adds_ℚ (n X) (n Y) (λ j i. f j i k))
turned_sum n Z f =
    sum-cong adds_ℚ (n Y) (λ k. total (n X) (λ j. total (n Z) (λ i. f j k i))) (λ k. total (n Z) (λ i. total (n X) (λ j. f j k i))) (λ k hk. sum-swap adds_ℚ (n X) (n Z) (λ j i. f j k i))
    ∙ sum-swap adds_ℚ (n Y) (n Z) (λ k i. total (n X) (λ j. f j k i))

-- what leaves a cell along an axis
abbrev pub net : Flux → AxisName → ℕ → ℕ → ℕ → ℚ
net q X i j k = q X (suc i) j k -ℚ q X i j k
net q Y i j k = q Y i (suc j) k -ℚ q Y i j k
net q Z i j k = q Z i j (suc k) -ℚ q Z i j k

abbrev pub leaks : Field → Flux → Terms
leaks T q = record {
  cell = λ a i j k _. (along a (q a) (suc i) j k -ℚ along a (q a) i j k) *ℚ along a (corner_sum T) i j k;
  surface = λ _ _ _ _ _ _ _. int (pos 0);
}

-- the same at a place
abbrev pub leak : Mesh → Field → Flux → AxisName → ℕ → ℕ → ℕ → ℚ
leak m T q a i j k = of_solid (int (pos 0)) (λ _. net q a i j k *ℚ corner_sum T i j k) (m.occupant i j k)

leak_at : (m : Mesh) (T : Field) (q : Flux) (a : AxisName) (i j k : ℕ) → of_solid (int (pos 0)) (λ n. (leaks T q).cell a i j k (m.conductivity n a)) (along a m.occupant i j k) ≡ along a (leak m T q a) i j k
leak_at m T q X i j k = refl
leak_at m T q Y i j k = refl
leak_at m T q Z i j k = refl

no_surface : (c : FaceKind) → at_surface (int (pos 0)) (λ _ _ _. int (pos 0)) c ≡ int (pos 0)
no_surface (Surface e rs low) = refl
no_surface Inner = refl
no_surface Shut = refl
no_surface Idle = refl

axis_leaks : (m : Mesh) (T : Field) (q : Flux) (a : AxisName) → axis_sum (int (pos 0)) ◌+ℚ◌ (λ x. x) m (leaks T q) a ≡ cells_sum m.cells (leak m T q a)
axis_leaks m T q a =
    sum-cong adds_ℚ (m.cells (third a)) (λ k. total (m.cells (second a)) (λ j. lines j k)) (λ k. total (m.cells (second a)) (λ j. total (m.cells a) (λ i. along a (leak m T q a) i j k)))
    (λ k hk. sum-cong adds_ℚ (m.cells (second a)) (λ j. lines j k) (λ j. total (m.cells a) (λ i. along a (leak m T q a) i j k)) (λ j hj. line_leaks j k))
    ∙ turned_sum m.cells a (leak m T q a)
  where
    lines : ℕ → ℕ → ℚ
    lines j k = line_sum (int (pos 0)) ◌+ℚ◌ (λ x. x) m (leaks T q) a j k

    faces : ℕ → ℕ → ℕ → ℚ
    faces j k i = at_surface (int (pos 0)) (λ _ _ _. int (pos 0)) (kind m a i j k)

    inside : ℕ → ℕ → ℕ → ℚ
    inside j k i = of_solid (int (pos 0)) (λ n. (leaks T q).cell a i j k (m.conductivity n a)) (along a m.occupant i j k)

    line_leaks : (j k : ℕ) → lines j k ≡ total (m.cells a) (λ i. along a (leak m T q a) i j k)
    line_leaks j k =
        ap (λ (z : ℚ). total (m.cells a) (inside j k) +ℚ z) (total_none (suc (m.cells a)) (faces j k) (λ i hi. no_surface (kind m a i j k)))
        ∙ +ℚ_zero (total (m.cells a) (inside j k))
        ∙ sum-cong adds_ℚ (m.cells a) (inside j k) (λ i. along a (leak m T q a) i j k) (λ i hi. leak_at m T q a i j k)

-- three numbers that add up to nothing
abbrev Cancel : (AxisName → ℚ) → Type 0
Cancel f = f X +ℚ f Y +ℚ f Z ≡ int (pos 0)

cancel_none : Cancel (λ _. int (pos 0))
cancel_none = by_reading {atoms = []} (search reading) (search reading) refl

cancel_adds : (f g : AxisName → ℚ) → Cancel f → Cancel g → Cancel (λ a. f a +ℚ g a)
cancel_adds f g d e = added (f X) (f Y) (f Z) (g X) (g Y) (g Z) d e
  where
    added : (p q r s t u : ℚ) → p +ℚ q +ℚ r ≡ int (pos 0) → s +ℚ t +ℚ u ≡ int (pos 0) → (p +ℚ s) +ℚ (q +ℚ t) +ℚ (r +ℚ u) ≡ int (pos 0)
    added p q r s t u d e = by_given {atoms = p ∷ q ∷ r ∷ s ∷ t ∷ u ∷ []} (search reading depth 20) (search reading)
        (given (int (pos 1)) (p +ℚ q +ℚ r) (int (pos 0)) (search reading) (search reading depth 20) (search reading) d
        (given (int (pos 1)) (s +ℚ t +ℚ u) (int (pos 0)) (search reading) (search reading depth 20) (search reading) e none)) refl

-- three numbers that cancel do so when multiplied
pub weighted : (p q r w : ℚ) → p +ℚ q +ℚ r ≡ int (pos 0) → p *ℚ w +ℚ q *ℚ w +ℚ r *ℚ w ≡ int (pos 0)
weighted p q r w e = by_given {atoms = p ∷ q ∷ r ∷ w ∷ []} (search reading depth 20) (search reading) (given w (p +ℚ q +ℚ r) (int (pos 0)) (search reading) (search reading depth 20) (search reading) e none) refl

-- over the cells of a balanced flux the three axes cancel
cells_cancel : (m : Mesh) (T : Field) (q : Flux) → IsBalanced m q → Cancel (λ a. cells_sum m.cells (leak m T q a))
cells_cancel m T q balanced =
    range_related (exactly AxisName) Cancel cancel_none cancel_adds (m.cells Z) (λ a k. total (m.cells Y) (λ j. total (m.cells X) (λ i. leak m T q a i j k)))
    (λ k hk. range_related (exactly AxisName) Cancel cancel_none cancel_adds (m.cells Y) (λ a j. total (m.cells X) (λ i. leak m T q a i j k))
    (λ j hj. range_related (exactly AxisName) Cancel cancel_none cancel_adds (m.cells X) (λ a i. leak m T q a i j k)
    (λ i hi. solid_related (exactly AxisName) Cancel cancel_none cancel_adds (m.occupant i j k) (λ a _. net q a i j k *ℚ corner_sum T i j k)
    (λ n is. weighted (net q X i j k) (net q Y i j k) (net q Z i j k) (corner_sum T i j k) (balanced.cells i j k n hi hj hk is)))))

pub leaks_none : (m : Mesh) (T : Field) (q : Flux) → IsBalanced m q → exact m (leaks T q) ≡ int (pos 0)
unfolding exact
leaks_none m T q balanced =
    ap (λ (z : ℚ). z +ℚ along_axis Y +ℚ along_axis Z) (axis_leaks m T q X) ∙ ap (λ (z : ℚ). over_cells X +ℚ z +ℚ along_axis Z) (axis_leaks m T q Y) ∙ ap (λ (z : ℚ). over_cells X +ℚ over_cells Y +ℚ z) (axis_leaks m T q Z)
    ∙ cells_cancel m T q balanced
  where
    along_axis : AxisName → ℚ
    along_axis a = axis_sum (int (pos 0)) ◌+ℚ◌ (λ x. x) m (leaks T q) a

    over_cells : AxisName → ℚ
    over_cells a = cells_sum m.cells (leak m T q a)
