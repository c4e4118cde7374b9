-- A mesh has at most nine terms a cell: three of the cell, and six of faces, since a line of n cells has n + 1 faces.
use Rattle.std.proofs.Common.{ℕ, zero, suc, ◌+◌, ◌*◌, ◌<◌, ◌≤◌, Option, Some, None, arith}
use Rattle.std.proofs.Math.Nat.{mul-le-mul_right}
use Rattle.tb_math.specs.Sums.{sum_to}
use Rattle.tb_places.specs.declared.AxisName.{AxisName}
use Rattle.tb_places.specs.declared.AxisName.TheVariants.{X, Y, Z}
use Rattle.tb_places.specs.Places.{along, cell_count, second, third}
use Rattle.tb_detail.specs.declared.Content.{Content}
use Rattle.tb_detail.specs.declared.Content.TheVariants.{Solid, Air}
use Rattle.tb_model.specs.declared.FaceKind.{FaceKind}
use Rattle.tb_model.specs.declared.FaceKind.TheVariants.{Inner, Surface, Shut, Idle}
use Rattle.tb_model.specs.Mesh.{Mesh, kind}
use Rattle.tb_model.specs.Energy.{Terms, at_surface, axis_sum, line_sum, number_of_terms, of_solid}

-- a sum of n numbers of at most c
sum_within : (n c : ℕ) (f : ℕ → ℕ) → ((i : ℕ) → i < n → f i ≤ c) → sum_to 0 ◌+◌ n f ≤ n * c
sum_within zero c f h = omega arith
sum_within (suc n) c f h = one_more (sum_to 0 ◌+◌ n f) (f n) n c (sum_within n c f (λ i l. h i (omega (arith, l)))) (h n (omega arith))
  where
    one_more : (s x n c : ℕ) → s ≤ n * c → x ≤ c → s + x ≤ suc n * c
    one_more s x n c h k = omega arith

of_cell : (c : Option Content) → of_solid 0 (λ _. 1) c ≤ 1
of_cell (Some (Solid n)) = omega arith
of_cell (Some (Air e rs)) = omega arith
of_cell None = omega arith

of_face : (f : FaceKind) → at_surface 0 (λ e rs low. 1) f ≤ 1
of_face (Surface e rs low) = omega arith
of_face Inner = omega arith
of_face Shut = omega arith
of_face Idle = omega arith

module _ (m : Mesh) (t : Terms) where
  line_count : (a : AxisName) (j k : ℕ) → line_sum 0 ◌+◌ (λ _. 1) m t a j k ≤ m.cells a + suc (m.cells a)
  line_count a j k = both _ _ (m.cells a)
      (sum_within (m.cells a) 1 (λ i. of_solid 0 (λ _. 1) (along a m.occupant i j k)) (λ i l. of_cell (along a m.occupant i j k)))
      (sum_within (suc (m.cells a)) 1 (λ i. at_surface 0 (λ e rs low. 1) (kind m a i j k)) (λ i l. of_face (kind m a i j k)))
    where
      both : (x y n : ℕ) → x ≤ n * 1 → y ≤ suc n * 1 → x + y ≤ n + suc n
      both x y n h k = omega arith

  axis_count : (a : AxisName) → axis_sum 0 ◌+◌ (λ _. 1) m t a ≤ m.cells (third a) * (m.cells (second a) * (m.cells a + suc (m.cells a)))
  axis_count a = sum_within (m.cells (third a)) (m.cells (second a) * (m.cells a + suc (m.cells a))) (λ k. sum_to 0 ◌+◌ (m.cells (second a)) (λ j. line_sum 0 ◌+◌ (λ _. 1) m t a j k))
      (λ k hk. sum_within (m.cells (second a)) (m.cells a + suc (m.cells a)) (λ j. line_sum 0 ◌+◌ (λ _. 1) m t a j k) (λ j hj. line_count a j k))

at_least_one : (n : ℕ) → 0 < n → 1 ≤ n
at_least_one n h = omega arith

-- three counts, with the cells in three orders
three_axes : (x y z p q r : ℕ) → 0 < x → 0 < y → 0 < z → p ≤ z * (y * (x + suc x)) → q ≤ z * (x * (y + suc y)) → r ≤ y * (x * (z + suc z)) → p + q + r ≤ 9 * (x * (y * z))
three_axes x y z p q r hx hy hz hp hq hr =
    let a : 1 * (y * z) ≤ x * (y * z) = mul-le-mul_right (y * z) (at_least_one x hx) in
    let b : 1 * (x * z) ≤ y * (x * z) = mul-le-mul_right (x * z) (at_least_one y hy) in
    let c : 1 * (x * y) ≤ z * (x * y) = mul-le-mul_right (x * y) (at_least_one z hz) in
    omega arith

pub few_terms : (m : Mesh) (t : Terms) → ((a : AxisName) → 0 < m.cells a) → number_of_terms m t ≤ 9 * cell_count m.cells
unfolding number_of_terms
few_terms m t some = three_axes (m.cells X) (m.cells Y) (m.cells Z) _ _ _ (some X) (some Y) (some Z) (axis_count m t X) (axis_count m t Y) (axis_count m t Z)
