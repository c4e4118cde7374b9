-- A cycle has one move.
use Rattle.std.proofs.Common.{◌≡◌, refl, sym, ap, ◌∙◌, subst, arith, ℕ, suc, ◌<◌, ◌≤◌, List, [], ◌∷◌, Option, None, Some}
use Rattle.std.specs.Prelude.{neg_ℤ, zero, negsuc}
use Rattle.std.proofs.lemmas.Int.{by_lt_z, ints}
use Rattle.std.proofs.lemmas.List.{ext_get_or}
use lib.IntN.{ℤ, pos, ◌+ℤ◌, ◌*ℤ◌}
use lib.Signed.{◌≤ℤ◌}
use Rattle.tb_math.specs.Integers.{mul-nonneg, square-nonneg}
use Rattle.tb_math.specs.Sums.{total_ℤ}
use Rattle.tb_math.proofs.ReadIntegers.{by_reading, reading}
use Rattle.tb_places.specs.declared.AxisName.{AxisName}
use Rattle.tb_places.specs.declared.AxisName.TheVariants.{X, Y, Z}
use Rattle.tb_places.specs.Inverse.{cell_place, face_place}
use Rattle.tb_places.specs.Places.{IsFace, along, face_count, face_number, place_at}
use Rattle.tb_places.proofs.Faces.{face_number_of_place, face_place_within}
use Rattle.tb_detail.specs.declared.Content.{Content}
use Rattle.tb_detail.specs.declared.Content.TheVariants.{Air, Solid}
use Rattle.tb_model.specs.declared.FaceKind.{FaceKind}
use Rattle.tb_model.specs.declared.FaceKind.TheVariants.{Idle, Inner, Shut, Surface}
use Rattle.tb_model.specs.Energy.{Case, at_surface, of_solid}
use Rattle.tb_model.specs.Mesh.{Mesh, cross_section, kind}
use Rattle.tb_outlets.specs.declared.side.Side.{Side}
use Rattle.tb_outlets.specs.Outlets.{AreDistances, AreOutlets}
use Rattle.tb_outlets.specs.Repair.{IsCycle}
use Rattle.tb_outlets.proofs.MeshCycles.{on_one, one_cycle}
use Rattle.tb_outlets.proofs.Sides.{faces_apart}
use Rattle.tb_weighted.specs.Forms.{Spread3, axis_sum}
use Rattle.tb_weighted.specs.Flows.{Flows3, flow_cell, flow_energy, flow_face_rate, flow_rate, flow_slope, flows_of}
use Rattle.tb_weighted.specs.Least.{IsNearestLeastOf, apart, parabola}
use Rattle.tb_weighted.specs.Limits.{IsFlux}
use Rattle.tb_weighted.specs.Moves.{value_at, with_multiple}
use Rattle.tb_weighted.specs.OnMesh.{mesh_flow_forms, mesh_flux_cell, mesh_flux_face}
use Rattle.tb_weighted.specs.Weighted.{at_least_one, surface_flux_weight}
use Rattle.tb_weighted.proofs.FlowBridge.{flow_energy_is}
use Rattle.tb_weighted.proofs.FlowLaws.{flows_parabola}
use Rattle.tb_weighted.proofs.Unique.{IsParabola}
use Rattle.tb_cycles.specs.Entries.{IsCycleOf, IsEntry}
use Rattle.tb_cycles.specs.Moves.{IsCycleMove, flows_through}
use Rattle.tb_cycle_moves.specs.Turns.{Keeps, energy_with}
use Rattle.tb_cycle_moves.proofs.Keeping.{none_keeps}

-- ---- the rate is not negative
sum_up : (x y : ℤ) → pos 0 ≤ℤ x → pos 0 ≤ℤ y → pos 0 ≤ℤ (x +ℤ y)
sum_up x y p q = omega (arith, ints)

total_up : (n : ℕ) (f : ℕ → ℤ) → ((i : ℕ) → pos 0 ≤ℤ f i) → pos 0 ≤ℤ total_ℤ n f
total_up zero f h = omega (arith, ints)
total_up (suc n) f h = sum_up (total_ℤ n f) (f n) (total_up n f h) (h n)

axis_up : (n m p : ℕ) (cell face : Spread3) → ((i j k : ℕ) → pos 0 ≤ℤ cell i j k) → ((i j k : ℕ) → pos 0 ≤ℤ face i j k) → pos 0 ≤ℤ axis_sum n m p cell face
unfolding axis_sum
axis_up n m p cell face h g = total_up p _ (λ k. total_up m _ (λ j. sum_up _ _ (total_up n (λ i. cell i j k) (λ i. h i j k)) (total_up (suc n) (λ i. face i j k) (λ i. g i j k))))

squares : (a b : ℤ) → pos 4 *ℤ (a *ℤ a +ℤ a *ℤ b +ℤ b *ℤ b) ≡ (pos 2 *ℤ a +ℤ b) *ℤ (pos 2 *ℤ a +ℤ b) +ℤ pos 3 *ℤ (b *ℤ b)
squares a b = by_reading {atoms = a ∷ b ∷ []} (search reading depth 40 fits 20000) (search reading depth 40 fits 20000) refl

quarter : (x y z : ℤ) → pos 4 *ℤ x ≡ y +ℤ pos 3 *ℤ z → pos 0 ≤ℤ y → pos 0 ≤ℤ z → pos 0 ≤ℤ x
quarter x y z e p q = omega (arith, ints)

form_up : (a b : ℤ) → pos 0 ≤ℤ (a *ℤ a +ℤ a *ℤ b +ℤ b *ℤ b)
form_up a b = quarter (a *ℤ a +ℤ a *ℤ b +ℤ b *ℤ b) ((pos 2 *ℤ a +ℤ b) *ℤ (pos 2 *ℤ a +ℤ b)) (b *ℤ b) (squares a b) (square-nonneg (pos 2 *ℤ a +ℤ b)) (square-nonneg b)

one_up : (z : ℤ) → pos 0 ≤ℤ at_least_one z
one_up (pos zero) = omega (arith, ints)
one_up (pos (suc n)) = omega (arith, ints)
one_up (negsuc n) = omega (arith, ints)

solid_up : (w : ℕ → ℤ) (x : Option Content) → ((n : ℕ) → pos 0 ≤ℤ w n) → pos 0 ≤ℤ of_solid (pos 0) w x
solid_up w None h = omega (arith, ints)
solid_up w (Some (Solid n)) h = h n
solid_up w (Some (Air e r)) h = omega (arith, ints)

surface_up : (w : ℕ → ℤ) (x : FaceKind) → ((n : ℕ) → pos 0 ≤ℤ w n) → pos 0 ≤ℤ at_surface (pos 0) (λ e rs low. w rs) x
surface_up w Inner h = omega (arith, ints)
surface_up w (Surface e rs low) h = h rs
surface_up w Shut h = omega (arith, ints)
surface_up w Idle h = omega (arith, ints)

module _ (m : Mesh) where
  cell_up : (a : AxisName) (g : Spread3) (i j k : ℕ) → pos 0 ≤ℤ flow_cell (mesh_flux_cell m a) g i j k
  cell_up a g i j k = mul-nonneg (mesh_flux_cell m a i j k) _ (solid_up _ (along a m.occupant i j k) (λ n. one_up _)) (form_up (g i j k) (g (suc i) j k))

  face_up : (a : AxisName) (g : Spread3) (i j k : ℕ) → pos 0 ≤ℤ flow_face_rate (mesh_flux_face m a) g i j k
  face_up a g i j k = mul-nonneg (mesh_flux_face m a i j k) _ (surface_up (λ rs. surface_flux_weight rs (cross_section m a j k)) (kind m a i j k) (λ n. one_up _)) (square-nonneg (g i j k))

  pub rate_up : (inside : Case) (u : Flows3) → pos 0 ≤ℤ flow_rate (mesh_flow_forms m inside) u
  unfolding flow_rate
  rate_up inside u = sum_up _ _ (sum_up _ _
      (axis_up (m.cells X) (m.cells Y) (m.cells Z) _ _ (cell_up X (along X (u X))) (face_up X (along X (u X))))
      (axis_up (m.cells Y) (m.cells X) (m.cells Z) _ _ (cell_up Y (along Y (u Y))) (face_up Y (along Y (u Y)))))
      (axis_up (m.cells Z) (m.cells X) (m.cells Y) _ _ (cell_up Z (along Z (u Z))) (face_up Z (along Z (u Z))))

-- ---- of a parabola that opens upwards one nearest least place is allowed, where 0 is
module _ (e : ℤ → ℤ) (r s k : ℤ) (is : IsParabola e r s k) (up : pos 0 ≤ℤ r) (Allowed : ℤ → Type 0) (none : Allowed (pos 0)) where
  at_none : (r s : ℤ) → parabola r s (pos 0) ≡ pos 0
  at_none r s = by_reading {atoms = r ∷ s ∷ []} (search reading) (search reading) refl

  two_sides : (x : ℤ) → parabola r s x +ℤ parabola r s (neg_ℤ x) ≡ pos 2 *ℤ (r *ℤ (x *ℤ x))
  two_sides x = by_reading {atoms = r ∷ s ∷ x ∷ []} (search reading depth 40 fits 20000) (search reading depth 40 fits 20000) refl

  middle : (ex ey e0 p q o d : ℤ) → ex ≡ p +ℤ k → ey ≡ q +ℤ k → e0 ≡ o +ℤ k → o ≡ pos 0 → p +ℤ q ≡ pos 2 *ℤ d → pos 0 ≤ℤ d → ex ≤ℤ ey → ey ≤ℤ ex → e0 ≤ℤ ex
  middle ex ey e0 p q o d a b c g h l n n' = omega (arith, ints)

  turned_none : (x y : ℤ) → y ≡ neg_ℤ x → apart x (pos 0) ≤ apart (pos 0) (pos 0) → x ≡ y
  turned_none x y f h = omega (arith, ints)

  opposite_none : (x y : ℤ) → y ≡ neg_ℤ x → IsNearestLeastOf e Allowed (pos 0) x → IsNearestLeastOf e Allowed (pos 0) y → x ≡ y
  opposite_none x y f h g = turned_none x y f (h.nearest (pos 0) none
      (middle (e x) (e y) (e (pos 0)) (parabola r s x) (parabola r s y) (parabola r s (pos 0)) (r *ℤ (x *ℤ x)) (is.at x) (is.at y) (is.at (pos 0)) (at_none r s)
      (ap (λ (w : ℤ). parabola r s x +ℤ parabola r s w) f ∙ two_sides x) (mul-nonneg r (x *ℤ x) up (square-nonneg x)) (h.least y g.allowed) (g.least x h.allowed)))

  pub one_place : (x y : ℤ) → IsNearestLeastOf e Allowed (pos 0) x → IsNearestLeastOf e Allowed (pos 0) y → x ≡ y
  one_place x y h g = cases (h.nearest y g.allowed (g.least x h.allowed)) (g.nearest x h.allowed (h.least y g.allowed))
    where
      cases : apart x (pos 0) ≤ apart y (pos 0) → apart y (pos 0) ≤ apart x (pos 0) → x ≡ y
      cases p q = by_lt_z x y
          (λ n. opposite_none x y (omega (arith, ints)) h g)
          (λ n. by_lt_z y x (λ o. opposite_none x y (omega (arith, ints)) h g) (λ o. omega (arith, ints)))

-- ---- moves
module _ (m : Mesh) (inside : Case) (face : ℕ) (outlet : ℕ → Side) (distance : ℕ → ℕ) (outlets : AreOutlets m outlet) (distances : AreDistances m distance) where
  -- one cell, one side, one cycle
  pub cycle_one : (v w : List ℤ) → IsCycleOf m face v → IsCycleOf m face w → v ≡ w
  cycle_one v w first second = one_cycle m outlet distance second.cell second.side v w outlets distances
      (subst (λ (s : Side). IsCycle m second.cell s v) side (subst (λ (c : ℕ). IsCycle m c first.side v) cell first.cycle)) second.cycle
    where
      cell : first.cell ≡ second.cell
      cell = on_one m second.cell first.cell first.side second.side second.entry.solid first.entry.solid second.entry.surface (first.entry.at ∙ sym second.entry.at)

      there : IsEntry m face second.cell first.side
      there = subst (λ (c : ℕ). IsEntry m face c first.side) cell first.entry

      side : first.side ≡ second.side
      side = faces_apart m.cells (cell_place m.cells second.cell) first.side second.side second.entry.solid.1.0 (there.at ∙ sym second.entry.at)

  module _ (old : List ℤ) (flux : IsFlux m.cells old) (v w : List ℤ) (first : IsCycleMove m inside face old v) (second : IsCycleMove m inside face old w) where
    cycle : first.cycle ≡ second.cycle
    cycle = cycle_one first.cycle second.cycle first.is_cycle second.is_cycle

    parabola_is : (z : List ℤ) → IsParabola (energy_with m inside old z) (flow_rate (mesh_flow_forms m inside) (flows_through m.cells z)) (flow_slope (mesh_flow_forms m inside) (flows_of m.cells old) (flows_through m.cells z)) (flow_energy (mesh_flow_forms m inside) (flows_of m.cells old))
    parabola_is z = record {
      at = λ x. sym (flow_energy_is m inside (with_multiple m.cells old (flows_through m.cells z) x))
          ∙ (flows_parabola (mesh_flow_forms m inside) (flows_of m.cells old) (flows_through m.cells z)).at x;
    }

    multiple : first.multiple ≡ second.multiple
    multiple = one_place (energy_with m inside old second.cycle) _ _ _ (parabola_is second.cycle) (rate_up m inside (flows_through m.cells second.cycle)) (Keeps m old second.cycle)
        (none_keeps m inside face old w second flux) first.multiple second.multiple
        (subst (λ (z : List ℤ). IsNearestLeastOf (energy_with m inside old z) (Keeps m old z) (pos 0) first.multiple) cycle first.least) second.least

    at_face : (a : AxisName) (i j k : ℕ) → IsFace m.cells a (place_at i j k) → value_at v (face_number m.cells a (place_at i j k)) ≡ value_at w (face_number m.cells a (place_at i j k))
    at_face a i j k h = first.added a i j k h
        ∙ ap (λ (z : List ℤ). with_multiple m.cells old (flows_through m.cells z) first.multiple a i j k) cycle
        ∙ ap (λ (x : ℤ). with_multiple m.cells old (flows_through m.cells second.cycle) x a i j k) multiple
        ∙ sym (second.added a i j k h)

    at_number : (at : ℕ) → at < face_count m.cells → value_at v at ≡ value_at w at
    at_number at l = subst (λ (n : ℕ). value_at v n ≡ value_at w n) (face_number_of_place m.cells at l)
        (at_face (face_place m.cells at).axis (face_place m.cells at).place.i (face_place m.cells at).place.j (face_place m.cells at).place.k (face_place_within m.cells at l))

    pub one_move : v ≡ w
    one_move = ext_get_or (pos 0) v w (first.faces ∙ sym second.faces) (λ at l. at_number at (omega (arith, first.faces, flux.faces, l)))
