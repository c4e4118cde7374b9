-- The weighted energy of a field of whole values is that of the mesh's form.
use mathlib.Core.Path.{◌≡◌, refl, sym, ap, ◌∙◌, subst}
use mathlib.Core.Bool.{Bool, true, false}
use mathlib.Core.List.{List, [], ◌∷◌}
use Prim.Native.Nat.{ℕ, suc, ◌^◌, ◌<◌, ◌≤◌}
use native.Mathlib.Omega.{arith}
use Rattle.std.specs.Prelude.{Option, Some, None, if◌then◌else◌}
use Rattle.std.proofs.lemmas.Int.{ints}
use lib.IntN.{ℤ, pos, ◌+ℤ◌, ◌-ℤ◌, ◌*ℤ◌}
use Rattle.tb_math.specs.Rational.{ℚ, int, ◌-ℚ◌, ◌*ℚ◌}
use Rattle.tb_math.specs.Ceiling.{floor}
use Rattle.tb_math.proofs.CeilingLaws.{floor-int}
use Rattle.tb_math.proofs.RationalLaws.{int-difference}
use Rattle.tb_math.proofs.ReadRationals.{by_reading, reading}
use Rattle.tb_math.proofs.SumLaws.{sum-cong}
use Rattle.tb_math.proofs.SumInstances.{adds_ℤ}
use Rattle.tb_places.specs.declared.AxisName.{AxisName}
use Rattle.tb_places.specs.declared.AxisName.TheVariants.{X, Y, Z}
use Rattle.tb_places.specs.Places.{second, third, along}
use Rattle.tb_detail.specs.declared.Content.{Content}
use Rattle.tb_detail.specs.declared.Content.TheVariants.{Solid, Air}
use Rattle.tb_model.specs.declared.FaceKind.{FaceKind}
use Rattle.tb_model.specs.declared.FaceKind.TheVariants.{Inner, Surface, Shut, Idle}
use Rattle.tb_model.specs.Mesh.{Mesh, kind, cross_section}
use Rattle.tb_model.specs.Energy.{Case, of_solid, at_surface, spread, spread_at, boundary}
use Rattle.tb_model.specs.Values.{field_of}
use Rattle.tb_weighted.specs.Weighted.{field_weight, surface_field_weight, weighted_field}
use Rattle.tb_weighted.specs.Forms.{form, Spread3, cell_part, face_part, axis_sum, Forms, form_energy}
use Rattle.tb_weighted.specs.Forms.{values_of}
use Rattle.tb_weighted.specs.Least.{IsNearestLeast}
use Rattle.std.proofs.Common.{set, get_or}
use Rattle.tb_weighted.specs.Forms.{IsFormMove}
use Rattle.tb_weighted.specs.Moves.{IsNodeMove}
use Rattle.tb_weighted.specs.OnMesh.{IsFormOf, mesh_cell, mesh_face, mesh_level, mesh_forms}

whole_spread : (w a b c d : ℤ) → int w *ℚ spread (int a) (int b) (int c) (int d) ≡ int (w *ℤ form a b c d)
unfolding spread
whole_spread w a b c d = by_reading {atoms = int w ∷ int a ∷ int b ∷ int c ∷ int d ∷ []} (search reading depth 60 fits 100000) (search reading depth 60 fits 100000) refl

-- a weight times the spread of whole differences
whole_term : (w a0 a1 b0 b1 c0 c1 d0 d1 : ℤ) → floor (int w *ℚ spread (int a1 -ℚ int a0) (int b1 -ℚ int b0) (int c1 -ℚ int c0) (int d1 -ℚ int d0)) ≡ w *ℤ form (a1 -ℤ a0) (b1 -ℤ b0) (c1 -ℤ c0) (d1 -ℤ d0)
whole_term w a0 a1 b0 b1 c0 c1 d0 d1 =
    ap (λ (t : ℚ). floor (int w *ℚ spread t (int b1 -ℚ int b0) (int c1 -ℚ int c0) (int d1 -ℚ int d0))) (sym (int-difference a1 a0))
    ∙ ap (λ (t : ℚ). floor (int w *ℚ spread (int (a1 -ℤ a0)) t (int c1 -ℚ int c0) (int d1 -ℚ int d0))) (sym (int-difference b1 b0))
    ∙ ap (λ (t : ℚ). floor (int w *ℚ spread (int (a1 -ℤ a0)) (int (b1 -ℤ b0)) t (int d1 -ℚ int d0))) (sym (int-difference c1 c0))
    ∙ ap (λ (t : ℚ). floor (int w *ℚ spread (int (a1 -ℤ a0)) (int (b1 -ℤ b0)) (int (c1 -ℤ c0)) t)) (sym (int-difference d1 d0))
    ∙ ap floor (whole_spread w (a1 -ℤ a0) (b1 -ℤ b0) (c1 -ℤ c0) (d1 -ℤ d0))
    ∙ floor-int (w *ℤ form (a1 -ℤ a0) (b1 -ℤ b0) (c1 -ℤ c0) (d1 -ℤ d0))

nothing : (x : ℤ) → pos 0 ≡ pos 0 *ℤ x
nothing x = omega (arith, ints)

both : (a a' b b' : ℤ) → a ≡ a' → b ≡ b' → a +ℤ b ≡ a' +ℤ b'
both a a' b b' e f = rw (e, f) refl

-- a cell, whatever fills it, and a face, whatever its kind
cell_term : (c : Option Content) (weight : ℕ → ℤ) (a0 a1 b0 b1 c0 c1 d0 d1 : ℤ) →
    of_solid (pos 0) (λ n. floor (int (weight n) *ℚ spread (int a1 -ℚ int a0) (int b1 -ℚ int b0) (int c1 -ℚ int c0) (int d1 -ℚ int d0))) c ≡ of_solid (pos 0) weight c *ℤ form (a1 -ℤ a0) (b1 -ℤ b0) (c1 -ℤ c0) (d1 -ℤ d0)
cell_term (Some (Solid n)) weight a0 a1 b0 b1 c0 c1 d0 d1 = whole_term (weight n) a0 a1 b0 b1 c0 c1 d0 d1
cell_term (Some (Air e rs)) weight a0 a1 b0 b1 c0 c1 d0 d1 = nothing (form (a1 -ℤ a0) (b1 -ℤ b0) (c1 -ℤ c0) (d1 -ℤ d0))
cell_term None weight a0 a1 b0 b1 c0 c1 d0 d1 = nothing (form (a1 -ℤ a0) (b1 -ℤ b0) (c1 -ℤ c0) (d1 -ℤ d0))

level_is : (b : Bool) → (if b then int (pos (10 ^ 8)) else int (pos 0)) ≡ int (if b then pos (10 ^ 8) else pos 0)
level_is true = refl
level_is false = refl

surface_term : (inside : Case) (e : ℕ) (w a b c d : ℤ) → floor (int w *ℚ spread (int a -ℚ boundary inside e) (int b -ℚ boundary inside e) (int c -ℚ boundary inside e) (int d -ℚ boundary inside e))
    ≡ w *ℤ form (a -ℤ (if inside e then pos (10 ^ 8) else pos 0)) (b -ℤ (if inside e then pos (10 ^ 8) else pos 0)) (c -ℤ (if inside e then pos (10 ^ 8) else pos 0)) (d -ℤ (if inside e then pos (10 ^ 8) else pos 0))
surface_term inside e w a b c d =
    ap (λ (t : ℚ). floor (int w *ℚ spread (int a -ℚ t) (int b -ℚ t) (int c -ℚ t) (int d -ℚ t))) (level_is (inside e))
    ∙ whole_term w (if inside e then pos (10 ^ 8) else pos 0) a (if inside e then pos (10 ^ 8) else pos 0) b (if inside e then pos (10 ^ 8) else pos 0) c (if inside e then pos (10 ^ 8) else pos 0) d

face_term : (inside : Case) (f : FaceKind) (weight : ℕ → ℤ) (a b c d : ℤ) →
    at_surface (pos 0) (λ e rs low. floor (int (weight rs) *ℚ spread (int a -ℚ boundary inside e) (int b -ℚ boundary inside e) (int c -ℚ boundary inside e) (int d -ℚ boundary inside e))) f
    ≡ at_surface (pos 0) (λ e rs low. weight rs) f *ℤ form (a -ℤ at_surface (pos 0) (λ e rs low. if inside e then pos (10 ^ 8) else pos 0) f) (b -ℤ at_surface (pos 0) (λ e rs low. if inside e then pos (10 ^ 8) else pos 0) f)
    (c -ℤ at_surface (pos 0) (λ e rs low. if inside e then pos (10 ^ 8) else pos 0) f) (d -ℤ at_surface (pos 0) (λ e rs low. if inside e then pos (10 ^ 8) else pos 0) f)
face_term inside (Surface e rs low) weight a b c d = surface_term inside e (weight rs) a b c d
face_term inside Inner weight a b c d = nothing (form (a -ℤ pos 0) (b -ℤ pos 0) (c -ℤ pos 0) (d -ℤ pos 0))
face_term inside Shut weight a b c d = nothing (form (a -ℤ pos 0) (b -ℤ pos 0) (c -ℤ pos 0) (d -ℤ pos 0))
face_term inside Idle weight a b c d = nothing (form (a -ℤ pos 0) (b -ℤ pos 0) (c -ℤ pos 0) (d -ℤ pos 0))

-- one axis, whose values are g with the index along it first
module _ (m : Mesh) (inside : Case) (a : AxisName) (g : Spread3) where
  abbrev model_cell : ℕ → ℕ → ℕ → ℤ
  model_cell i j k = of_solid (pos 0) (λ n. floor (int (field_weight (m.conductivity n a) (m.width a i) (cross_section m a j k)) *ℚ spread_at (λ q r. int (g (suc i) q r) -ℚ int (g i q r)) j k)) (along a m.occupant i j k)

  abbrev model_face : ℕ → ℕ → ℕ → ℤ
  model_face i j k = at_surface (pos 0) (λ e rs low. floor (int (surface_field_weight rs (cross_section m a j k)) *ℚ spread_at (λ q r. int (g i q r) -ℚ boundary inside e) j k)) (kind m a i j k)

  pub axis_is : axis_sum (m.cells a) (m.cells (second a)) (m.cells (third a)) model_cell model_face
      ≡ axis_sum (m.cells a) (m.cells (second a)) (m.cells (third a)) (cell_part (mesh_cell m a) g) (face_part (mesh_face m a) (mesh_level m inside a) g)
  unfolding axis_sum
  axis_is = sum-cong adds_ℤ (m.cells (third a)) _ _ (λ k c. sum-cong adds_ℤ (m.cells (second a)) _ _ (λ j b. both _ _ _ _
      (sum-cong adds_ℤ (m.cells a) _ _ (λ i d. cell_term (along a m.occupant i j k) (λ n. field_weight (m.conductivity n a) (m.width a i) (cross_section m a j k))
      (g i j k) (g (suc i) j k) (g i (suc j) k) (g (suc i) (suc j) k) (g i j (suc k)) (g (suc i) j (suc k)) (g i (suc j) (suc k)) (g (suc i) (suc j) (suc k))))
      (sum-cong adds_ℤ (suc (m.cells a)) _ _ (λ i d. face_term inside (kind m a i j k) (λ rs. surface_field_weight rs (cross_section m a j k)) (g i j k) (g i (suc j) k) (g i j (suc k)) (g i (suc j) (suc k))))))

-- the whole
pub energy_is : (m : Mesh) (inside : Case) (vs : List ℤ) → form_energy (mesh_forms m inside) (values_of m.cells vs) ≡ weighted_field m inside (field_of m.cells vs)
unfolding form_energy weighted_field axis_sum
energy_is m inside vs = sym (both _ _ _ _ (both _ _ _ _
    (axis_is m inside X (along X (values_of m.cells vs))) (axis_is m inside Y (along Y (values_of m.cells vs)))) (axis_is m inside Z (along Z (values_of m.cells vs))))

-- ---- a form that agrees with a mesh's has its energy
module _ (n m p : ℕ) (w s l w' s' l' g : Spread3)
    (same_w : (i j k : ℕ) → i < n → j < m → k < p → w i j k ≡ w' i j k) (same_s : (i j k : ℕ) → i ≤ n → j < m → k < p → s i j k ≡ s' i j k) (same_l : (i j k : ℕ) → i ≤ n → j < m → k < p → l i j k ≡ l' i j k) where
  weights_same : axis_sum n m p (cell_part w g) (face_part s l g) ≡ axis_sum n m p (cell_part w' g) (face_part s' l' g)
  unfolding axis_sum
  weights_same = sum-cong adds_ℤ p _ _ (λ k c. sum-cong adds_ℤ m _ _ (λ j b. both _ _ _ _
      (sum-cong adds_ℤ n _ _ (λ i a. ap (λ (z : ℤ). z *ℤ form (g (suc i) j k -ℤ g i j k) (g (suc i) (suc j) k -ℤ g i (suc j) k) (g (suc i) j (suc k) -ℤ g i j (suc k)) (g (suc i) (suc j) (suc k) -ℤ g i (suc j) (suc k))) (same_w i j k a b c)))
      (sum-cong adds_ℤ (suc n) _ _ (λ i a. ap (λ (z : ℤ). z *ℤ form (g i j k -ℤ l i j k) (g i (suc j) k -ℤ l i j k) (g i j (suc k) -ℤ l i j k) (g i (suc j) (suc k) -ℤ l i j k)) (same_s i j k (omega arith) b c)
      ∙ ap (λ (z : ℤ). s' i j k *ℤ form (g i j k -ℤ z) (g i (suc j) k -ℤ z) (g i j (suc k) -ℤ z) (g i (suc j) (suc k) -ℤ z)) (same_l i j k (omega arith) b c)))))

abbrev with_cells : Forms → (AxisName → ℕ) → Forms
with_cells f n = record { cells = n; cell = f.cell; face = f.face; level = f.level }

recounted : (f : Forms) (n : AxisName → ℕ) (vs : List ℤ) → f.cells ≡ n → form_energy f (values_of f.cells vs) ≡ form_energy (with_cells f n) (values_of n vs)
recounted f n vs e = subst (λ (k : AxisName → ℕ). form_energy f (values_of f.cells vs) ≡ form_energy (with_cells f k) (values_of k vs)) e refl

pub form_is : (m : Mesh) (inside : Case) (f : Forms) (vs : List ℤ) → IsFormOf m inside f → form_energy f (values_of f.cells vs) ≡ weighted_field m inside (field_of m.cells vs)
unfolding form_energy
form_is m inside f vs h = recounted f m.cells vs h.cells ∙ both _ _ _ _ (both _ _ _ _
    (weights_same (m.cells X) (m.cells Y) (m.cells Z) (f.cell X) (f.face X) (f.level X) (mesh_cell m X) (mesh_face m X) (mesh_level m inside X) (along X (values_of m.cells vs)) (h.cell X) (h.face X) (h.level X))
    (weights_same (m.cells Y) (m.cells X) (m.cells Z) (f.cell Y) (f.face Y) (f.level Y) (mesh_cell m Y) (mesh_face m Y) (mesh_level m inside Y) (along Y (values_of m.cells vs)) (h.cell Y) (h.face Y) (h.level Y)))
    (weights_same (m.cells Z) (m.cells X) (m.cells Y) (f.cell Z) (f.face Z) (f.level Z) (mesh_cell m Z) (mesh_face m Z) (mesh_level m inside Z) (along Z (values_of m.cells vs)) (h.cell Z) (h.face Z) (h.level Z))
    ∙ energy_is m inside vs

-- a move of the form is a move of the mesh
pub node_move : (m : Mesh) (inside : Case) (f : Forms) (node : ℕ) (old new : List ℤ) → IsFormOf m inside f → IsFormMove f node old new → IsNodeMove m inside node old new
node_move m inside f node old new h k = record {
  value = k.value;
  least = subst (λ (q : ℤ → ℤ). IsNearestLeast q (pos 0) (pos (10 ^ 8)) (get_or old node (pos 0)) k.value) same k.least;
  rest = k.rest;
}
  where
    same : ◌≡◌ {A = ℤ → ℤ} (λ x. form_energy f (values_of f.cells (set old node x))) (λ x. weighted_field m inside (field_of m.cells (set old node x)))
    same = λ i x. form_is m inside f (set old node x) h i
