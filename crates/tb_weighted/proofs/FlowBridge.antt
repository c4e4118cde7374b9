-- The weighted energy of a flux of whole values is that of the mesh's form of flows.
use mathlib.Core.Path.{◌≡◌, refl, sym, ap, ◌∙◌, subst}
use mathlib.Core.Bool.{Bool, true, false}
use mathlib.Core.List.{[], ◌∷◌}
use Prim.Native.Nat.{ℕ, suc, ◌^◌, ◌*◌, ◌-◌, ◌<◌, ◌≤◌}
use native.Mathlib.Omega.{arith}
use Rattle.std.specs.Prelude.{Option, Some, None, if◌then◌else◌}
use lib.IntN.{ℤ, pos, negsuc, ◌+ℤ◌, ◌-ℤ◌, ◌*ℤ◌, neg_ℤ}
use Rattle.tb_math.specs.Rational.{int, ◌*ℚ◌, neg_ℚ}
use Rattle.tb_math.specs.Ceiling.{floor}
use Rattle.tb_math.proofs.RationalLaws.{int-neg}
use Rattle.tb_math.proofs.CeilingLaws.{floor-int}
use Rattle.tb_math.proofs.ReadRationals.{by_reading as by_reading_ℚ, reading as reading_ℚ}
use Rattle.tb_math.proofs.ReadIntegers.{by_reading, reading}
use Rattle.tb_math.proofs.SumLaws.{sum-cong}
use Rattle.tb_math.proofs.SumInstances.{adds_ℤ}
use Rattle.tb_places.specs.declared.AxisName.{AxisName}
use Rattle.tb_places.specs.declared.AxisName.TheVariants.{X, Y, Z}
use Rattle.tb_places.specs.Places.{second, third, along}
use Rattle.tb_detail.specs.declared.Content.{Content}
use Rattle.tb_detail.specs.declared.Content.TheVariants.{Solid, Air}
use Rattle.tb_model.specs.declared.FaceKind.{FaceKind}
use Rattle.tb_model.specs.declared.FaceKind.TheVariants.{Inner, Surface, Shut, Idle}
use Rattle.tb_model.specs.Mesh.{Mesh, kind, cross_section}
use Rattle.tb_model.specs.Energy.{Case, of_solid, at_surface, passage}
use Rattle.tb_weighted.specs.Weighted.{flux_weight, surface_flux_weight, weighted_flux}
use Rattle.tb_weighted.specs.Forms.{Spread3, axis_sum}
use Rattle.tb_weighted.specs.Flows.{FlowForms, Flows3, flow_cell, flow_face, flow_energy}
use Rattle.tb_weighted.specs.Moves.{whole_flux}
use Rattle.tb_weighted.specs.OnMesh.{IsFlowFormOf, mesh_flux_cell, mesh_flux_face, mesh_source, mesh_flow_forms}
use Rattle.tb_weighted.proofs.TwoFaces.{axis_mixed}

-- what the source counts, turned
abbrev taken : ℤ
taken = negsuc (60 * 2 ^ 44 - 1)

whole_passage : (w a b : ℤ) → int w *ℚ passage (int a) (int b) ≡ int (w *ℤ (a *ℤ a +ℤ a *ℤ b +ℤ b *ℤ b))
unfolding passage
whole_passage w a b = by_reading_ℚ {atoms = int w ∷ int a ∷ int b ∷ []} (search reading_ℚ depth 60 fits 100000) (search reading_ℚ depth 60 fits 100000) refl

whole_square : (w a : ℤ) → int w *ℚ (int a *ℚ int a) ≡ int (w *ℤ (a *ℤ a))
whole_square w a = by_reading_ℚ {atoms = int w ∷ int a ∷ []} (search reading_ℚ depth 60 fits 100000) (search reading_ℚ depth 60 fits 100000) refl

both : (a a' b b' : ℤ) → a ≡ a' → b ≡ b' → a +ℤ b ≡ a' +ℤ b'
both a a' b b' e f = rw (e, f) refl

mix : (d x x' y y' : ℤ) → x ≡ x' → y ≡ y' → pos 1 *ℤ x +ℤ d *ℤ y ≡ pos 1 *ℤ x' +ℤ d *ℤ y'
mix d x x' y y' e f = rw (e, f) refl

nothing_there : (d x : ℤ) → pos 0 *ℤ x ≡ pos 1 *ℤ pos 0 +ℤ d *ℤ pos 0
nothing_there d x = by_reading {atoms = d ∷ x ∷ []} (search reading depth 40 fits 20000) (search reading depth 40 fits 20000) refl

cell_alone : (d x : ℤ) → x ≡ pos 1 *ℤ x +ℤ d *ℤ pos 0
cell_alone d x = by_reading {atoms = d ∷ x ∷ []} (search reading depth 40 fits 20000) (search reading depth 40 fits 20000) refl

-- a cell, whatever fills it
cell_term : (d : ℤ) (c : Option Content) (weight : ℕ → ℤ) (a b : ℤ) →
    of_solid (pos 0) weight c *ℤ (a *ℤ a +ℤ a *ℤ b +ℤ b *ℤ b)
    ≡ pos 1 *ℤ of_solid (pos 0) (λ n. floor (int (weight n) *ℚ passage (int a) (int b))) c +ℤ d *ℤ of_solid (pos 0) (λ n. floor (int (pos 0))) c
cell_term d (Some (Solid n)) weight a b = cell_alone d (weight n *ℤ (a *ℤ a +ℤ a *ℤ b +ℤ b *ℤ b))
    ∙ sym (mix d _ _ _ _ (ap floor (whole_passage (weight n) a b) ∙ floor-int (weight n *ℤ (a *ℤ a +ℤ a *ℤ b +ℤ b *ℤ b))) (floor-int (pos 0)))
cell_term d (Some (Air e rs)) weight a b = nothing_there d (a *ℤ a +ℤ a *ℤ b +ℤ b *ℤ b)
cell_term d None weight a b = nothing_there d (a *ℤ a +ℤ a *ℤ b +ℤ b *ℤ b)

-- a face, whatever its kind
with_source : (d s f : ℤ) → s +ℤ d *ℤ f ≡ pos 1 *ℤ s +ℤ d *ℤ f
with_source d s f = by_reading {atoms = d ∷ s ∷ f ∷ []} (search reading depth 40 fits 20000) (search reading depth 40 fits 20000) refl

with_turned : (d s f : ℤ) → s +ℤ neg_ℤ d *ℤ f ≡ pos 1 *ℤ s +ℤ d *ℤ neg_ℤ f
with_turned d s f = by_reading {atoms = d ∷ s ∷ f ∷ []} (search reading depth 40 fits 20000) (search reading depth 40 fits 20000) refl

with_none : (d s f : ℤ) → s +ℤ pos 0 *ℤ f ≡ pos 1 *ℤ s +ℤ d *ℤ pos 0
with_none d s f = by_reading {atoms = d ∷ s ∷ f ∷ []} (search reading depth 40 fits 20000) (search reading depth 40 fits 20000) refl

no_face : (d s f : ℤ) → pos 0 *ℤ s +ℤ pos 0 *ℤ f ≡ pos 1 *ℤ pos 0 +ℤ d *ℤ pos 0
no_face d s f = by_reading {atoms = d ∷ s ∷ f ∷ []} (search reading depth 40 fits 20000) (search reading depth 40 fits 20000) refl

square : (w f : ℤ) → floor (int w *ℚ (int f *ℚ int f)) ≡ w *ℤ (f *ℤ f)
square w f = ap floor (whole_square w f) ∙ floor-int (w *ℤ (f *ℤ f))

surface_term : (b low : Bool) (d w f : ℤ) →
    w *ℤ (f *ℤ f) +ℤ (if b then (if low then d else neg_ℤ d) else pos 0) *ℤ f
    ≡ pos 1 *ℤ floor (int w *ℚ (int f *ℚ int f)) +ℤ d *ℤ floor (if b then (if low then int f else neg_ℚ (int f)) else int (pos 0))
surface_term true true d w f = with_source d (w *ℤ (f *ℤ f)) f ∙ sym (mix d _ _ _ _ (square w f) (floor-int f))
surface_term true false d w f = with_turned d (w *ℤ (f *ℤ f)) f ∙ sym (mix d _ _ _ _ (square w f) (ap floor (sym (int-neg f)) ∙ floor-int (neg_ℤ f)))
surface_term false low d w f = with_none d (w *ℤ (f *ℤ f)) f ∙ sym (mix d _ _ _ _ (square w f) (floor-int (pos 0)))

face_term : (inside : Case) (d : ℤ) (c : FaceKind) (weight : ℕ → ℤ) (f : ℤ) →
    at_surface (pos 0) (λ e rs low. weight rs) c *ℤ (f *ℤ f) +ℤ at_surface (pos 0) (λ e rs low. if inside e then (if low then d else neg_ℤ d) else pos 0) c *ℤ f
    ≡ pos 1 *ℤ at_surface (pos 0) (λ e rs low. floor (int (weight rs) *ℚ (int f *ℚ int f))) c
    +ℤ d *ℤ at_surface (pos 0) (λ e rs low. floor (if inside e then (if low then int f else neg_ℚ (int f)) else int (pos 0))) c
face_term inside d (Surface e rs low) weight f = surface_term (inside e) low d (weight rs) f
face_term inside d Inner weight f = no_face d (f *ℤ f) f
face_term inside d Shut weight f = no_face d (f *ℤ f) f
face_term inside d Idle weight f = no_face d (f *ℤ f) f

-- one axis, whose flows are g with the index along it first
module _ (m : Mesh) (inside : Case) (a : AxisName) (g : Spread3) where
  abbrev lost_in_cell : Spread3
  lost_in_cell i j k = of_solid (pos 0) (λ n. floor (int (flux_weight (m.conductivity n a) (m.width a i) (cross_section m a j k)) *ℚ passage (int (g i j k)) (int (g (suc i) j k)))) (along a m.occupant i j k)

  abbrev lost_at_face : Spread3
  lost_at_face i j k = at_surface (pos 0) (λ e rs low. floor (int (surface_flux_weight rs (cross_section m a j k)) *ℚ (int (g i j k) *ℚ int (g i j k)))) (kind m a i j k)

  abbrev none_in_cell : Spread3
  none_in_cell i j k = of_solid (pos 0) (λ n. floor (int (pos 0))) (along a m.occupant i j k)

  abbrev entering_at_face : Spread3
  entering_at_face i j k = at_surface (pos 0) (λ e rs low. floor (if inside e then (if low then int (g i j k) else neg_ℚ (int (g i j k))) else int (pos 0))) (kind m a i j k)

  pub axis_is : axis_sum (m.cells a) (m.cells (second a)) (m.cells (third a)) (flow_cell (mesh_flux_cell m a) g) (flow_face (mesh_flux_face m a) (mesh_source m inside a) g)
      ≡ pos 1 *ℤ axis_sum (m.cells a) (m.cells (second a)) (m.cells (third a)) lost_in_cell lost_at_face
      +ℤ taken *ℤ axis_sum (m.cells a) (m.cells (second a)) (m.cells (third a)) none_in_cell entering_at_face
  axis_is = axis_mixed (pos 1) taken (m.cells a) (m.cells (second a)) (m.cells (third a)) _ _ lost_in_cell lost_at_face none_in_cell entering_at_face
      (λ i j k. cell_term taken (along a m.occupant i j k) (λ n. flux_weight (m.conductivity n a) (m.width a i) (cross_section m a j k)) (g i j k) (g (suc i) j k))
      (λ i j k. face_term inside taken (kind m a i j k) (λ rs. surface_flux_weight rs (cross_section m a j k)) (g i j k))

-- the three axes
three : (c x y z x' y' z' : ℤ) → (pos 1 *ℤ x +ℤ neg_ℤ c *ℤ x') +ℤ (pos 1 *ℤ y +ℤ neg_ℤ c *ℤ y') +ℤ (pos 1 *ℤ z +ℤ neg_ℤ c *ℤ z') ≡ (x +ℤ y +ℤ z) -ℤ c *ℤ (x' +ℤ y' +ℤ z')
three c x y z x' y' z' = by_reading {atoms = c ∷ x ∷ y ∷ z ∷ x' ∷ y' ∷ z' ∷ []} (search reading depth 60 fits 100000) (search reading depth 60 fits 100000) refl

abbrev lost : Mesh → Case → Flows3 → AxisName → ℤ
lost m inside q a = axis_sum (m.cells a) (m.cells (second a)) (m.cells (third a)) (lost_in_cell m inside a (along a (q a))) (lost_at_face m inside a (along a (q a)))

abbrev entering : Mesh → Case → Flows3 → AxisName → ℤ
entering m inside q a = axis_sum (m.cells a) (m.cells (second a)) (m.cells (third a)) (none_in_cell m inside a (along a (q a))) (entering_at_face m inside a (along a (q a)))

pub flow_energy_is : (m : Mesh) (inside : Case) (q : Flows3) → flow_energy (mesh_flow_forms m inside) q ≡ weighted_flux m inside (whole_flux q)
unfolding flow_energy weighted_flux axis_sum
flow_energy_is m inside q = both _ _ _ _ (both _ _ _ _ (axis_is m inside X (along X (q X))) (axis_is m inside Y (along Y (q Y)))) (axis_is m inside Z (along Z (q Z)))
    ∙ three (pos (60 * 2 ^ 44)) (lost m inside q X) (lost m inside q Y) (lost m inside q Z) (entering m inside q X) (entering m inside q Y) (entering m inside q Z)

-- ---- a form that agrees with a mesh's has its energy
module _ (n m p : ℕ) (v s e v' s' e' g : Spread3)
    (same_v : (i j k : ℕ) → i < n → j < m → k < p → v i j k ≡ v' i j k) (same_s : (i j k : ℕ) → i ≤ n → j < m → k < p → s i j k ≡ s' i j k) (same_e : (i j k : ℕ) → i ≤ n → j < m → k < p → e i j k ≡ e' i j k) where
  weights_same : axis_sum n m p (flow_cell v g) (flow_face s e g) ≡ axis_sum n m p (flow_cell v' g) (flow_face s' e' g)
  unfolding axis_sum
  weights_same = sum-cong adds_ℤ p _ _ (λ k c. sum-cong adds_ℤ m _ _ (λ j b. both _ _ _ _
      (sum-cong adds_ℤ n _ _ (λ i a. ap (λ (z : ℤ). z *ℤ (g i j k *ℤ g i j k +ℤ g i j k *ℤ g (suc i) j k +ℤ g (suc i) j k *ℤ g (suc i) j k)) (same_v i j k a b c)))
      (sum-cong adds_ℤ (suc n) _ _ (λ i a. both _ _ _ _ (ap (λ (z : ℤ). z *ℤ (g i j k *ℤ g i j k)) (same_s i j k (omega arith) b c)) (ap (λ (z : ℤ). z *ℤ g i j k) (same_e i j k (omega arith) b c))))))

abbrev with_cells : FlowForms → (AxisName → ℕ) → FlowForms
with_cells f n = record { cells = n; cell = f.cell; face = f.face; source = f.source }

recounted : (f : FlowForms) (n : AxisName → ℕ) (q : Flows3) → f.cells ≡ n → flow_energy f q ≡ flow_energy (with_cells f n) q
recounted f n q e = subst (λ (k : AxisName → ℕ). flow_energy f q ≡ flow_energy (with_cells f k) q) e refl

pub flow_form_is : (m : Mesh) (inside : Case) (f : FlowForms) (q : Flows3) → IsFlowFormOf m inside f → flow_energy f q ≡ weighted_flux m inside (whole_flux q)
unfolding flow_energy
flow_form_is m inside f q h = recounted f m.cells q h.cells ∙ both _ _ _ _ (both _ _ _ _
    (weights_same (m.cells X) (m.cells Y) (m.cells Z) (f.cell X) (f.face X) (f.source X) (mesh_flux_cell m X) (mesh_flux_face m X) (mesh_source m inside X) (along X (q X)) (h.cell X) (h.face X) (h.source X))
    (weights_same (m.cells Y) (m.cells X) (m.cells Z) (f.cell Y) (f.face Y) (f.source Y) (mesh_flux_cell m Y) (mesh_flux_face m Y) (mesh_source m inside Y) (along Y (q Y)) (h.cell Y) (h.face Y) (h.source Y)))
    (weights_same (m.cells Z) (m.cells X) (m.cells Y) (f.cell Z) (f.face Z) (f.source Z) (mesh_flux_cell m Z) (mesh_flux_face m Z) (mesh_source m inside Z) (along Z (q Z)) (h.cell Z) (h.face Z) (h.source Z))
    ∙ flow_energy_is m inside q
