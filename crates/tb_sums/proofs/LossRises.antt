-- No cell takes anything away from a loss.
use Rattle.std.specs.Prelude.{IfSome}
use Rattle.std.proofs.Common.{◌≡◌, refl, subst, ℕ, zero, suc, ◌<◌, List, [], ◌∷◌, get_or, map, Option, Some, None, ℤ, pos, ◌+ℤ◌, ◌≤ℤ◌, arith}
use Rattle.std.specs.List.{All}
use Rattle.std.specs.Option.{option_map}
use Rattle.std.proofs.lemmas.Int.{ints}
use Rattle.std.proofs.lemmas.List.Elements.{All-head, All-tail}
use Rattle.tb_math.specs.Rational.{ℚ, int, ◌*ℚ◌, ◌≤ℚ◌}
use Rattle.tb_math.specs.Ceiling.{ceiling}
use Rattle.tb_math.proofs.CeilingLaws.{ceiling-nonneg}
use Rattle.tb_places.specs.declared.AxisName.TheVariants.{X, Y, Z}
use Rattle.tb_places.specs.Places.{place_at}
use Rattle.tb_detail.specs.declared.Content.{Content}
use Rattle.tb_detail.specs.declared.Content.TheVariants as content
use Rattle.tb_detail.specs.declared.Material.{Material}
use Rattle.tb_grid.specs.Axis.{interval_width}
use Rattle.tb_grid.specs.Grid.{counts_of}
use Rattle.tb_model.specs.Energy.{cell_loss, of_solid, passage, surface_loss}
use Rattle.tb_terms.specs.Limits.{IsConductivity, IsFlow, IsResistance, IsWidth}
use Rattle.tb_terms.proofs.FluxTerms.{flux_cell-not_below_zero, flux_face-not_below_zero}
use Rattle.tb_geometry.specs.Bodies.{filled_with}
use Rattle.tb_geometry.specs.Grids.{occupant_at}
use Rattle.tb_rows.specs.Cells.{at_air}
use Rattle.tb_rows.specs.Filled.{IsFilled}
use Rattle.tb_rows.specs.Around.{filled_above, filled_below}
use Rattle.tb_rows.specs.Rows.{mesh_under}
use Rattle.tb_rows.specs.Sums.{cell_up}
use Rattle.tb_rows.proofs.Filled.{above_fits, below_fits, occupant_fits}
use Rattle.tb_rows.proofs.Grids.{width_fits}
use Rattle.tb_rows.proofs.Sums.{Rises}
use Rattle.tb_sums.specs.declared.flux.BodyFlux.{BodyFlux}
use Rattle.tb_sums.specs.BodyFluxes.{IsBodyFlux, flow_at, loss_under}
use Rattle.tb_sums.specs.Losses.{loss_cell, loss_face}
use Rattle.tb_sums.proofs.FluxMeets.{cell_loss_meets, face_loss_meets}
use Rattle.tb_sums.proofs.Meets.{width_meets}

-- ---- terms
rounded_rises : (p q : ℚ) → p ≡ q → int (pos 0) ≤ℚ p → pos 0 ≤ℤ ceiling q
rounded_rises p q e h = subst (λ (t : ℚ). pos 0 ≤ℤ ceiling t) e (ceiling-nonneg p h)

cell_rises : (lambda a b c : ℕ) (low high : ℤ) (A B C : ℚ) → IsConductivity lambda → IsWidth a → IsWidth b → IsWidth c → IsFlow low → IsFlow high →
    int (pos a) ≡ A → int (pos b) ≡ B → int (pos c) ≡ C → pos 0 ≤ℤ ceiling (cell_loss (int (pos lambda)) A (B *ℚ C) (passage (int low) (int high)))
cell_rises lambda a b c low high A B C hl ha hb hc hlow hhigh ea eb ec =
    rounded_rises _ _ (cell_loss_meets lambda a b c (record { low = low; high = high }) A B C (int low) (int high) ea eb ec refl refl)
    (flux_cell-not_below_zero (loss_cell lambda a b c (record { low = low; high = high }))
    (record { conductivity = hl; a = ha; b = hb; c = hc; low = hlow; high = hhigh }))

face_rises : (rs b c : ℕ) (flow : ℤ) (B C : ℚ) → IsResistance rs → IsWidth b → IsWidth c → IsFlow flow → int (pos b) ≡ B → int (pos c) ≡ C →
    pos 0 ≤ℤ ceiling (surface_loss rs (B *ℚ C) (int flow))
face_rises rs b c flow B C hr hb hc hf eb ec =
    rounded_rises _ _ (face_loss_meets rs b c flow B C (int flow) eb ec refl)
    (flux_face-not_below_zero (loss_face rs b c flow) (record { resistance = hr; b = hb; c = hc; flow = hf }))

-- ---- flows
flow_within : (values : List ℤ) → All IsFlow values → (n : ℕ) → IsFlow (get_or values n (pos 0))
flow_within [] h n = record { at_most = omega arith }
flow_within (v ∷ vs) h zero = All-head IsFlow v vs h
flow_within (v ∷ vs) h (suc n) = flow_within vs (All-tail IsFlow v vs h) n

-- ---- what fills a cell and lies beside it
solid_rises : (materials : List Material) (o : Option Content) (h : ℕ → ℤ) → IfSome (option_map (filled_with materials) o) IsFilled →
    ((n : ℕ) → IsConductivity (get_or (map (λ m. m.lambda) materials) n 0) → pos 0 ≤ℤ h n) → pos 0 ≤ℤ of_solid (pos 0) h o
solid_rises materials (Some (content.Solid n)) h fits rises = rises n (fits.conducts _ refl)
solid_rises materials (Some (content.Air e rs)) h fits rises = omega (arith, ints)
solid_rises materials None h fits rises = omega (arith, ints)

side_rises : (materials : List Material) (o : Option Content) (h : ℕ → ℕ → ℤ) → IfSome (option_map (filled_with materials) o) IsFilled →
    ((e rs : ℕ) → IsResistance rs → pos 0 ≤ℤ h e rs) → pos 0 ≤ℤ at_air (pos 0) h o
side_rises materials (Some (content.Air e rs)) h fits rises = rises e rs (fits.resists e rs refl)
side_rises materials (Some (content.Solid n)) h fits rises = omega (arith, ints)
side_rises materials None h fits rises = omega (arith, ints)

nine_rise : (cx lx hx cy ly hy cz lz hz : ℤ) → pos 0 ≤ℤ cx → pos 0 ≤ℤ lx → pos 0 ≤ℤ hx → pos 0 ≤ℤ cy → pos 0 ≤ℤ ly → pos 0 ≤ℤ hy → pos 0 ≤ℤ cz → pos 0 ≤ℤ lz → pos 0 ≤ℤ hz →
    pos 0 ≤ℤ (((cx +ℤ (lx +ℤ hx)) +ℤ (cy +ℤ (ly +ℤ hy))) +ℤ (cz +ℤ (lz +ℤ hz)))
nine_rise cx lx hx cy ly hy cz lz hz e1 e2 e3 e4 e5 e6 e7 e8 e9 = omega (arith, ints)

-- ---- a cell
cell_up_rises : (f : BodyFlux) → IsBodyFlux f → (i j k : ℕ) → i < counts_of f.rows.grid.now X → j < counts_of f.rows.grid.now Y → k < counts_of f.rows.grid.now Z →
    pos 0 ≤ℤ cell_up (mesh_under f.rows) (loss_under f) i j k
unfolding cell_up
cell_up_rises f h i j k li lj lk =
    let d = f.rows.body.now in let g = f.rows.grid.now in let m = mesh_under f.rows in
    let limits = h.rows.limits in let carries = h.rows.carries in
    let x = interval_width g.x i in let y = interval_width g.y j in let z = interval_width g.z k in
    let wx : int (pos x) ≡ m.width X i = width_meets g.x i x refl in
    let wy : int (pos y) ≡ m.width Y j = width_meets g.y j y refl in
    let wz : int (pos z) ≡ m.width Z k = width_meets g.z k z refl in
    let fx : IsWidth x = width_fits d g limits carries X i li in
    let fy : IsWidth y = width_fits d g limits carries Y j lj in
    let fz : IsWidth z = width_fits d g limits carries Z k lk in
    solid_rises d.materials (m.occupant i j k) _ (occupant_fits d g limits (place_at i j k) (occupant_at d g (place_at i j k)) refl)
    (λ n conducts.
    nine_rise _ _ _ _ _ _ _ _ _
    (cell_rises _ x y z (flow_at f X i j k) (flow_at f X (suc i) j k) _ _ _ conducts fx fy fz (flow_within f.flows.now h.flows _) (flow_within f.flows.now h.flows _) wx wy wz)
    (side_rises d.materials _ _ (below_fits d g limits X i j k (filled_below d g X i j k) refl)
    (λ e rs resists. face_rises rs y z (flow_at f X i j k) _ _ resists fy fz (flow_within f.flows.now h.flows _) wy wz))
    (side_rises d.materials _ _ (above_fits d g limits X (suc i) j k (filled_above d g X (suc i) j k) refl)
    (λ e rs resists. face_rises rs y z (flow_at f X (suc i) j k) _ _ resists fy fz (flow_within f.flows.now h.flows _) wy wz))
    (cell_rises _ y x z (flow_at f Y i j k) (flow_at f Y i (suc j) k) _ _ _ conducts fy fx fz (flow_within f.flows.now h.flows _) (flow_within f.flows.now h.flows _) wy wx wz)
    (side_rises d.materials _ _ (below_fits d g limits Y j i k (filled_below d g Y j i k) refl)
    (λ e rs resists. face_rises rs x z (flow_at f Y i j k) _ _ resists fx fz (flow_within f.flows.now h.flows _) wx wz))
    (side_rises d.materials _ _ (above_fits d g limits Y (suc j) i k (filled_above d g Y (suc j) i k) refl)
    (λ e rs resists. face_rises rs x z (flow_at f Y i (suc j) k) _ _ resists fx fz (flow_within f.flows.now h.flows _) wx wz))
    (cell_rises _ z x y (flow_at f Z i j k) (flow_at f Z i j (suc k)) _ _ _ conducts fz fx fy (flow_within f.flows.now h.flows _) (flow_within f.flows.now h.flows _) wz wx wy)
    (side_rises d.materials _ _ (below_fits d g limits Z k i j (filled_below d g Z k i j) refl)
    (λ e rs resists. face_rises rs x y (flow_at f Z i j k) _ _ resists fx fy (flow_within f.flows.now h.flows _) wx wy))
    (side_rises d.materials _ _ (above_fits d g limits Z (suc k) i j (filled_above d g Z (suc k) i j) refl)
    (λ e rs resists. face_rises rs x y (flow_at f Z i j (suc k)) _ _ resists fx fy (flow_within f.flows.now h.flows _) wx wy)))

pub loss_rises : (f : BodyFlux) → IsBodyFlux f → Rises (mesh_under f.rows) (loss_under f)
loss_rises f h = record { cells = λ i j k li lj lk. cell_up_rises f h i j k li lj lk }
