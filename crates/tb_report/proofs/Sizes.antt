-- How large the ends of a field and of a flux are.
use Rattle.std.specs.Prelude.{IfSome, unsigned_abs}
use Rattle.std.proofs.Common.{◌≡◌, ◌∙◌, refl, ap, subst, ℕ, zero, suc, ◌+◌, ◌*◌, ◌^◌, ◌<◌, ◌≤◌, Bool, true, false, if◌then◌else◌, List, [], ◌∷◌, get_or, map, Option, Some, None, ℤ, pos, ◌+ℤ◌, ◌-ℤ◌, ◌≤ℤ◌, arith, All}
use Rattle.std.specs.Option.{option_map}
use Rattle.std.proofs.lemmas.Int.{ints}
use Rattle.std.proofs.lemmas.List.Elements.{All-cons, All-head, All-nil, All-tail}
use Rattle.tb_math.specs.Ceiling.{ceiling}
use Rattle.tb_math.specs.Rational.{ℚ, int, ◌*ℚ◌, ◌-ℚ◌, ◌≤ℚ◌}
use Rattle.tb_math.specs.Sums.{total_ℤ}
use Rattle.tb_math.proofs.CeilingLaws.{ceiling-least, ceiling-nonneg}
use Rattle.tb_math.proofs.RationalLaws.{int-difference}
use Rattle.tb_places.specs.declared.AxisName.{AxisName}
use Rattle.tb_places.specs.declared.AxisName.TheVariants.{X, Y, Z}
use Rattle.tb_places.specs.Places.{node_number, place_at}
use Rattle.tb_detail.specs.declared.Content.{Content}
use Rattle.tb_detail.specs.declared.Content.TheVariants as content
use Rattle.tb_detail.specs.declared.Detail.{Detail}
use Rattle.tb_detail.specs.declared.Material.{Material}
use Rattle.tb_detail.specs.Limits.{InLimits}
use Rattle.tb_grid.specs.Axis.{interval_width}
use Rattle.tb_grid.specs.Grid.{Axes, IsGrid, counts_of}
use Rattle.tb_model.specs.Energy.{Terms, cell_energy, field_terms, of_solid, rounded_up, spread, surface_energy, upper_end}
use Rattle.tb_model.specs.Mesh.{Mesh}
use Rattle.tb_model.specs.Values.{case_of}
use Rattle.tb_terms.specs.Limits.{IsConductivity, IsDifference, IsResistance, IsWidth}
use Rattle.tb_terms.specs.Terms.{FitsFieldCell, FitsFieldFace, field_cell_term, field_face_term}
use Rattle.tb_terms.proofs.FieldTerms.{field_cell-bounded, field_cell-not_below_zero, field_face-bounded, field_face-not_below_zero}
use Rattle.tb_terms.proofs.Spread.{sum-size}
use Rattle.tb_field.specs.Fields.{AreTemperatures, IsTemperature, field_on}
use Rattle.tb_geometry.specs.Bodies.{filled_with}
use Rattle.tb_geometry.specs.Grids.{CarriesBody, mesh_on, occupant_at}
use Rattle.tb_rows.specs.Around.{filled_above, filled_below}
use Rattle.tb_rows.specs.Cells.{at_air}
use Rattle.tb_rows.specs.Filled.{IsFilled}
use Rattle.tb_rows.specs.Sums.{cell_up, cells_up, layers_up, rows_up}
use Rattle.tb_rows.proofs.Filled.{above_fits, below_fits, occupant_fits}
use Rattle.tb_rows.proofs.Grids.{few_cells, width_fits}
use Rattle.tb_rows.proofs.Sums.{whole_is}
use Rattle.tb_sums.specs.Corners.{cell_at, face_at}
use Rattle.tb_sums.proofs.Meets.{areas, width_meets}

-- a whole number is at most so large. It is a record, so that a lemma finds the number from the fact
pub record IsSmall (most : ℕ) (z : ℤ) : Type 0 where
  pub size : unsigned_abs z ≤ most

-- ---- sums
sum_size : (n most : ℕ) (f : ℕ → ℤ) → ((i : ℕ) → i < n → unsigned_abs (f i) ≤ most) → unsigned_abs (total_ℤ n f) ≤ n * most
sum_size zero most f h = omega arith
sum_size (suc n) most f h =
    let before = sum_size n most f (λ i l. h i (omega arith)) in
    let here = h n (omega arith) in
    let both : unsigned_abs (total_ℤ n f +ℤ f n) ≤ n * most + most = sum-size (total_ℤ n f) (f n) (n * most) most before here in
    omega (arith, both)

sum_at_most : (n c most : ℕ) (f : ℕ → ℤ) → n ≤ c → ((i : ℕ) → i < n → unsigned_abs (f i) ≤ most) → unsigned_abs (total_ℤ n f) ≤ c * most
sum_at_most n c most f l h =
    let s = sum_size n most f h in
    let t : n * most ≤ c * most = grind arith in omega (arith, s, t)

-- of each cell of a mesh at most so much is added
pub record AddsAtMost (m : Mesh) (t : Terms) (most : ℕ) : Type 0 where
  pub cells : (i j k : ℕ) → i < m.cells X → j < m.cells Y → k < m.cells Z → IsSmall most (cell_up m t i j k)

module _ (m : Mesh) (t : Terms) (most : ℕ) (few : (a : AxisName) → m.cells a ≤ 1023) (h : AddsAtMost m t most) where
  row_size : (j k : ℕ) → j < m.cells Y → k < m.cells Z → unsigned_abs (cells_up m t j k (m.cells X)) ≤ 1023 * most
  unfolding cells_up
  row_size j k lj lk = sum_at_most (m.cells X) 1023 most (λ i. cell_up m t i j k) (few X) (λ i li. (h.cells i j k li lj lk).size)

  layer_size : (k : ℕ) → k < m.cells Z → unsigned_abs (rows_up m t k (m.cells Y)) ≤ 1023 * (1023 * most)
  unfolding rows_up
  layer_size k lk = sum_at_most (m.cells Y) 1023 (1023 * most) (λ j. cells_up m t j k (m.cells X)) (few Y) (λ j lj. row_size j k lj lk)

  layers_size : unsigned_abs (layers_up m t (m.cells Z)) ≤ 1023 * (1023 * (1023 * most))
  unfolding layers_up
  layers_size = sum_at_most (m.cells Z) 1023 (1023 * (1023 * most)) (λ k. rows_up m t k (m.cells Y)) (few Z) (λ k lk. layer_size k lk)

  pub whole_size : unsigned_abs (rounded_up m t) ≤ 1023 * (1023 * (1023 * most))
  whole_size = subst (λ (z : ℤ). unsigned_abs z ≤ 1023 * (1023 * (1023 * most))) (whole_is m t) layers_size

-- ---- a cell
pub solid_size : (materials : List Material) (o : Option Content) (h : ℕ → ℤ) (most : ℕ) → IfSome (option_map (filled_with materials) o) IsFilled →
    ((n : ℕ) → IsConductivity (get_or (map (λ m. m.lambda) materials) n 0) → IsSmall most (h n)) → IsSmall most (of_solid (pos 0) h o)
solid_size materials (Some (content.Solid n)) h most fits each = each n (fits.conducts _ refl)
solid_size materials (Some (content.Air e rs)) h most fits each = record { size = omega arith }
solid_size materials None h most fits each = record { size = omega arith }

pub side_size : (materials : List Material) (o : Option Content) (h : ℕ → ℕ → ℤ) (most : ℕ) → IfSome (option_map (filled_with materials) o) IsFilled →
    ((e rs : ℕ) → IsResistance rs → IsSmall most (h e rs)) → IsSmall most (at_air (pos 0) h o)
side_size materials (Some (content.Air e rs)) h most fits each = each e rs (fits.resists e rs refl)
side_size materials (Some (content.Solid n)) h most fits each = record { size = omega arith }
side_size materials None h most fits each = record { size = omega arith }

pub nine_size : (cx lx hx cy ly hy cz lz hz : ℤ) (most : ℕ) → IsSmall most cx → IsSmall most lx → IsSmall most hx → IsSmall most cy → IsSmall most ly → IsSmall most hy →
    IsSmall most cz → IsSmall most lz → IsSmall most hz → IsSmall (9 * most) (((cx +ℤ (lx +ℤ hx)) +ℤ (cy +ℤ (ly +ℤ hy))) +ℤ (cz +ℤ (lz +ℤ hz)))
nine_size cx lx hx cy ly hy cz lz hz most e1 e2 e3 e4 e5 e6 e7 e8 e9 =
    let x = sum-size cx (lx +ℤ hx) most (most + most) e1.size (sum-size lx hx most most e2.size e3.size) in
    let y = sum-size cy (ly +ℤ hy) most (most + most) e4.size (sum-size ly hy most most e5.size e6.size) in
    let z = sum-size cz (lz +ℤ hz) most (most + most) e7.size (sum-size lz hz most most e8.size e9.size) in
    let all = sum-size ((cx +ℤ (lx +ℤ hx)) +ℤ (cy +ℤ (ly +ℤ hy))) (cz +ℤ (lz +ℤ hz)) _ _ (sum-size (cx +ℤ (lx +ℤ hx)) (cy +ℤ (ly +ℤ hy)) _ _ x y) z in
    record { size = omega (arith, all) }

-- ---- the terms of a field
rounded_size : (p q : ℚ) (most : ℕ) → p ≡ q → int (pos 0) ≤ℚ p → p ≤ℚ int (pos most) → IsSmall most (ceiling q)
rounded_size p q most e low high =
    let least = ceiling-nonneg p low in
    let greatest : ceiling p ≤ℤ pos most = (ceiling-least p (pos most)).1 high in
    subst (λ (t : ℚ). IsSmall most (ceiling t)) e (record { size = within (ceiling p) most least greatest })
  where
    within : (z : ℤ) (most : ℕ) → pos 0 ≤ℤ z → z ≤ℤ pos most → unsigned_abs z ≤ most
    within z most l h = omega (arith, ints)

spreads : (p q r s p' q' r' s' : ℚ) → p ≡ p' → q ≡ q' → r ≡ r' → s ≡ s' → spread p q r s ≡ spread p' q' r' s'
spreads p q r s p' q' r' s' e f g h = ap (λ t. spread t q r s) e ∙ ap (λ t. spread p' t r s) f ∙ ap (λ t. spread p' q' t s) g ∙ ap (λ t. spread p' q' r' t) h

-- four differences of temperatures
four_rises : (u00 u10 u01 u11 v00 v10 v01 v11 : ℤ) →
    spread (int (u00 -ℤ v00)) (int (u10 -ℤ v10)) (int (u01 -ℤ v01)) (int (u11 -ℤ v11)) ≡ spread (int u00 -ℚ int v00) (int u10 -ℚ int v10) (int u01 -ℚ int v01) (int u11 -ℚ int v11)
four_rises u00 u10 u01 u11 v00 v10 v01 v11 =
    spreads _ _ _ _ _ _ _ _ (int-difference u00 v00) (int-difference u10 v10) (int-difference u01 v01) (int-difference u11 v11)

rise : (u v : ℤ) → IsTemperature u → IsTemperature v → IsDifference (u -ℤ v)
rise u v h k = record { at_most = small u v h.least h.most k.least k.most }
  where
    small : (u v : ℤ) → pos 0 ≤ℤ u → u ≤ℤ pos (10 ^ 8) → pos 0 ≤ℤ v → v ≤ℤ pos (10 ^ 8) → unsigned_abs (u -ℤ v) ≤ 10 ^ 8
    small u v a b c d = omega (arith, ints)

four : (a b c d : ℤ) → IsDifference a → IsDifference b → IsDifference c → IsDifference d → All IsDifference (a ∷ b ∷ c ∷ d ∷ [])
four a b c d ha hb hc hd = All-cons IsDifference a (b ∷ c ∷ d ∷ []) ha (All-cons IsDifference b (c ∷ d ∷ []) hb (All-cons IsDifference c (d ∷ []) hc (All-cons IsDifference d [] hd (All-nil IsDifference))))

abbrev most_energy : ℕ
most_energy = 125 * 10 ^ 23

cell_size : (lambda a b c : ℕ) (u00 u10 u01 u11 v00 v10 v01 v11 : ℤ) (A B C : ℚ) → IsConductivity lambda → IsWidth a → IsWidth b → IsWidth c →
    IsTemperature u00 → IsTemperature u10 → IsTemperature u01 → IsTemperature u11 → IsTemperature v00 → IsTemperature v10 → IsTemperature v01 → IsTemperature v11 →
    int (pos a) ≡ A → int (pos b) ≡ B → int (pos c) ≡ C →
    IsSmall most_energy (ceiling (cell_energy (int (pos lambda)) A (B *ℚ C) (spread (int u00 -ℚ int v00) (int u10 -ℚ int v10) (int u01 -ℚ int v01) (int u11 -ℚ int v11))))
cell_size lambda a b c u00 u10 u01 u11 v00 v10 v01 v11 A B C hl ha hb hc hu00 hu10 hu01 hu11 hv00 hv10 hv01 hv11 ea eb ec =
    let x = cell_at lambda a b c (u00 -ℤ v00) (u10 -ℤ v10) (u01 -ℤ v01) (u11 -ℤ v11) in
    let fits : FitsFieldCell x = record { conductivity = hl; a = ha; b = hb; c = hc; differences = four _ _ _ _ (rise u00 v00 hu00 hv00) (rise u10 v10 hu10 hv10) (rise u01 v01 hu01 hv01) (rise u11 v11 hu11 hv11) } in
    rounded_size (field_cell_term x) _ most_energy
    (ap (λ (w : ℚ). cell_energy (int (pos lambda)) w (int (pos b) *ℚ int (pos c)) (spread (int (u00 -ℤ v00)) (int (u10 -ℤ v10)) (int (u01 -ℤ v01)) (int (u11 -ℤ v11)))) ea
    ∙ ap (λ (w : ℚ). cell_energy (int (pos lambda)) A w (spread (int (u00 -ℤ v00)) (int (u10 -ℤ v10)) (int (u01 -ℤ v01)) (int (u11 -ℤ v11)))) (areas b c B C eb ec)
    ∙ ap (λ (w : ℚ). cell_energy (int (pos lambda)) A (B *ℚ C) w) (four_rises u00 u10 u01 u11 v00 v10 v01 v11))
    (field_cell-not_below_zero x fits) (field_cell-bounded x fits)

face_size : (rs b c : ℕ) (u00 u10 u01 u11 v : ℤ) (B C : ℚ) → IsResistance rs → IsWidth b → IsWidth c →
    IsTemperature u00 → IsTemperature u10 → IsTemperature u01 → IsTemperature u11 → IsTemperature v → int (pos b) ≡ B → int (pos c) ≡ C →
    IsSmall most_energy (ceiling (surface_energy rs (B *ℚ C) (spread (int u00 -ℚ int v) (int u10 -ℚ int v) (int u01 -ℚ int v) (int u11 -ℚ int v))))
face_size rs b c u00 u10 u01 u11 v B C hr hb hc hu00 hu10 hu01 hu11 hv eb ec =
    let x = face_at rs b c (u00 -ℤ v) (u10 -ℤ v) (u01 -ℤ v) (u11 -ℤ v) in
    let fits : FitsFieldFace x = record { resistance = hr; b = hb; c = hc; differences = four _ _ _ _ (rise u00 v hu00 hv) (rise u10 v hu10 hv) (rise u01 v hu01 hv) (rise u11 v hu11 hv) } in
    let small = rounded_size (field_face_term x) _ (25 * 10 ^ 21)
    (ap (λ (w : ℚ). surface_energy rs w (spread (int (u00 -ℤ v)) (int (u10 -ℤ v)) (int (u01 -ℤ v)) (int (u11 -ℤ v)))) (areas b c B C eb ec)
    ∙ ap (λ (w : ℚ). surface_energy rs (B *ℚ C) w) (four_rises u00 u10 u01 u11 v v v v))
    (field_face-not_below_zero x fits) (field_face-bounded x fits) in
    record { size = omega (arith, small.size) }

air_size : (rs b c : ℕ) (warm : Bool) (u00 u10 u01 u11 : ℤ) (B C : ℚ) → IsResistance rs → IsWidth b → IsWidth c →
    IsTemperature u00 → IsTemperature u10 → IsTemperature u01 → IsTemperature u11 → int (pos b) ≡ B → int (pos c) ≡ C →
    let level = if warm then int (pos (10 ^ 8)) else int (pos 0) in
    IsSmall most_energy (ceiling (surface_energy rs (B *ℚ C) (spread (int u00 -ℚ level) (int u10 -ℚ level) (int u01 -ℚ level) (int u11 -ℚ level))))
air_size rs b c true u00 u10 u01 u11 B C hr hb hc h00 h10 h01 h11 eb ec =
    face_size rs b c u00 u10 u01 u11 (pos (10 ^ 8)) B C hr hb hc h00 h10 h01 h11 (record { least = omega (arith, ints); most = omega (arith, ints) }) eb ec
air_size rs b c false u00 u10 u01 u11 B C hr hb hc h00 h10 h01 h11 eb ec =
    face_size rs b c u00 u10 u01 u11 (pos 0) B C hr hb hc h00 h10 h01 h11 (record { least = omega (arith, ints); most = omega (arith, ints) }) eb ec

temperature_within : (values : List ℤ) → All IsTemperature values → (n : ℕ) → IsTemperature (get_or values n (pos 0))
temperature_within [] h n = record { least = omega (arith, ints); most = omega (arith, ints) }
temperature_within (v ∷ vs) h zero = All-head IsTemperature v vs h
temperature_within (v ∷ vs) h (suc n) = temperature_within vs (All-tail IsTemperature v vs h) n

module _ (d : Detail) (g : Axes) (values : List ℤ) (mask : ℕ) (limits : InLimits d) (carries : CarriesBody g d) (grid : IsGrid g) (warm : AreTemperatures values) where
  abbrev m : Mesh
  m = mesh_on d g

  abbrev t : Terms
  t = field_terms m (case_of mask) (field_on g values)

  abbrev node : ℕ → ℕ → ℕ → ℤ
  node i j k = get_or values (node_number (counts_of g) (place_at i j k)) (pos 0)

  is_warm : (i j k : ℕ) → IsTemperature (node i j k)
  is_warm i j k = temperature_within values warm _

  energy_size : (i j k : ℕ) → i < counts_of g X → j < counts_of g Y → k < counts_of g Z → IsSmall (9 * most_energy) (cell_up m t i j k)
  unfolding cell_up
  energy_size i j k li lj lk =
      let x = interval_width g.x i in let y = interval_width g.y j in let z = interval_width g.z k in
      let wx : int (pos x) ≡ m.width X i = width_meets g.x i x refl in
      let wy : int (pos y) ≡ m.width Y j = width_meets g.y j y refl in
      let wz : int (pos z) ≡ m.width Z k = width_meets g.z k z refl in
      let fx : IsWidth x = width_fits d g limits carries X i li in
      let fy : IsWidth y = width_fits d g limits carries Y j lj in
      let fz : IsWidth z = width_fits d g limits carries Z k lk in
      let n000 = is_warm i j k in let n100 = is_warm (suc i) j k in let n010 = is_warm i (suc j) k in let n110 = is_warm (suc i) (suc j) k in
      let n001 = is_warm i j (suc k) in let n101 = is_warm (suc i) j (suc k) in let n011 = is_warm i (suc j) (suc k) in let n111 = is_warm (suc i) (suc j) (suc k) in
      let t000 = node i j k in let t100 = node (suc i) j k in let t010 = node i (suc j) k in let t110 = node (suc i) (suc j) k in
      let t001 = node i j (suc k) in let t101 = node (suc i) j (suc k) in let t011 = node i (suc j) (suc k) in let t111 = node (suc i) (suc j) (suc k) in
      solid_size d.materials (m.occupant i j k) _ _ (occupant_fits d g limits (place_at i j k) (occupant_at d g (place_at i j k)) refl)
      (λ n conducts.
      nine_size _ _ _ _ _ _ _ _ _ most_energy
      (cell_size _ x y z t100 t110 t101 t111 t000 t010 t001 t011 _ _ _ conducts fx fy fz n100 n110 n101 n111 n000 n010 n001 n011 wx wy wz)
      (side_size d.materials _ _ _ (below_fits d g limits X i j k (filled_below d g X i j k) refl)
      (λ e rs resists. air_size rs y z (case_of mask e) t000 t010 t001 t011 _ _ resists fy fz n000 n010 n001 n011 wy wz))
      (side_size d.materials _ _ _ (above_fits d g limits X (suc i) j k (filled_above d g X (suc i) j k) refl)
      (λ e rs resists. air_size rs y z (case_of mask e) t100 t110 t101 t111 _ _ resists fy fz n100 n110 n101 n111 wy wz))
      (cell_size _ y x z t010 t110 t011 t111 t000 t100 t001 t101 _ _ _ conducts fy fx fz n010 n110 n011 n111 n000 n100 n001 n101 wy wx wz)
      (side_size d.materials _ _ _ (below_fits d g limits Y j i k (filled_below d g Y j i k) refl)
      (λ e rs resists. air_size rs x z (case_of mask e) t000 t100 t001 t101 _ _ resists fx fz n000 n100 n001 n101 wx wz))
      (side_size d.materials _ _ _ (above_fits d g limits Y (suc j) i k (filled_above d g Y (suc j) i k) refl)
      (λ e rs resists. air_size rs x z (case_of mask e) t010 t110 t011 t111 _ _ resists fx fz n010 n110 n011 n111 wx wz))
      (cell_size _ z x y t001 t101 t011 t111 t000 t100 t010 t110 _ _ _ conducts fz fx fy n001 n101 n011 n111 n000 n100 n010 n110 wz wx wy)
      (side_size d.materials _ _ _ (below_fits d g limits Z k i j (filled_below d g Z k i j) refl)
      (λ e rs resists. air_size rs x y (case_of mask e) t000 t100 t010 t110 _ _ resists fx fy n000 n100 n010 n110 wx wy))
      (side_size d.materials _ _ _ (above_fits d g limits Z (suc k) i j (filled_above d g Z (suc k) i j) refl)
      (λ e rs resists. air_size rs x y (case_of mask e) t001 t101 t011 t111 _ _ resists fx fy n001 n101 n011 n111 wx wy)))

  few : (a : AxisName) → m.cells a ≤ 1023
  few X = few_cells g X grid
  few Y = few_cells g Y grid
  few Z = few_cells g Z grid

  -- an upper end is at most 2¹²⁰ fW/K
  pub upper_size : unsigned_abs (upper_end m (case_of mask) (field_on g values)) ≤ 2 ^ 120
  unfolding upper_end
  upper_size =
      let all = whole_size m t (9 * most_energy) few (record { cells = energy_size }) in
      omega (arith, all)
