-- The row of what fills a cell is the row of the mesh's cell.
use Rattle.std.proofs.Common.{◌≡◌, refl, sym, ap, ◌∙◌, ℕ, suc, ◌+◌, ◌-◌, ◌*◌, Option, Some, None, List, map, arith}
use Rattle.std.specs.Prelude.{slice_index}
use Rattle.std.specs.Option.{option_map}
use lib.IntN.{ℤ, pos}
use Rattle.tb_math.specs.Rational.{ℚ, int, one_over, ◌*ℚ◌}
use Rattle.tb_math.proofs.RationalLaws.{*ℚ_comm, *ℚ_one}
use Rattle.tb_places.specs.declared.AxisName.{AxisName}
use Rattle.tb_places.specs.declared.AxisName.TheVariants.{X, Y, Z}
use Rattle.tb_places.specs.declared.Place.{Place}
use Rattle.tb_places.specs.Along.{index_along}
use Rattle.tb_places.specs.Places.{second, third}
use Rattle.tb_detail.specs.declared.Content.{Content}
use Rattle.tb_detail.specs.declared.Content.TheVariants as content
use Rattle.tb_detail.specs.declared.Detail.{Detail}
use Rattle.tb_detail.specs.declared.Material.{Material}
use Rattle.tb_grid.specs.Direction.{width_of}
use Rattle.tb_grid.specs.Grid.{Axes, lines_of}
use Rattle.tb_model.specs.Energy.{of_solid}
use Rattle.tb_model.specs.Mesh.{Mesh, cross_section}
use Rattle.tb_geometry.specs.Bodies.{filled_with}
use Rattle.tb_geometry.specs.Grids.{mesh_on, occupant_at}
use Rattle.tb_geometry.specs.declared.occupant.Occupant.TheVariants.{Solid, Air}
use Rattle.tb_weighted.specs.Weighted.{field_weight, flux_weight}
use Rattle.tb_weighted.specs.OnMesh.{mesh_cell, mesh_flux_cell}
use Rattle.tb_relax.specs.declared.table.CellWeights.{CellWeights}
use Rattle.tb_relax.specs.Tables.{flux_weight_along, weight_along}
use Rattle.tb_tables.specs.MeshRows.{IsCellRow}
use Rattle.tb_tables.proofs.Quotients.{two}

-- ---- what fills a cell
solid_weight : (materials : List Material) (o : Option Content) (lambda : ℕ) (f : ℕ → ℤ) → Some (Solid lambda) ≡ option_map (filled_with materials) o → of_solid (pos 0) (λ n. f (slice_index (map (λ m. m.lambda) materials) n)) o ≡ f lambda
solid_weight materials (Some (content.Solid n)) lambda f e = ap f (same e)
  where
    same : {x y : ℕ} → Some (Solid x) ≡ Some (Solid y) → y ≡ x
    same h = cc
solid_weight materials (Some (content.Air e' rs)) lambda f e = cc
solid_weight materials None lambda f e = cc

air_weight : (materials : List Material) (o : Option Content) (e rs : ℕ) (f : ℕ → ℤ) → Some (Air e rs) ≡ option_map (filled_with materials) o → of_solid (pos 0) f o ≡ pos 0
air_weight materials (Some (content.Solid n)) e rs f h = cc
air_weight materials (Some (content.Air e' rs')) e rs f h = refl
air_weight materials None e rs f h = refl

-- ---- widths are whole
one_over_one : one_over 1 ≡ int (pos 1)
unfolding one_over int
one_over_one = refl

pub whole_width : (g : Axes) (a : AxisName) (p : Place) (w : ℕ) (d : Detail) → w ≡ width_of g a p → int (pos w) ≡ (mesh_on d g).width a (index_along a p)
whole_width g a p w d e = ap (λ (n : ℕ). int (pos n)) (e ∙ ap (λ (n : ℕ). slice_index (lines_of g a) n - slice_index (lines_of g a) (index_along a p)) (up (index_along a p)))
    ∙ sym (ap (λ (q : ℚ). int (pos (slice_index (lines_of g a) (suc (index_along a p)) - slice_index (lines_of g a) (index_along a p))) *ℚ q) one_over_one ∙ *ℚ_comm _ (int (pos 1)) ∙ *ℚ_one _)
  where
    up : (n : ℕ) → n + 1 ≡ suc n
    up n = omega arith

pub whole_section : (b c : ℕ) (x y : ℚ) → int (pos b) ≡ x → int (pos c) ≡ y → int (pos (b * c)) ≡ x *ℚ y
whole_section b c x y e f = sym (two b c) ∙ ap (λ (q : ℚ). q *ℚ int (pos c)) e ∙ ap (λ (q : ℚ). x *ℚ q) f

field_same : (l : ℚ) (w s w' s' : ℚ) → w ≡ w' → s ≡ s' → field_weight l w s ≡ field_weight l w' s'
field_same l w s w' s' e f = ap (λ (q : ℚ). field_weight l q s) e ∙ ap (λ (q : ℚ). field_weight l w' q) f

flux_same : (l : ℚ) (w s w' s' : ℚ) → w ≡ w' → s ≡ s' → flux_weight l w s ≡ flux_weight l w' s'
flux_same l w s w' s' e f = ap (λ (q : ℚ). flux_weight l q s) e ∙ ap (λ (q : ℚ). flux_weight l w' q) f

module _ (d : Detail) (g : Axes) (p : Place) (w : CellWeights) where
  abbrev m : Mesh
  m = mesh_on d g

  pub solid_row : (lambda x y z : ℕ) → Some (Solid lambda) ≡ occupant_at d g p → x ≡ width_of g X p → y ≡ width_of g Y p → z ≡ width_of g Z p
      → pos w.x ≡ field_weight (int (pos lambda)) (int (pos x)) (int (pos (y * z))) → pos w.y ≡ field_weight (int (pos lambda)) (int (pos y)) (int (pos (x * z))) → pos w.z ≡ field_weight (int (pos lambda)) (int (pos z)) (int (pos (x * y)))
      → pos w.flux_x ≡ flux_weight (int (pos lambda)) (int (pos x)) (int (pos (y * z))) → pos w.flux_y ≡ flux_weight (int (pos lambda)) (int (pos y)) (int (pos (x * z))) → pos w.flux_z ≡ flux_weight (int (pos lambda)) (int (pos z)) (int (pos (x * y)))
      → IsCellRow m p w
  solid_row lambda x y z o ex ey ez fx fy fz gx gy gz = record { field = field; flux = flux }
    where
      wx : int (pos x) ≡ m.width X p.i
      wx = whole_width g X p x d ex

      wy : int (pos y) ≡ m.width Y p.j
      wy = whole_width g Y p y d ey

      wz : int (pos z) ≡ m.width Z p.k
      wz = whole_width g Z p z d ez

      field : (a : AxisName) → pos (weight_along w a) ≡ mesh_cell m a (index_along a p) (index_along (second a) p) (index_along (third a) p)
      field X = fx ∙ field_same _ _ _ _ _ wx (whole_section y z _ _ wy wz) ∙ sym (solid_weight d.materials (m.occupant p.i p.j p.k) lambda (λ l. field_weight (int (pos l)) (m.width X p.i) (cross_section m X p.j p.k)) o)
      field Y = fy ∙ field_same _ _ _ _ _ wy (whole_section x z _ _ wx wz) ∙ sym (solid_weight d.materials (m.occupant p.i p.j p.k) lambda (λ l. field_weight (int (pos l)) (m.width Y p.j) (cross_section m Y p.i p.k)) o)
      field Z = fz ∙ field_same _ _ _ _ _ wz (whole_section x y _ _ wx wy) ∙ sym (solid_weight d.materials (m.occupant p.i p.j p.k) lambda (λ l. field_weight (int (pos l)) (m.width Z p.k) (cross_section m Z p.i p.j)) o)

      flux : (a : AxisName) → pos (flux_weight_along w a) ≡ mesh_flux_cell m a (index_along a p) (index_along (second a) p) (index_along (third a) p)
      flux X = gx ∙ flux_same _ _ _ _ _ wx (whole_section y z _ _ wy wz) ∙ sym (solid_weight d.materials (m.occupant p.i p.j p.k) lambda (λ l. flux_weight (int (pos l)) (m.width X p.i) (cross_section m X p.j p.k)) o)
      flux Y = gy ∙ flux_same _ _ _ _ _ wy (whole_section x z _ _ wx wz) ∙ sym (solid_weight d.materials (m.occupant p.i p.j p.k) lambda (λ l. flux_weight (int (pos l)) (m.width Y p.j) (cross_section m Y p.i p.k)) o)
      flux Z = gz ∙ flux_same _ _ _ _ _ wz (whole_section x y _ _ wx wy) ∙ sym (solid_weight d.materials (m.occupant p.i p.j p.k) lambda (λ l. flux_weight (int (pos l)) (m.width Z p.k) (cross_section m Z p.i p.j)) o)

  pub air_row : (e rs : ℕ) → Some (Air e rs) ≡ occupant_at d g p → w.x ≡ 0 → w.y ≡ 0 → w.z ≡ 0 → w.flux_x ≡ 0 → w.flux_y ≡ 0 → w.flux_z ≡ 0 → IsCellRow m p w
  air_row e rs o ex ey ez gx gy gz = record { field = field; flux = flux }
    where
      field : (a : AxisName) → pos (weight_along w a) ≡ mesh_cell m a (index_along a p) (index_along (second a) p) (index_along (third a) p)
      field X = ap pos ex ∙ sym (air_weight d.materials (m.occupant p.i p.j p.k) e rs _ o)
      field Y = ap pos ey ∙ sym (air_weight d.materials (m.occupant p.i p.j p.k) e rs _ o)
      field Z = ap pos ez ∙ sym (air_weight d.materials (m.occupant p.i p.j p.k) e rs _ o)

      flux : (a : AxisName) → pos (flux_weight_along w a) ≡ mesh_flux_cell m a (index_along a p) (index_along (second a) p) (index_along (third a) p)
      flux X = ap pos gx ∙ sym (air_weight d.materials (m.occupant p.i p.j p.k) e rs _ o)
      flux Y = ap pos gy ∙ sym (air_weight d.materials (m.occupant p.i p.j p.k) e rs _ o)
      flux Z = ap pos gz ∙ sym (air_weight d.materials (m.occupant p.i p.j p.k) e rs _ o)
