-- The terms of a cell as the numbers that they are made of.
use Rattle.std.specs.Prelude.{ℕ, List, [], ◌∷◌, ℤ, pos, ◌+ℤ◌, ◌-ℤ◌}
use Rattle.tb_math.specs.Rational.{ℚ, int}
use Rattle.tb_math.specs.Ceiling.{ceiling}
use Rattle.tb_model.specs.Energy.{cell_energy}
use Rattle.tb_terms.specs.declared.field.FieldCell.{FieldCell}
use Rattle.tb_terms.specs.declared.field.FieldFace.{FieldFace}
use Rattle.tb_terms.specs.Terms.{area_of, field_cell_term}
use Rattle.tb_field.specs.Fields.{IsTemperature}
use Rattle.tb_sums.specs.declared.cell.Corners.{Corners}

-- the corners have temperatures within limits
pub record HasTemperatures (t : Corners) : Type 0 where
  pub at_000 : IsTemperature t.t000
  pub at_100 : IsTemperature t.t100
  pub at_010 : IsTemperature t.t010
  pub at_110 : IsTemperature t.t110
  pub at_001 : IsTemperature t.t001
  pub at_101 : IsTemperature t.t101
  pub at_011 : IsTemperature t.t011
  pub at_111 : IsTemperature t.t111

-- the term of a cell, or of a face, of these numbers
abbrev pub cell_at : (lambda a b c : ℕ) (d00 d10 d01 d11 : ℤ) → FieldCell
cell_at lambda a b c d00 d10 d01 d11 = record { lambda = lambda; a = a; b = b; c = c; d = d00 ∷ d10 ∷ d01 ∷ d11 ∷ [] }

abbrev pub face_at : (rs b c : ℕ) (d00 d10 d01 d11 : ℤ) → FieldFace
face_at rs b c d00 d10 d01 d11 = record { rs = rs; b = b; c = c; t = d00 ∷ d10 ∷ d01 ∷ d11 ∷ [] }

-- the energy along an axis with a spread
abbrev pub energy_of : (lambda a b c spread : ℕ) → ℚ
energy_of lambda a b c spread = cell_energy (int (pos lambda)) (int (pos a)) (area_of b c) (int (pos spread))

-- the differences along each axis, at the corners (0,0), (1,0), (0,1) and (1,1) of the cross-section
abbrev pub rises_x : Corners → List ℤ
rises_x t = (t.t100 -ℤ t.t000) ∷ (t.t110 -ℤ t.t010) ∷ (t.t101 -ℤ t.t001) ∷ (t.t111 -ℤ t.t011) ∷ []

abbrev pub rises_y : Corners → List ℤ
rises_y t = (t.t010 -ℤ t.t000) ∷ (t.t110 -ℤ t.t100) ∷ (t.t011 -ℤ t.t001) ∷ (t.t111 -ℤ t.t101) ∷ []

abbrev pub rises_z : Corners → List ℤ
rises_z t = (t.t001 -ℤ t.t000) ∷ (t.t101 -ℤ t.t100) ∷ (t.t011 -ℤ t.t010) ∷ (t.t111 -ℤ t.t110) ∷ []

-- the terms of a cell with these corners
abbrev pub along_x : (lambda x y z : ℕ) → Corners → FieldCell
along_x lambda x y z t = cell_at lambda x y z (t.t100 -ℤ t.t000) (t.t110 -ℤ t.t010) (t.t101 -ℤ t.t001) (t.t111 -ℤ t.t011)

abbrev pub along_y : (lambda x y z : ℕ) → Corners → FieldCell
along_y lambda x y z t = cell_at lambda y x z (t.t010 -ℤ t.t000) (t.t110 -ℤ t.t100) (t.t011 -ℤ t.t001) (t.t111 -ℤ t.t101)

abbrev pub along_z : (lambda x y z : ℕ) → Corners → FieldCell
along_z lambda x y z t = cell_at lambda z x y (t.t001 -ℤ t.t000) (t.t101 -ℤ t.t100) (t.t011 -ℤ t.t010) (t.t111 -ℤ t.t110)

-- the term of a face whose corners have these temperatures, at air of this level
abbrev pub face_across : (rs b c : ℕ) (level t00 t10 t01 t11 : ℤ) → FieldFace
face_across rs b c level t00 t10 t01 t11 = face_at rs b c (t00 -ℤ level) (t10 -ℤ level) (t01 -ℤ level) (t11 -ℤ level)

-- what a solid cell adds inside, its three terms each rounded up
abbrev pub solid_up : (lambda x y z : ℕ) → Corners → ℤ
solid_up lambda x y z t =
    ceiling (field_cell_term (along_x lambda x y z t)) +ℤ ceiling (field_cell_term (along_y lambda x y z t)) +ℤ ceiling (field_cell_term (along_z lambda x y z t))
