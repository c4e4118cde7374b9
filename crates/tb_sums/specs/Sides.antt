-- What the sides of a solid cell add.
use Rattle.std.specs.Prelude.{ℕ, ◌^◌, Option, Some, if◌then◌else◌, ℤ, pos, ◌+ℤ◌}
use Rattle.tb_math.specs.Ceiling.{ceiling}
use Rattle.tb_model.specs.Values.{case_of}
use Rattle.tb_geometry.specs.declared.occupant.Occupant.{Occupant}
use Rattle.tb_geometry.specs.declared.occupant.Occupant.TheVariants.{Air}
use Rattle.tb_terms.specs.Terms.{field_face_term}
use Rattle.tb_sums.specs.declared.cell.Corners.{Corners}
use Rattle.tb_sums.specs.Corners.{face_across}

-- the temperature of an environment in 10⁻⁸ of the difference: 1 where it is in the case
abbrev pub level_of : ℕ → ℕ → ℤ
level_of mask environment = if case_of mask environment then pos (10 ^ 8) else pos 0

-- what a side of a solid cell adds, at which its corners have these temperatures: the term of its surface, rounded up,
-- where air lies beside
abbrev pub side_up : (mask : ℕ) → Option Occupant → (b c : ℕ) (t00 t10 t01 t11 : ℤ) → ℤ
side_up mask (Some (Air environment rs)) b c t00 t10 t01 t11 = ceiling (field_face_term (face_across rs b c (level_of mask environment) t00 t10 t01 t11))
side_up mask _ b c t00 t10 t01 t11 = pos 0

-- what its two sides across x, y and z add
abbrev pub sides_x_up : ℕ → Option Occupant → Option Occupant → (y z : ℕ) → Corners → ℤ
sides_x_up mask low high y z t = side_up mask low y z t.t000 t.t010 t.t001 t.t011 +ℤ side_up mask high y z t.t100 t.t110 t.t101 t.t111

abbrev pub sides_y_up : ℕ → Option Occupant → Option Occupant → (x z : ℕ) → Corners → ℤ
sides_y_up mask low high x z t = side_up mask low x z t.t000 t.t100 t.t001 t.t101 +ℤ side_up mask high x z t.t010 t.t110 t.t011 t.t111

abbrev pub sides_z_up : ℕ → Option Occupant → Option Occupant → (x y : ℕ) → Corners → ℤ
sides_z_up mask low high x y t = side_up mask low x y t.t000 t.t100 t.t010 t.t110 +ℤ side_up mask high x y t.t001 t.t101 t.t011 t.t111
