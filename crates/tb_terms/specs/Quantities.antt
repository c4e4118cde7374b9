-- What a term depends on, as rational numbers without limits, and what a cut makes of it.
--
-- A cell may be cut along the axis of its term, and a cell and a face across it, in two parts that are s and 1 - s of the
-- whole.
use Rattle.std.specs.Prelude.{ℕ}
use Rattle.tb_math.specs.Rational.{ℚ, ◌*ℚ◌}
use Rattle.tb_model.specs.Cuts.{rest, between}
use Rattle.tb_model.specs.Energy.{spread, passage, cell_energy, surface_energy, cell_loss, surface_loss}

-- Quantities --

-- of one axis of a cell, with its width along the axis and those across, and the values that the term is about
pub record Cell (V : Type 0) : Type 0 where
  pub conductivity : ℚ
  pub along : ℚ
  pub b : ℚ
  pub c : ℚ
  pub values : V

-- of a surface face, with its two widths
pub record Face (V : Type 0) : Type 0 where
  pub resistance : ℕ
  pub b : ℚ
  pub c : ℚ
  pub values : V

-- values at the corners of a cross-section: (0,0), (1,0), (0,1), (1,1), the first width first
pub record Corners : Type 0 where
  pub d00 : ℚ
  pub d10 : ℚ
  pub d01 : ℚ
  pub d11 : ℚ

-- the flows through the low and the high face of a cell
pub record Ends : Type 0 where
  pub low : ℚ
  pub high : ℚ

-- Terms --

abbrev pub corner_spread_of : Corners → ℚ
corner_spread_of d = spread d.d00 d.d10 d.d01 d.d11

abbrev pub energy_of_cell : Cell Corners → ℚ
energy_of_cell x = cell_energy x.conductivity x.along (x.b *ℚ x.c) (corner_spread_of x.values)

abbrev pub energy_of_face : Face Corners → ℚ
energy_of_face x = surface_energy x.resistance (x.b *ℚ x.c) (corner_spread_of x.values)

abbrev pub loss_of_cell : Cell Ends → ℚ
loss_of_cell x = cell_loss x.conductivity x.along (x.b *ℚ x.c) (passage x.values.low x.values.high)

abbrev pub loss_of_face : Face ℚ → ℚ
loss_of_face x = surface_loss x.resistance (x.b *ℚ x.c) x.values

-- Parts --

-- of the two parts of a cut, the one on the low side and the one on the high side
pub data Part : Type 0 where
  low : Part
  high : Part

-- a face is cut across its first or its second width,
pub data FaceCut : Type 0 where
  across_b : FaceCut
  across_c : FaceCut

-- and a cell along the axis of the term too
pub data CellCut : Type 0 where
  lengthwise : CellCut
  across : FaceCut → CellCut

-- how much of the whole a part is
abbrev pub share : Part → ℚ → ℚ
share low s = s
share high s = rest s

-- from x to y, what is at the low and at the high end of a part
abbrev pub low_end : Part → ℚ → ℚ → ℚ → ℚ
low_end low s x y = x
low_end high s x y = between s x y

abbrev pub high_end : Part → ℚ → ℚ → ℚ → ℚ
high_end low s x y = between s x y
high_end high s x y = y

-- the linear values at the corners of a part of a cross-section
abbrev pub corners_of_part : FaceCut → Part → ℚ → Corners → Corners
corners_of_part across_b p s d = record {
  d00 = low_end p s d.d00 d.d10;
  d10 = high_end p s d.d00 d.d10;
  d01 = low_end p s d.d01 d.d11;
  d11 = high_end p s d.d01 d.d11;
}
corners_of_part across_c p s d = record {
  d00 = low_end p s d.d00 d.d01;
  d10 = low_end p s d.d10 d.d11;
  d01 = high_end p s d.d00 d.d01;
  d11 = high_end p s d.d10 d.d11;
}

-- a share of each difference
abbrev pub corners_shared : ℚ → Corners → Corners
corners_shared h d = record { d00 = h *ℚ d.d00; d10 = h *ℚ d.d10; d01 = h *ℚ d.d01; d11 = h *ℚ d.d11 }

-- a cell's part along the axis, and a cell's and a face's part across it, with what the part has of the values
abbrev pub cell_along : {V : Type 0} → Part → ℚ → V → Cell V → Cell V
cell_along p s v x = record { conductivity = x.conductivity; along = share p s *ℚ x.along; b = x.b; c = x.c; values = v }

abbrev pub cell_across : {V : Type 0} → FaceCut → Part → ℚ → V → Cell V → Cell V
cell_across across_b p s v x = record { conductivity = x.conductivity; along = x.along; b = share p s *ℚ x.b; c = x.c; values = v }
cell_across across_c p s v x = record { conductivity = x.conductivity; along = x.along; b = x.b; c = share p s *ℚ x.c; values = v }

abbrev pub face_across : {V : Type 0} → FaceCut → Part → ℚ → V → Face V → Face V
face_across across_b p s v x = record { resistance = x.resistance; b = share p s *ℚ x.b; c = x.c; values = v }
face_across across_c p s v x = record { resistance = x.resistance; b = x.b; c = share p s *ℚ x.c; values = v }

-- Of a field, differences along the axis of the cut are shared out, and corner values across it are linear. Of a flux,
-- flows along the cut are linear, and flows across it are shared out.
abbrev pub field_cell_part : CellCut → Part → ℚ → Cell Corners → Cell Corners
field_cell_part lengthwise p s x = cell_along p s (corners_shared (share p s) x.values) x
field_cell_part (across w) p s x = cell_across w p s (corners_of_part w p s x.values) x

abbrev pub field_face_part : FaceCut → Part → ℚ → Face Corners → Face Corners
field_face_part w p s x = face_across w p s (corners_of_part w p s x.values) x

abbrev pub flux_cell_part : CellCut → Part → ℚ → Cell Ends → Cell Ends
flux_cell_part lengthwise p s x = cell_along p s (record { low = low_end p s x.values.low x.values.high; high = high_end p s x.values.low x.values.high }) x
flux_cell_part (across w) p s x = cell_across w p s (record { low = share p s *ℚ x.values.low; high = share p s *ℚ x.values.high }) x

abbrev pub flux_face_part : FaceCut → Part → ℚ → Face ℚ → Face ℚ
flux_face_part w p s x = face_across w p s (share p s *ℚ x.values) x
