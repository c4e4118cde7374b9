-- A cell as seen along an axis: its width and cross-section, its two faces across the axis, and its four edges
-- along it.
use Rattle.std.specs.Prelude.{◌≡◌, ℕ, ◌+◌, ◌*◌, ◌≤◌}
use Rattle.tb_places.specs.declared.AxisName.{AxisName}
use Rattle.tb_places.specs.declared.Place.{Place}
use Rattle.tb_places.specs.Along.{ahead, corner_edge, index_along}
use Rattle.tb_places.specs.Inverse.{cell_place}
use Rattle.tb_places.specs.Places.{Counts, face_number, node_number, second, third}
use Rattle.tb_grid.specs.Axis.{interval_width}
use Rattle.tb_grid.specs.Grid.{Axes, lines_of}

-- the width of the cell at a place along an axis, in 0.1 mm
abbrev pub width_of : Axes → AxisName → Place → ℕ
width_of g a p = interval_width (lines_of g a) (index_along a p)

-- the area of its cross-section, in 10⁻⁸ m²
abbrev pub area_of : Axes → AxisName → Place → ℕ
area_of g a p = width_of g (second a) p * width_of g (third a) p

-- the faces of a cell across an axis
abbrev pub low_face_of : Counts → AxisName → ℕ → ℕ
low_face_of n a cell = face_number n a (cell_place n cell)

abbrev pub high_face_of : Counts → AxisName → ℕ → ℕ
high_face_of n a cell = face_number n a (ahead a 1 (cell_place n cell))

-- the edge of a cell along an axis at a corner, and the two nodes that it joins
abbrev pub edge_of : Counts → AxisName → ℕ → ℕ → Place
edge_of n a cell corner = corner_edge a corner (cell_place n cell)

abbrev pub low_end_of : Counts → AxisName → ℕ → ℕ → ℕ
low_end_of n a cell corner = node_number n (edge_of n a cell corner)

abbrev pub high_end_of : Counts → AxisName → ℕ → ℕ → ℕ
high_end_of n a cell corner = node_number n (ahead a 1 (edge_of n a cell corner))

-- a line bounds an interval, from below or from above
abbrev pub IsBoundOf : ℕ → ℕ → Type 0
IsBoundOf interval line = (interval ≤ line) × (line ≤ interval + 1)

-- an edge along an axis is an edge of a cell: it spans the cell's interval of that axis, at lines that bound the
-- cell on the other two
pub record IsEdgeOf (a : AxisName) (cell edge : Place) : Type 0 where
  pub interval : index_along a edge ≡ index_along a cell
  pub second_line : IsBoundOf (index_along (second a) cell) (index_along (second a) edge)
  pub third_line : IsBoundOf (index_along (third a) cell) (index_along (third a) edge)
