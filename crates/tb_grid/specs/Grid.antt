-- A grid as contracts see it: the lines of its three axes.
use Rattle.std.specs.Prelude.{ℕ, ◌≤◌, List}
use Rattle.tb_places.specs.declared.AxisName.{AxisName}
use Rattle.tb_places.specs.Places.{Counts, by_axis, cell_count}
use Rattle.tb_grid.specs.Axis.{IsAxis, interval_count}

pub record Axes : Type 0 where
  pub x : List ℕ
  pub y : List ℕ
  pub z : List ℕ

-- the lines of the axis of that name
abbrev pub lines_of : Axes → AxisName → List ℕ
lines_of g = by_axis g.x g.y g.z

-- a grid has a cell between each two neighbouring lines
abbrev pub counts_of : Axes → Counts
counts_of g = by_axis (interval_count g.x) (interval_count g.y) (interval_count g.z)

-- a grid has at most so many cells
abbrev pub most_cells : ℕ
most_cells = 262144

-- what every grid keeps
pub record IsGrid (g : Axes) : Type 0 where
  pub axes : (a : AxisName) → IsAxis (lines_of g a)
  pub few : cell_count (counts_of g) ≤ most_cells
