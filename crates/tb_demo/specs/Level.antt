-- The level grid of the demo.
use Rattle.std.specs.Prelude.{◌≡◌, ℕ}
use Rattle.tb_places.specs.Places.{cell_count}
use Rattle.tb_detail.specs.declared.Detail.{Detail}
use Rattle.tb_grid.specs.Grid.{Axes, IsGrid, counts_of}
use Rattle.tb_grid.specs.Levels.{IsLevelOf}
use Rattle.tb_geometry.specs.Base.{base_axes}
use Rattle.tb_demo.specs.Line.{demo_grading}

-- its level grid is a grid of so many cells
pub record HasLevelCells (d : Detail) (count : ℕ) : Type 0 where
  pub level : Axes
  pub is_level : IsLevelOf demo_grading (base_axes d.boxes) level
  pub is_grid : IsGrid level
  pub counted : cell_count (counts_of level) ≡ count
