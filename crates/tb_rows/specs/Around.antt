-- The base intervals in which the cells of a grid lie, along one axis.
use Rattle.std.specs.Prelude.{ℕ, ◌-◌, ◌<◌, ◌≡◌, Option, Some, None, slice_index}
use Rattle.std.specs.Option.{option_map}
use Rattle.tb_places.specs.declared.AxisName.{AxisName}
use Rattle.tb_places.specs.Places.{along}
use Rattle.tb_detail.specs.declared.Detail.{Detail}
use Rattle.tb_grid.specs.Axis.{IsIntervalOf}
use Rattle.tb_grid.specs.Grid.{Axes, counts_of, lines_of}
use Rattle.tb_model.specs.Mesh.{above, below}
use Rattle.tb_geometry.specs.Base.{base_lines}
use Rattle.tb_geometry.specs.Bodies.{filled_with}
use Rattle.tb_geometry.specs.Grids.{mesh_on}
use Rattle.tb_geometry.specs.declared.occupant.Occupant.{Occupant}

-- the cells at an index along an axis lie in a base interval
abbrev pub LiesIn : Detail → Axes → AxisName → ℕ → ℕ → Type 0
LiesIn d g a i q = IsIntervalOf (base_lines a d.boxes) (slice_index (lines_of g a) i) q

-- the base interval of the cells below a line of an axis, and above it: none at the hull
abbrev pub IsBaseBelow : Detail → Axes → AxisName → ℕ → Option ℕ → Type 0
IsBaseBelow d g a i (Some q) = (0 < i) × LiesIn d g a (i - 1) q
IsBaseBelow d g a i None = i ≡ 0

abbrev pub IsBaseAbove : Detail → Axes → AxisName → ℕ → Option ℕ → Type 0
IsBaseAbove d g a i (Some q) = (i < counts_of g a) × LiesIn d g a i q
IsBaseAbove d g a i None = i ≡ counts_of g a

-- what fills the cell below a face across an axis, and the one above it, the index along the axis first
abbrev pub filled_below : Detail → Axes → AxisName → ℕ → ℕ → ℕ → Option Occupant
filled_below d g a i j k = option_map (filled_with d.materials) (below (λ n. along a (mesh_on d g).occupant n j k) i)

abbrev pub filled_above : Detail → Axes → AxisName → ℕ → ℕ → ℕ → Option Occupant
filled_above d g a i j k = option_map (filled_with d.materials) (above ((mesh_on d g).cells a) (λ n. along a (mesh_on d g).occupant n j k) i)
