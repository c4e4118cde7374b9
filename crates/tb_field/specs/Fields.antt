-- Temperature fields given by their node values.
use Rattle.std.specs.Prelude.{◌≡◌, ℕ, ◌^◌, List, length, All, slice_index_or, ℤ, pos, ◌-ℤ◌, ◌≤ℤ◌}
use Rattle.tb_places.specs.declared.AxisName.{AxisName}
use Rattle.tb_places.specs.Places.{Counts, node_count}
use Rattle.tb_grid.specs.Direction.{high_end_of, low_end_of}
use Rattle.tb_grid.specs.Grid.{Axes, counts_of}
use Rattle.tb_model.specs.Energy as model
use Rattle.tb_model.specs.Values.{field_of}

-- the whole temperature difference, in 10⁻⁸ of it
abbrev pub most_temperature : ℕ
most_temperature = 10 ^ 8

-- a temperature from 0 to 1, in 10⁻⁸
pub record IsTemperature (z : ℤ) : Type 0 where
  pub least : pos 0 ≤ℤ z
  pub most : z ≤ℤ pos most_temperature

abbrev pub AreTemperatures : List ℤ → Type 0
AreTemperatures values = All IsTemperature values

-- there is one value for each node
abbrev pub FitsNodes : Counts → List ℤ → Type 0
FitsNodes n values = length values ≡ node_count n

-- the field on a grid that has these values at its nodes, in their index order
abbrev pub field_on : Axes → List ℤ → model.Field
field_on g values = field_of (counts_of g) values

-- the value at the higher node less that at the lower one, of a cell's edge along an axis, that at a corner
abbrev pub difference_at : Counts → AxisName → List ℤ → ℕ → ℕ → ℤ
difference_at n a values cell corner =
    slice_index_or values (high_end_of n a cell corner) (pos 0) -ℤ slice_index_or values (low_end_of n a cell corner) (pos 0)
