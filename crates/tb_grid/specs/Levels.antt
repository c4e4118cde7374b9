-- The level grid of a base grid, or why it is too large.
use Rattle.std.specs.Prelude.{◌≡◌, ◌==◌, ℕ, ◌<◌, ◌≤◌, ◌-◌, if◌then◌else◌, List, length, slice_index, Result, Ok, Err}
use Rattle.tb_places.specs.declared.AxisName.{AxisName}
use Rattle.tb_places.specs.declared.AxisName.TheVariants.{X, Y, Z}
use Rattle.tb_places.specs.Places.{cell_count}
use Rattle.tb_grid.specs.Axis.{most_lines}
use Rattle.tb_grid.specs.Grid.{Axes, counts_of, lines_of, most_cells}
use Rattle.tb_grid.specs.Level.{IsLevelGrid, IsTooFine}
use Rattle.tb_grid.specs.declared.levels.Grading.{Grading}
use Rattle.tb_grid.specs.declared.levels.GridTooLarge.{GridTooLarge}
use Rattle.tb_grid.specs.declared.levels.GridTooLarge.TheVariants.{Lines, Cells}
use Rattle.tb_grid.specs.declared.levels.LevelFault.{LevelFault}
use Rattle.tb_grid.specs.declared.levels.LevelFault.TheVariants.{TooLarge, NoMemory}

-- the grade and the number of halvings on an axis. In dimension 2 the z axis keeps its lines
abbrev pub grade_along : Grading → AxisName → ℕ
grade_along g X = g.grade
grade_along g Y = g.grade
grade_along g Z = if g.dimension == 2 then 0 else g.grade

abbrev pub halve_along : Grading → AxisName → ℕ
halve_along g X = g.halve
halve_along g Y = g.halve
halve_along g Z = if g.dimension == 2 then 0 else g.halve

-- lines are those of the level grid on an axis
abbrev pub IsLevelAxis : Grading → Axes → AxisName → List ℕ → Type 0
IsLevelAxis g base a lines = IsLevelGrid (grade_along g a) (halve_along g a) (lines_of base a) lines

-- the level grid of a base grid
abbrev pub IsLevelOf : Grading → Axes → Axes → Type 0
IsLevelOf g base level = (a : AxisName) → IsLevelAxis g base a (lines_of level a)

-- on an axis it would have so many lines, more than an axis may have
abbrev pub IsTooFineAlong : Grading → Axes → AxisName → ℕ → Type 0
IsTooFineAlong g base a count = IsTooFine (grade_along g a) (halve_along g a) (lines_of base a) count

-- or it has no more than that
pub record IsFineAlong (g : Grading) (base : Axes) (a : AxisName) : Type 0 where
  pub lines : List ℕ
  pub level : IsLevelAxis g base a lines
  pub few : length lines ≤ most_lines

-- it would have so many cells, more than a grid may have
pub record HasTooManyCells (g : Grading) (base : Axes) (count : ℕ) : Type 0 where
  pub level : Axes
  pub is_level : IsLevelOf g base level
  pub few_lines : (a : AxisName) → length (lines_of level a) ≤ most_lines
  pub many : most_cells < cell_count (counts_of level)
  pub counted : count ≡ cell_count (counts_of level)

-- why it is too large: the first axis with too many lines, or else the cells
abbrev pub IsTooLarge : Grading → Axes → GridTooLarge → Type 0
IsTooLarge g base (Lines X count) = IsTooFineAlong g base X count
IsTooLarge g base (Lines Y count) = IsFineAlong g base X × IsTooFineAlong g base Y count
IsTooLarge g base (Lines Z count) = IsFineAlong g base X × IsFineAlong g base Y × IsTooFineAlong g base Z count
IsTooLarge g base (Cells count) = HasTooManyCells g base count

-- the level grid of a base grid, or the reason why there is none; memory may run out
abbrev pub AnswersLevel : Grading → Axes → Result Axes LevelFault → Type 0
AnswersLevel g base (Ok level) = IsLevelOf g base level
AnswersLevel g base (Err (TooLarge why)) = IsTooLarge g base why
AnswersLevel g base (Err NoMemory) = Unit {0}

-- the same on one axis
abbrev pub AnswersAxis : Grading → Axes → AxisName → Result (List ℕ) LevelFault → Type 0
AnswersAxis g base a (Ok lines) = IsLevelAxis g base a lines × (length lines ≤ most_lines)
AnswersAxis g base a (Err (TooLarge (Lines b count))) = (b ≡ a) × IsTooFineAlong g base a count
AnswersAxis g base a (Err (TooLarge (Cells count))) = ⊥
AnswersAxis g base a (Err NoMemory) = Unit {0}

-- all lines stand at 50 m or below, in 0.1 mm
abbrev pub IsWithinReach : Axes → Type 0
IsWithinReach base = (a : AxisName) → slice_index (lines_of base a) (length (lines_of base a) - 1) ≤ 500000
