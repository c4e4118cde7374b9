-- The base grid of a body: on each axis all box coordinates.
use Rattle.std.specs.Prelude.{ℕ, List, [], ◌∷◌, ◌≡◌, Some}
use Rattle.std.specs.List.{Contains, flat_map}
use Rattle.tb_places.specs.declared.AxisName.{AxisName}
use Rattle.tb_places.specs.declared.AxisName.TheVariants.{X, Y, Z}
use Rattle.tb_places.specs.declared.Place.{Place}
use Rattle.tb_places.specs.Places.{Counts, IsCell, cell_number}
use Rattle.tb_places.specs.Lines.{with_line}
use Rattle.tb_places.specs.Ranges.{IsFirst}
use Rattle.tb_detail.specs.declared.SpaceBox.{SpaceBox}
use Rattle.tb_detail.specs.declared.Detail.{Detail}
use Rattle.tb_grid.specs.Axis.{IsIntervalOf, interval_count}
use Rattle.tb_grid.specs.Grid.{Axes}
use Rattle.tb_model.specs.Mesh.{Mesh}
use Rattle.tb_model.specs.Refinement.{Refinement, low, high, line, mesh, scene_of}
use Rattle.tb_geometry.specs.Cubes.{HoldsCube, IsHeld}

-- all coordinates of boxes on an axis, in rising order, each once
unfoldable pub base_lines : AxisName → List SpaceBox → List ℕ
base_lines a [] = []
base_lines a (b ∷ boxes) = with_line (low a b) (with_line (high a b) (base_lines a boxes))

-- all coordinates of boxes on an axis, box after box
abbrev pub coordinates : AxisName → List SpaceBox → List ℕ
coordinates a boxes = flat_map (λ b. low a b ∷ high a b ∷ []) boxes

-- the base lines of boxes as a refinement, and how many base cells there are along each axis
abbrev pub base_of : List SpaceBox → Refinement
base_of boxes = record { scale = 1; lines = λ a. base_lines a boxes }

abbrev pub base_counts : List SpaceBox → Counts
base_counts boxes a = interval_count (base_lines a boxes)

-- the base lines of boxes as the axes of a grid
abbrev pub base_axes : List SpaceBox → Axes
base_axes boxes = record { x = base_lines X boxes; y = base_lines Y boxes; z = base_lines Z boxes }

-- the base cells of a detail, with what fills them
abbrev pub base_mesh : Detail → Mesh
base_mesh d = mesh (scene_of d) (base_of d.boxes)

-- the place of a base cell
abbrev pub IsBaseCell : List SpaceBox → Place → Type 0
IsBaseCell boxes p = IsCell (base_counts boxes) p

-- the number of a base cell in the index order
abbrev pub base_number : List SpaceBox → Place → ℕ
base_number boxes p = cell_number (base_counts boxes) p

-- a base cell has the cube at (x,y,z)
pub record HasCube (boxes : List SpaceBox) (p : Place) (x y z : ℕ) : Type 0 where
  pub on_x : IsIntervalOf (base_lines X boxes) x p.i
  pub on_y : IsIntervalOf (base_lines Y boxes) y p.j
  pub on_z : IsIntervalOf (base_lines Z boxes) z p.k

-- a base cell is in no box: none of its cubes is held
abbrev pub IsUncoveredCell : List SpaceBox → Place → Type 0
IsUncoveredCell boxes p = (x y z : ℕ) → HasCube boxes p x y z → ¬ IsHeld boxes x y z

-- each of its cubes is held
abbrev pub IsCoveredCell : List SpaceBox → Place → Type 0
IsCoveredCell boxes p = (x y z : ℕ) → HasCube boxes p x y z → IsHeld boxes x y z

-- a box holds a base cell whole, and what fills the box fills the cell
pub record IsFilledBy (d : Detail) (p : Place) : Type 0 where
  pub box : SpaceBox
  pub there : Contains d.boxes box
  pub whole : (x y z : ℕ) → HasCube d.boxes p x y z → HoldsCube box x y z
  pub fills : (base_mesh d).occupant p.i p.j p.k ≡ Some box.content

-- the low corner of a base cell is at (x,y,z)
pub record IsLowCorner (boxes : List SpaceBox) (p : Place) (x y z : ℕ) : Type 0 where
  pub on_x : x ≡ line (base_of boxes) X p.i
  pub on_y : y ≡ line (base_of boxes) Y p.j
  pub on_z : z ≡ line (base_of boxes) Z p.k

-- the first base cell, by its number, that is in no box has its low corner at (x,y,z)
pub record IsFirstUncovered (boxes : List SpaceBox) (x y z : ℕ) : Type 0 where
  pub cell : Place
  pub first : IsFirst (base_number boxes) (IsBaseCell boxes) (IsCoveredCell boxes) (IsUncoveredCell boxes) cell
  pub corner : IsLowCorner boxes cell x y z
