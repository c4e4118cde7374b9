-- What a body keeps.
use Rattle.std.specs.Prelude.{ℕ, Bool, ◌≡◌, ◌≢◌, ◌<◌, ◌≤◌, ◌⊎◌, List, length, map, slice_index, slice_index_or}
use Rattle.std.specs.List.{All}
use Rattle.tb_places.specs.declared.AxisName.{AxisName}
use Rattle.tb_places.specs.declared.AxisName.TheVariants.{X, Y, Z}
use Rattle.tb_places.specs.declared.Place.{Place}
use Rattle.tb_places.specs.Places.{cell_count}
use Rattle.tb_places.specs.Ranges.{IsFirst}
use Rattle.tb_detail.specs.declared.Content.{Content}
use Rattle.tb_detail.specs.declared.Content.TheVariants as content
use Rattle.tb_detail.specs.declared.Material.{Material}
use Rattle.tb_detail.specs.declared.SpaceBox.{SpaceBox}
use Rattle.tb_detail.specs.declared.Detail.{Detail}
use Rattle.tb_detail.specs.Limits.{InLimits}
use Rattle.tb_detail.specs.declared.limits.TheConstants.{MOST_BOXES}
use Rattle.tb_grid.specs.Axis.{IsLineAt}
use Rattle.tb_places.specs.Along.{index_along}
use Rattle.tb_grid.specs.Grid.{Axes}
use Rattle.tb_model.specs.Refinement.{low, high, line}
use Rattle.tb_geometry.specs.Base.{base_axes, base_lines, base_counts, base_of, base_number, IsBaseCell}
use Rattle.tb_geometry.specs.Cubes.{HoldsCube}
use Rattle.tb_geometry.specs.Faults.{IsAccepted}
use Rattle.tb_geometry.specs.declared.occupant.Occupant.{Occupant}
use Rattle.tb_geometry.specs.declared.occupant.Occupant.TheVariants.{Solid, Air}
use Rattle.tb_geometry.specs.Boxes.{is_solid}
use Rattle.tb_geometry.specs.declared.painting.CellRange.{CellRange}

-- a box reaches from one coordinate up to a higher one on each axis
abbrev pub IsProper : SpaceBox → Type 0
IsProper b = (a : AxisName) → low a b < high a b

-- boxes of a detail within limits
pub record AreBoxes (boxes : List SpaceBox) : Type 0 where
  pub few : length boxes ≤ MOST_BOXES
  pub proper : All IsProper boxes

-- ---- the table of holders: for each base cell, in the order of numbers, the place of a box that holds it
-- a base cell that no box holds has this mark
abbrev pub free : ℕ
free = 65535

abbrev pub holder : List SpaceBox → List ℕ → Place → ℕ
holder boxes table p = slice_index table (base_number boxes p)

-- a box holds the cube at the low corner of a base cell, and so each of its cubes
abbrev pub HoldsCorner : List SpaceBox → Place → SpaceBox → Type 0
HoldsCorner boxes p b = HoldsCube b (line (base_of boxes) X p.i) (line (base_of boxes) Y p.j) (line (base_of boxes) Z p.k)

-- a range is that of the base cells between a box's coordinates
pub record IsRangeOf (boxes : List SpaceBox) (b : SpaceBox) (r : CellRange) : Type 0 where
  pub from : (a : AxisName) → IsLineAt (base_lines a boxes) (low a b) (index_along a r.from)
  pub to : (a : AxisName) → IsLineAt (base_lines a boxes) (high a b) (index_along a r.to)

-- the table of the first n boxes, the later one where two hold a cell
pub record IsTable (boxes : List SpaceBox) (n : ℕ) (table : List ℕ) : Type 0 where
  pub each_cell : length table ≡ cell_count (base_counts boxes)
  pub held : (p : Place) → IsBaseCell boxes p → (b : ℕ) (e : SpaceBox) → holder boxes table p ≡ b → b < n →
      HoldsCorner boxes p (slice_index_or boxes b e)
  pub left_free : (p : Place) → IsBaseCell boxes p → holder boxes table p ≡ free → (b : ℕ) (e : SpaceBox) → b < n →
      ¬ HoldsCorner boxes p (slice_index_or boxes b e)
  pub either : (p : Place) → IsBaseCell boxes p → (holder boxes table p < n) ⊎ (holder boxes table p ≡ free)

-- the first place of a table that is free
abbrev pub IsFirstFree : List ℕ → ℕ → Type 0
IsFirstFree table = IsFirst (λ n. n) (λ n. n < length table) (λ n. slice_index table n ≢ free) (λ n. slice_index table n ≡ free)

-- each base cell has a box that holds it
pub record HasHolders (boxes : List SpaceBox) (table : List ℕ) : Type 0 where
  pub each_cell : length table ≡ cell_count (base_counts boxes)
  pub within : (p : Place) → IsBaseCell boxes p → holder boxes table p < length boxes
  pub holds : (p : Place) (e : SpaceBox) → IsBaseCell boxes p → HoldsCorner boxes p (slice_index_or boxes (holder boxes table p) e)

-- ---- what fills the boxes
-- what is filled with a material is so with one of the list
abbrev pub HasMaterial : List Material → Content → Type 0
HasMaterial materials (content.Solid material) = material < length materials
HasMaterial materials (content.Air environment rs) = Unit {0}

-- what fills a box, with the conductivity of its material
abbrev pub filled_with : List Material → Content → Occupant
filled_with materials (content.Solid material) = Solid (slice_index (map (λ m. m.lambda) materials) material)
filled_with materials (content.Air environment rs) = Air environment rs

abbrev pub occupant_of : List Material → SpaceBox → Occupant
occupant_of materials b = filled_with materials b.content

-- what is read past the end of a list of boxes
abbrev pub no_box : SpaceBox
no_box = record { content = content.Solid 0; span = record { x0 = 0; x1 = 0; y0 = 0; y1 = 0; z0 = 0; z1 = 0 } }

-- for each base cell, in the order of numbers, whether the box that holds it is solid
abbrev pub solid_flags : List SpaceBox → List ℕ → List Bool
solid_flags boxes table = map (λ n. is_solid (slice_index_or boxes n no_box).content) table

-- what a body keeps of its detail
pub record Keeps (d : Detail) (base : Axes) (table : List ℕ) (occupants : List Occupant) (count : ℕ) : Type 0 where
  pub limits : InLimits d
  pub accepted : IsAccepted d
  pub lines : base ≡ base_axes d.boxes
  pub holders : HasHolders d.boxes table
  pub filled : occupants ≡ map (occupant_of d.materials) d.boxes
  pub environments : count ≡ length d.environments
