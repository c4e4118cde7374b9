-- Roots, distances and outlets of the solid cells of a mesh.
--
-- Two solid cells are linked if a way leads from one to the other: a list of cells, each beyond an Inner face of the one
-- before it, so solid and sharing a face with it.
use Rattle.std.specs.Prelude.{◌≡◌, ◌⊎◌, ℕ, suc, ◌<◌, ◌≤◌, List, length}
use Rattle.tb_places.specs.declared.AxisName.TheVariants.{X, Y, Z}
use Rattle.tb_places.specs.declared.Place.{Place}
use Rattle.tb_places.specs.Inverse.{cell_place}
use Rattle.tb_places.specs.Places.{cell_count}
use Rattle.tb_model.specs.Mesh.{Mesh}
use Rattle.tb_walk.specs.Paths.{IsPath}
use Rattle.tb_walk.specs.Isolated.{IsSolidCell, IsSurface}
use Rattle.tb_outlets.specs.declared.side.Side.{Side}
use Rattle.tb_outlets.specs.declared.side.Side.TheVariants.{Low, High}
use Rattle.tb_outlets.specs.Sides.{IsBeyond, number_on, kind_on}

abbrev pub IsWay : Mesh → Place → List Place → Place → Type 0
IsWay m = IsPath (IsSolidCell m)

abbrev pub AreLinked : Mesh → Place → Place → Type 0
AreLinked m p q = (way : List Place) × IsWay m p way q

-- The root of the linked set of a cell is its Surface face with the least number. It is on a side of a cell, the root's
-- cell.
pub record IsRoot (m : Mesh) (p cell : Place) (side : Side) : Type 0 where
  pub solid : IsSolidCell m cell
  pub linked : AreLinked m p cell
  pub surface : IsSurface (kind_on m side cell)
  pub least : (q : Place) (s : Side) → IsSolidCell m q → AreLinked m p q → IsSurface (kind_on m s q) →
      number_on m.cells side cell ≤ number_on m.cells s q

-- The distance of a solid cell is one more than the least number of faces on a way to the root's cell.
pub record IsDistance (m : Mesh) (p : Place) (distance : ℕ) : Type 0 where
  pub solid : IsSolidCell m p
  pub cell : Place
  pub side : Side
  pub root : IsRoot m p cell side
  pub way : List Place
  pub leads : IsWay m p way cell
  pub long : distance ≡ suc (length way)
  pub least : (other : List Place) → IsWay m p other cell → distance ≤ suc (length other)

-- a side leads to a solid cell of smaller distance
pub record LeadsNearer (m : Mesh) (p : Place) (side : Side) : Type 0 where
  pub next : Place
  pub beyond : IsBeyond side p next
  pub solid : IsSolidCell m next
  pub from : ℕ
  pub to : ℕ
  pub from_here : IsDistance m p from
  pub from_next : IsDistance m next to
  pub nearer : to < from

-- the sides in the order −x, +x, −y, +y, −z, +z
abbrev pub side_number : Side → ℕ
side_number (Low X) = 0
side_number (High X) = 1
side_number (Low Y) = 2
side_number (High Y) = 3
side_number (Low Z) = 4
side_number (High Z) = 5

-- the first side that leads nearer
pub record IsFirstNearer (m : Mesh) (p : Place) (side : Side) : Type 0 where
  pub leads : LeadsNearer m p side
  pub first : (s : Side) → side_number s < side_number side → ¬ LeadsNearer m p s

-- The side of a cell with its outlet: of the root's cell the root, of another cell the first side that leads nearer.
abbrev pub IsOutletOf : Mesh → Place → Side → Type 0
IsOutletOf m p side = IsRoot m p p side ⊎ IsFirstNearer m p side

-- Cells by their numbers --

-- a solid cell
abbrev pub IsSolidAt : Mesh → ℕ → Type 0
IsSolidAt m c = (c < cell_count m.cells) × IsSolidCell m (cell_place m.cells c)

-- the distances and the outlets of all solid cells
abbrev pub AreDistances : Mesh → (ℕ → ℕ) → Type 0
AreDistances m distance = (c : ℕ) → IsSolidAt m c → IsDistance m (cell_place m.cells c) (distance c)

abbrev pub AreOutlets : Mesh → (ℕ → Side) → Type 0
AreOutlets m outlet = (c : ℕ) → IsSolidAt m c → IsOutletOf m (cell_place m.cells c) (outlet c)
