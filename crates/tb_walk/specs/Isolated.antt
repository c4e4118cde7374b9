-- The solid cells of a mesh from which no way leads through solid cells to a surface.
use Rattle.std.specs.Prelude.{◌≡◌, ◌↔◌, ◌⊎◌, ◌≢◌, ⊤, List, Bool, None, true}
use Rattle.tb_places.specs.declared.AxisName.{AxisName}
use Rattle.tb_places.specs.declared.Place.{Place}
use Rattle.tb_places.specs.Places.{Counts, IsCell}
use Rattle.tb_places.specs.Along.{ahead}
use Rattle.tb_model.specs.declared.FaceKind.{FaceKind}
use Rattle.tb_model.specs.declared.FaceKind.TheVariants.{Surface}
use Rattle.tb_model.specs.Mesh.{Mesh, kind_at}
use Rattle.tb_model.specs.Faults.{IsSolid}
use Rattle.tb_walk.specs.Paths.{Reaches, AllReach, IsEnclosed, IsFirstEnclosed}
use Rattle.tb_walk.specs.Marks.{flag_at}

-- a solid cell of a mesh
abbrev pub IsSolidCell : Mesh → Place → Type 0
IsSolidCell m p = IsCell m.cells p × IsSolid m p

-- a face between a solid and an air cell
abbrev pub IsSurface : FaceKind → Type 0
IsSurface (Surface environment rs low_is_air) = ⊤
IsSurface _ = ⊥

-- one of the faces of a cell, on its low or its high side across an axis, is a surface
abbrev pub HasSurface : Mesh → Place → Type 0
HasSurface m p = (a : AxisName) × (IsSurface (kind_at m a p) ⊎ IsSurface (kind_at m a (ahead a 1 p)))

-- through solid cells a path leads to one with a surface
abbrev pub ReachesSurface : Mesh → Place → Type 0
ReachesSurface m = Reaches (IsSolidCell m) (HasSurface m)

-- no solid part is without a surface
abbrev pub NoneIsolated : Mesh → Type 0
NoneIsolated m = AllReach (IsSolidCell m) (HasSurface m)

-- a solid cell that reaches no surface, and the first of them
abbrev pub IsIsolated : Mesh → Place → Type 0
IsIsolated m = IsEnclosed (IsSolidCell m) (HasSurface m)

abbrev pub IsFirstIsolated : Mesh → Place → Type 0
IsFirstIsolated m = IsFirstEnclosed m.cells (IsSolidCell m) (HasSurface m)

-- something fills each cell of a mesh
abbrev pub IsFilled : Mesh → Type 0
IsFilled m = (p : Place) → IsCell m.cells p → m.occupant p.i p.j p.k ≢ None

-- flags mark the solid cells of a mesh without empty cells, on a grid with its counts of cells
pub record MarkSolids (n : Counts) (m : Mesh) (flags : List Bool) : Type 0 where
  pub counts : (a : AxisName) → n a ≡ m.cells a
  pub filled : IsFilled m
  pub marked : (p : Place) → IsCell n p → (flag_at n flags p ≡ true) ↔ IsSolid m p
