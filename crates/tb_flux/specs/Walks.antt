-- What walks over faces and cells have found so far, and which faces they may pass over.
use Rattle.std.specs.Prelude.{◌≡◌, ℕ, ◌<◌, List, Option, MatchOption, ℤ, pos}
use Rattle.tb_math.specs.Rational.{int}
use Rattle.tb_places.specs.declared.AxisName.{AxisName}
use Rattle.tb_places.specs.declared.Place.{Place}
use Rattle.tb_places.specs.Along.{index_along}
use Rattle.tb_places.specs.Places.{Counts, IsCell, IsFace, cell_number, face_number}
use Rattle.tb_detail.specs.declared.Detail.{Detail}
use Rattle.tb_grid.specs.declared.ids.CellId.{CellId}
use Rattle.tb_grid.specs.declared.ids.FaceId.{FaceId}
use Rattle.tb_grid.specs.Grid.{Axes}
use Rattle.tb_model.specs.declared.FaceKind.TheVariants.{Shut}
use Rattle.tb_model.specs.Energy as model
use Rattle.tb_model.specs.Energy.{outflow}
use Rattle.tb_model.specs.Faults.{IsFirstOuter, IsFirstUnbalanced, IsSolid}
use Rattle.tb_model.specs.Mesh.{Mesh, kind_at}
use Rattle.tb_geometry.specs.Grids.{mesh_on}
use Rattle.tb_flux.specs.Fluxes.{flux_on}

-- nothing passes the adiabatic faces of smaller numbers
abbrev pub ShutsOffBelow : Mesh → model.Flux → ℕ → Type 0
ShutsOffBelow m q f = (a : AxisName) (p : Place) → IsFace m.cells a p → kind_at m a p ≡ Shut →
    face_number m.cells a p < f → q a p.i p.j p.k ≡ int (pos 0)

-- nothing is lost in the solid cells of smaller numbers
abbrev pub KeepsHeatBelow : Mesh → model.Flux → ℕ → Type 0
KeepsHeatBelow m q c = (p : Place) → IsCell m.cells p → IsSolid m p → cell_number m.cells p < c → outflow q p.i p.j p.k ≡ int (pos 0)

-- the same of flows on a grid
abbrev pub IsTightBelow : Detail → Axes → List ℤ → ℕ → Type 0
IsTightBelow d g values f = ShutsOffBelow (mesh_on d g) (flux_on g values) f

abbrev pub IsKeptBelow : Detail → Axes → List ℤ → ℕ → Type 0
IsKeptBelow d g values c = KeepsHeatBelow (mesh_on d g) (flux_on g values) c

-- the first adiabatic face through which heat passes was found, or none of a number below f
abbrev pub FindsOuter : Detail → Axes → List ℤ → ℕ → Option FaceId → Type 0
FindsOuter d g values f found =
    MatchOption found (IsTightBelow d g values f) (λ face. IsFirstOuter (mesh_on d g) (flux_on g values) face.0)

-- the first solid cell out of balance was found, or none of a number below c
abbrev pub FindsLoss : Detail → Axes → List ℤ → ℕ → Option (CellId × ℤ) → Type 0
FindsLoss d g values c found =
    MatchOption found (IsKeptBelow d g values c) (λ loss. IsFirstUnbalanced (mesh_on d g) (flux_on g values) loss.0.0 loss.1)

-- the face with this number lies inside the hull: it stands neither at the first line of its axis nor at the last
pub record IsInner (n : Counts) (number : ℕ) : Type 0 where
  pub axis : AxisName
  pub face : Place
  pub in_mesh : IsFace n axis face
  pub numbered : face_number n axis face ≡ number
  pub above_first : 0 < index_along axis face
  pub below_last : index_along axis face < n axis
