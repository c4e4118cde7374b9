-- Heat fluxes given by their flows, and what a balanced one obeys.
use Rattle.std.specs.Prelude.{◌≡◌, ◌≢◌, ℕ, List, length, All, slice_index_or, ℤ, pos, ◌-ℤ◌}
use Rattle.tb_math.specs.Rational.{int}
use Rattle.tb_places.specs.declared.AxisName.{AxisName}
use Rattle.tb_places.specs.declared.FacePlace.{FacePlace}
use Rattle.tb_places.specs.declared.Place.{Place}
use Rattle.tb_places.specs.Along.{ahead}
use Rattle.tb_places.specs.Inverse.{cell_place, face_place}
use Rattle.tb_places.specs.Places.{Counts, IsCell, IsFace, face_count, face_number}
use Rattle.tb_grid.specs.Grid.{Axes, counts_of}
use Rattle.tb_model.specs.declared.FaceKind.TheVariants.{Shut}
use Rattle.tb_model.specs.Energy as model
use Rattle.tb_model.specs.Energy.{outflow}
use Rattle.tb_model.specs.Faults.{IsSolid}
use Rattle.tb_model.specs.Mesh.{Mesh, kind_at}
use Rattle.tb_model.specs.Values.{flux_of}
use Rattle.tb_terms.specs.Limits.{IsFlow}

-- each flow is within limits
abbrev pub AreFlows : List ℤ → Type 0
AreFlows values = All IsFlow values

-- there is one flow for each face
abbrev pub FitsFaces : Counts → List ℤ → Type 0
FitsFaces n values = length values ≡ face_count n

-- the flux on a grid that has these flows through its faces, in their index order
abbrev pub flux_on : Axes → List ℤ → model.Flux
flux_on g values = flux_of (counts_of g) values

-- ---- balance
-- a face is adiabatic
abbrev pub IsShut : Mesh → FacePlace → Type 0
IsShut m f = kind_at m f.axis f.place ≡ Shut

-- the face with this number is adiabatic, and heat passes it
pub record IsPassed (m : Mesh) (n : Counts) (values : List ℤ) (number : ℕ) : Type 0 where
  pub shut : IsShut m (face_place n number)
  pub passing : slice_index_or values number (pos 0) ≢ pos 0

-- the cell with this number is solid, and what leaves it isn't nothing
pub record IsLoss (m : Mesh) (n : Counts) (number : ℕ) (sum : ℤ) : Type 0 where
  pub solid : IsSolid m (cell_place n number)
  pub unbalanced : sum ≢ pos 0

-- nothing passes an adiabatic face
abbrev pub ShutsOff : Mesh → model.Flux → Type 0
ShutsOff m q = (a : AxisName) (p : Place) → IsFace m.cells a p → kind_at m a p ≡ Shut → q a p.i p.j p.k ≡ int (pos 0)

-- nothing is lost in a solid cell
abbrev pub KeepsHeat : Mesh → model.Flux → Type 0
KeepsHeat m q = (p : Place) → IsCell m.cells p → IsSolid m p → outflow q p.i p.j p.k ≡ int (pos 0)

-- what leaves a cell through its two faces across an axis
abbrev pub leaving_at : Counts → AxisName → List ℤ → Place → ℤ
leaving_at n a values p =
    slice_index_or values (face_number n a (ahead a 1 p)) (pos 0) -ℤ slice_index_or values (face_number n a p) (pos 0)
