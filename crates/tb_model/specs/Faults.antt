-- The first faults of a flux: the adiabatic face of the least number through which heat passes, and the solid cell of
-- the least number in which heat is lost or gained.
use Rattle.std.specs.Prelude.{◌≡◌, ◌≢◌, ℕ, ◌<◌, Some, ℤ, pos}
use Rattle.tb_math.specs.Rational.{int}
use Rattle.tb_places.specs.Places.{IsCell, IsFace, cell_number, face_number}
use Rattle.tb_places.specs.declared.AxisName.{AxisName}
use Rattle.tb_places.specs.declared.Place.{Place}
use Rattle.tb_detail.specs.declared.Content.TheVariants.{Solid}
use Rattle.tb_model.specs.declared.FaceKind.TheVariants.{Shut}
use Rattle.tb_model.specs.Mesh.{Mesh, kind_at}
use Rattle.tb_model.specs.Energy.{Flux, outflow}

-- The shut face with this number is the first through which heat passes, while nothing passes any shut face of a
-- smaller number.
pub record IsFirstOuter (m : Mesh) (q : Flux) (number : ℕ) : Type 0 where
  pub axis : AxisName
  pub face : Place
  pub in_mesh : IsFace m.cells axis face
  pub numbered : face_number m.cells axis face ≡ number
  pub shut : kind_at m axis face ≡ Shut
  pub passing : q axis face.i face.j face.k ≢ int (pos 0)
  pub first : (a : AxisName) (p : Place) → IsFace m.cells a p → kind_at m a p ≡ Shut → face_number m.cells a p < number → q a p.i p.j p.k ≡ int (pos 0)

-- what fills the cell is a solid
pub record IsSolid (m : Mesh) (p : Place) : Type 0 where
  pub material : ℕ
  pub fills : m.occupant p.i p.j p.k ≡ Some (Solid material)

-- The solid cell with this number is the first that is out of balance: what leaves it through its faces is `sum`,
-- not 0, while nothing is lost in any solid cell of a smaller number.
pub record IsFirstUnbalanced (m : Mesh) (q : Flux) (number : ℕ) (sum : ℤ) : Type 0 where
  pub cell : Place
  pub in_mesh : IsCell m.cells cell
  pub numbered : cell_number m.cells cell ≡ number
  pub solid : IsSolid m cell
  pub leaving : outflow q cell.i cell.j cell.k ≡ int sum
  pub unbalanced : sum ≢ pos 0
  pub first : (p : Place) → IsCell m.cells p → IsSolid m p → cell_number m.cells p < number → outflow q p.i p.j p.k ≡ int (pos 0)
