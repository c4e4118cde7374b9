-- Flags of the cells and faces of a grid that are told one after the other.
use Rattle.std.specs.Prelude.{◌≡◌, ◌↔◌, ℕ, ◌<◌, List, Bool, true, length}
use Rattle.tb_places.specs.Inverse.{cell_place}
use Rattle.tb_places.specs.Places.{Counts}
use Rattle.tb_model.specs.Faults.{IsSolid}
use Rattle.tb_model.specs.Mesh.{Mesh}
use Rattle.tb_walk.specs.Spreading.{flag}
use Rattle.tb_outlets.specs.Repair.{carries, kind_of}

-- the flags of the first k cells tell which of them are solid
pub record TellSolids (m : Mesh) (n : Counts) (flags : List Bool) (k : ℕ) : Type 0 where
  pub long : length flags ≡ k
  pub each : (c : ℕ) → c < k → (flag flags c ≡ true) ↔ IsSolid m (cell_place n c)

-- the flags of the first k faces tell which of them heat may pass
pub record TellPassable (m : Mesh) (flags : List Bool) (k : ℕ) : Type 0 where
  pub long : length flags ≡ k
  pub each : (f : ℕ) → f < k → flag flags f ≡ carries (kind_of m f)
