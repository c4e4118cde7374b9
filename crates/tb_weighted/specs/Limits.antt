-- What the values of a field and of a flux keep to, and how many there are of them.
use Rattle.std.specs.Prelude.{◌≡◌, ◌^◌, ◌≤◌, List, length, ℤ, pos, ◌≤ℤ◌, unsigned_abs}
use Rattle.std.specs.List.{All}
use Rattle.tb_places.specs.Places.{Counts, face_count, node_count}

-- a temperature in 10⁻⁸ of the difference, from 0 to 1
abbrev pub InField : ℤ → Type 0
InField v = (pos 0 ≤ℤ v) × (v ≤ℤ pos (10 ^ 8))

-- one for each node
pub record IsField (n : Counts) (values : List ℤ) : Type 0 where
  pub nodes : length values ≡ node_count n
  pub within : All InField values

-- a flow in nW
abbrev pub InFlow : ℤ → Type 0
InFlow v = unsigned_abs v ≤ 10 ^ 12

-- one for each face
pub record IsFlux (n : Counts) (flows : List ℤ) : Type 0 where
  pub faces : length flows ≡ face_count n
  pub within : All InFlow flows
