-- The six sides of a cell: what lies beyond each, and the face on it.
use Rattle.std.specs.Prelude.{◌≡◌, ℕ}
use Rattle.tb_places.specs.declared.AxisName.{AxisName}
use Rattle.tb_places.specs.declared.Place.{Place}
use Rattle.tb_places.specs.Inverse.{cell_place}
use Rattle.tb_places.specs.Places.{Counts}
use Rattle.tb_places.specs.Along.{ahead}
use Rattle.tb_places.specs.Places.{face_number}
use Rattle.tb_model.specs.declared.FaceKind.{FaceKind}
use Rattle.tb_model.specs.Mesh.{Mesh}
use Rattle.tb_model.specs.Mesh.{kind_at}
use Rattle.tb_outlets.specs.declared.side.Side.{Side}
use Rattle.tb_outlets.specs.declared.side.Side.TheVariants.{Low, High}

-- q lies beyond a side of p
abbrev pub IsBeyond : Side → Place → Place → Type 0
IsBeyond (Low a) p q = ahead a 1 q ≡ p
IsBeyond (High a) p q = ahead a 1 p ≡ q

-- the face on a side of the cell at a place: the axis across which it stands, its place, its number, its kind
abbrev pub axis_of : Side → AxisName
axis_of (Low a) = a
axis_of (High a) = a

abbrev pub place_on : Side → Place → Place
place_on (Low a) p = p
place_on (High a) p = ahead a 1 p

abbrev pub number_on : Counts → Side → Place → ℕ
number_on n s p = face_number n (axis_of s) (place_on s p)

abbrev pub kind_on : Mesh → Side → Place → FaceKind
kind_on m s p = kind_at m (axis_of s) (place_on s p)

-- the number of the face on a side of a cell, by the cell's number
abbrev pub face_of : Counts → ℕ → Side → ℕ
face_of n c s = number_on n s (cell_place n c)
