-- From numbers back to places: the place of a cell, node, face or edge, computed from its number by division.
use Rattle.std.specs.Prelude.{ℕ, ◌+◌, ◌-◌, ◌*◌, ◌/◌, ◌%◌, nat_lt, if◌then◌else◌}
use Rattle.tb_places.specs.declared.AxisName.{AxisName}
use Rattle.tb_places.specs.declared.AxisName.TheVariants.{X, Y, Z}
use Rattle.tb_places.specs.declared.Place.{Place}
use Rattle.tb_places.specs.declared.FacePlace.{FacePlace}
use Rattle.tb_places.specs.Places.{Counts, faces_a_layer, place_at}

-- the place of a number that counts along x first, a to the row, and then along y, b rows to the layer
abbrev pub place_by_rows : ℕ → ℕ → ℕ → Place
place_by_rows a b m = place_at (m % a) (m / a % b) (m / a / b)

abbrev pub cell_place : Counts → ℕ → Place
cell_place n c = place_by_rows (n X) (n Y) c

abbrev pub node_place : Counts → ℕ → Place
node_place n m = place_by_rows (n X + 1) (n Y + 1) m

abbrev pub edge_place : Counts → AxisName → ℕ → Place
edge_place n X e = place_by_rows (n X) (n Y + 1) e
edge_place n Y e = place_by_rows (n X + 1) (n Y) e
edge_place n Z e = place_by_rows (n X + 1) (n Y + 1) e

-- the face that is number r among those across one axis in layer k, a of them to the row
abbrev pub face_by_rows : AxisName → ℕ → ℕ → ℕ → FacePlace
face_by_rows axis a k r = record { axis = axis; place = place_at (r % a) (r / a) k }

-- number r among the x-faces and y-faces of layer k, the x-faces first
abbrev pub side_in_layer : Counts → ℕ → ℕ → FacePlace
side_in_layer n k r =
    if nat_lt r ((n X + 1) * n Y) then face_by_rows X (n X + 1) k r
    else face_by_rows Y (n X) k (r - (n X + 1) * n Y)

-- number r among the faces of layer k, the z-faces first
abbrev pub face_in_layer : Counts → ℕ → ℕ → FacePlace
face_in_layer n k r =
    if nat_lt r (n X * n Y) then face_by_rows Z (n X) k r else side_in_layer n k (r - n X * n Y)

unfoldable pub face_place : Counts → ℕ → FacePlace
face_place n f = face_in_layer n (f / faces_a_layer n) (f % faces_a_layer n)
