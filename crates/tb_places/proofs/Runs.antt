-- Where the numbers of one row, layer or axis end, those of the next begin.
use Rattle.std.proofs.Common.{◌≡◌, ℕ, ◌+◌, arith}
use Rattle.tb_places.specs.declared.AxisName.TheVariants.{X, Y, Z}
use Rattle.tb_places.specs.Places.{Counts, cell_count, cell_number, node_count, node_number, place_at}
use Rattle.tb_places.specs.Places.{face_count, face_number, edge_count, edge_number}

pub cell_rows : (n : Counts) (j k : ℕ) → cell_number n (place_at (n X) j k) ≡ cell_number n (place_at 0 (j + 1) k)
cell_rows n j k = omega arith

pub cell_layers : (n : Counts) (k : ℕ) → cell_number n (place_at 0 (n Y) k) ≡ cell_number n (place_at 0 0 (k + 1))
cell_layers n k = omega arith

pub cell_end : (n : Counts) → cell_number n (place_at 0 0 (n Z)) ≡ cell_count n
cell_end n = omega arith

pub node_rows : (n : Counts) (j k : ℕ) → node_number n (place_at (n X + 1) j k) ≡ node_number n (place_at 0 (j + 1) k)
node_rows n j k = omega arith

pub node_layers : (n : Counts) (k : ℕ) → node_number n (place_at 0 (n Y + 1) k) ≡ node_number n (place_at 0 0 (k + 1))
node_layers n k = omega arith

pub node_end : (n : Counts) → node_number n (place_at 0 0 (n Z + 1)) ≡ node_count n
node_end n = omega arith

pub z_face_rows : (n : Counts) (j k : ℕ) → face_number n Z (place_at (n X) j k) ≡ face_number n Z (place_at 0 (j + 1) k)
z_face_rows n j k = omega arith

pub x_face_rows : (n : Counts) (j k : ℕ) → face_number n X (place_at (n X + 1) j k) ≡ face_number n X (place_at 0 (j + 1) k)
x_face_rows n j k = omega arith

pub y_face_rows : (n : Counts) (j k : ℕ) → face_number n Y (place_at (n X) j k) ≡ face_number n Y (place_at 0 (j + 1) k)
y_face_rows n j k = omega arith

-- in a layer the x-faces follow the z-faces, the y-faces follow the x-faces, and the next layer follows those
pub z_faces_end : (n : Counts) (k : ℕ) → face_number n Z (place_at 0 (n Y) k) ≡ face_number n X (place_at 0 0 k)
z_faces_end n k = omega arith

pub x_faces_end : (n : Counts) (k : ℕ) → face_number n X (place_at 0 (n Y) k) ≡ face_number n Y (place_at 0 0 k)
x_faces_end n k = omega arith

pub y_faces_end : (n : Counts) (k : ℕ) → face_number n Y (place_at 0 (n Y + 1) k) ≡ face_number n Z (place_at 0 0 (k + 1))
y_faces_end n k = omega arith

-- the z-faces at the last line are the last
pub face_end : (n : Counts) → face_number n Z (place_at 0 (n Y) (n Z)) ≡ face_count n
face_end n = omega arith

pub x_edge_rows : (n : Counts) (j k : ℕ) → edge_number n X (place_at (n X) j k) ≡ edge_number n X (place_at 0 (j + 1) k)
x_edge_rows n j k = omega arith

pub y_edge_rows : (n : Counts) (j k : ℕ) → edge_number n Y (place_at (n X + 1) j k) ≡ edge_number n Y (place_at 0 (j + 1) k)
y_edge_rows n j k = omega arith

pub z_edge_rows : (n : Counts) (j k : ℕ) → edge_number n Z (place_at (n X + 1) j k) ≡ edge_number n Z (place_at 0 (j + 1) k)
z_edge_rows n j k = omega arith

pub x_edge_layers : (n : Counts) (k : ℕ) → edge_number n X (place_at 0 (n Y + 1) k) ≡ edge_number n X (place_at 0 0 (k + 1))
x_edge_layers n k = omega arith

pub y_edge_layers : (n : Counts) (k : ℕ) → edge_number n Y (place_at 0 (n Y) k) ≡ edge_number n Y (place_at 0 0 (k + 1))
y_edge_layers n k = omega arith

pub z_edge_layers : (n : Counts) (k : ℕ) → edge_number n Z (place_at 0 (n Y + 1) k) ≡ edge_number n Z (place_at 0 0 (k + 1))
z_edge_layers n k = omega arith

pub x_edge_end : (n : Counts) → edge_number n X (place_at 0 0 (n Z + 1)) ≡ edge_count n X
x_edge_end n = omega arith

pub y_edge_end : (n : Counts) → edge_number n Y (place_at 0 0 (n Z + 1)) ≡ edge_count n Y
y_edge_end n = omega arith

pub z_edge_end : (n : Counts) → edge_number n Z (place_at 0 0 (n Z)) ≡ edge_count n Z
z_edge_end n = omega arith
