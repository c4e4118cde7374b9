-- Which cells, faces, edges and nodes of a grid meet, as seen along one axis.
use Rattle.std.proofs.Common.{◌≡◌, ℕ, ◌+◌, ◌<◌, ◌≤◌, ◌↔◌, refl, arith}
use Rattle.tb_places.specs.declared.AxisName.{AxisName}
use Rattle.tb_places.specs.declared.AxisName.TheVariants.{X, Y, Z}
use Rattle.tb_places.specs.declared.Place.{Place}
use Rattle.tb_places.specs.Places.{Counts, along, second, third, IsCell, IsNode, IsFace, IsEdge, place_at}
use Rattle.tb_places.specs.Along.{ahead, index_along, place_along}

-- a function of places at the place, and along the axis
pub at_place_along : {A : Type 0} (a : AxisName) (f : ℕ → ℕ → ℕ → A) (i j k : ℕ) →
    let p = place_along a i j k in along a f i j k ≡ f p.i p.j p.k
at_place_along X f i j k = refl
at_place_along Y f i j k = refl
at_place_along Z f i j k = refl

pub index_on_line : (a : AxisName) (i j k : ℕ) → index_along a (place_along a i j k) ≡ i
index_on_line X i j k = refl
index_on_line Y i j k = refl
index_on_line Z i j k = refl

pub second_on_line : (a : AxisName) (i j k : ℕ) → index_along (second a) (place_along a i j k) ≡ j
second_on_line X i j k = refl
second_on_line Y i j k = refl
second_on_line Z i j k = refl

pub third_on_line : (a : AxisName) (i j k : ℕ) → index_along (third a) (place_along a i j k) ≡ k
third_on_line X i j k = refl
third_on_line Y i j k = refl
third_on_line Z i j k = refl

pub ahead_on_line : (a : AxisName) (by i j k : ℕ) → ahead a by (place_along a i j k) ≡ place_along a (i + by) j k
ahead_on_line X by i j k = refl
ahead_on_line Y by i j k = refl
ahead_on_line Z by i j k = refl

-- each place stands on a line along the axis
pub on_its_line : (a : AxisName) (p : Place) →
    place_along a (index_along a p) (index_along (second a) p) (index_along (third a) p) ≡ p
on_its_line X p = refl
on_its_line Y p = refl
on_its_line Z p = refl

pub cell_along : (n : Counts) (a : AxisName) (i j k : ℕ) →
    IsCell n (place_along a i j k) ↔ ((i < n a) × (j < n (second a)) × (k < n (third a)))
cell_along n X i j k = (λ h. h, λ h. h)
cell_along n Y i j k = (λ h. (h.1, h.0, h.2), λ h. (h.1, h.0, h.2))
cell_along n Z i j k = (λ h. (h.2, h.0, h.1), λ h. (h.1, h.2, h.0))

pub node_along : (n : Counts) (a : AxisName) (i j k : ℕ) →
    IsNode n (place_along a i j k) ↔ ((i ≤ n a) × (j ≤ n (second a)) × (k ≤ n (third a)))
node_along n X i j k = (λ h. h, λ h. h)
node_along n Y i j k = (λ h. (h.1, h.0, h.2), λ h. (h.1, h.0, h.2))
node_along n Z i j k = (λ h. (h.2, h.0, h.1), λ h. (h.1, h.2, h.0))

pub face_along : (n : Counts) (a : AxisName) (i j k : ℕ) →
    IsFace n a (place_along a i j k) ↔ ((i ≤ n a) × (j < n (second a)) × (k < n (third a)))
face_along n X i j k = (λ h. h, λ h. h)
face_along n Y i j k = (λ h. (h.1, h.0, h.2), λ h. (h.1, h.0, h.2))
face_along n Z i j k = (λ h. (h.2, h.0, h.1), λ h. (h.1, h.2, h.0))

pub edge_along : (n : Counts) (a : AxisName) (i j k : ℕ) →
    IsEdge n a (place_along a i j k) ↔ ((i < n a) × (j ≤ n (second a)) × (k ≤ n (third a)))
edge_along n X i j k = (λ h. h, λ h. h)
edge_along n Y i j k = (λ h. (h.1, h.0, h.2), λ h. (h.1, h.0, h.2))
edge_along n Z i j k = (λ h. (h.2, h.0, h.1), λ h. (h.1, h.2, h.0))

-- the faces across the two other axes, seen along this one
pub second_face_along : (n : Counts) (a : AxisName) (i j k : ℕ) →
    IsFace n (second a) (place_along a i j k) ↔ ((i < n a) × (j ≤ n (second a)) × (k < n (third a)))
second_face_along n X i j k = (λ h. h, λ h. h)
second_face_along n Y i j k = (λ h. (h.1, h.0, h.2), λ h. (h.1, h.0, h.2))
second_face_along n Z i j k = (λ h. (h.2, h.0, h.1), λ h. (h.1, h.2, h.0))

pub third_face_along : (n : Counts) (a : AxisName) (i j k : ℕ) →
    IsFace n (third a) (place_along a i j k) ↔ ((i < n a) × (j < n (second a)) × (k ≤ n (third a)))
third_face_along n X i j k = (λ h. h, λ h. h)
third_face_along n Y i j k = (λ h. (h.1, h.0, h.2), λ h. (h.1, h.0, h.2))
third_face_along n Z i j k = (λ h. (h.2, h.0, h.1), λ h. (h.1, h.2, h.0))

-- ---- a cell's faces, corners and edges

pub low_face_of_cell : (n : Counts) (a : AxisName) (p : Place) → IsCell n p → IsFace n a p
low_face_of_cell n X p (on_x, on_y, on_z) = (omega arith, on_y, on_z)
low_face_of_cell n Y p (on_x, on_y, on_z) = (on_x, omega arith, on_z)
low_face_of_cell n Z p (on_x, on_y, on_z) = (on_x, on_y, omega arith)

pub high_face_of_cell : (n : Counts) (a : AxisName) (p : Place) → IsCell n p → IsFace n a (ahead a 1 p)
high_face_of_cell n X p (on_x, on_y, on_z) = (omega arith, on_y, on_z)
high_face_of_cell n Y p (on_x, on_y, on_z) = (on_x, omega arith, on_z)
high_face_of_cell n Z p (on_x, on_y, on_z) = (on_x, on_y, omega arith)

-- the cell that a face is the low face of
pub cell_above_face : (n : Counts) (a : AxisName) (p : Place) → IsFace n a p → index_along a p < n a → IsCell n p
cell_above_face n X p face before = (before, face.1, face.2)
cell_above_face n Y p face before = (face.0, before, face.2)
cell_above_face n Z p face before = (face.0, face.1, before)

-- the cell that a face is the high face of
pub cell_below_face : (n : Counts) (a : AxisName) (p : Place) → IsFace n a (ahead a 1 p) → IsCell n p
cell_below_face n X p (on_x, on_y, on_z) = (omega arith, on_y, on_z)
cell_below_face n Y p (on_x, on_y, on_z) = (on_x, omega arith, on_z)
cell_below_face n Z p (on_x, on_y, on_z) = (on_x, on_y, omega arith)

pub next_cell : (n : Counts) (a : AxisName) (p : Place) → IsCell n p → index_along a p + 1 < n a → IsCell n (ahead a 1 p)
next_cell n X p cell before = (before, cell.1, cell.2)
next_cell n Y p cell before = (cell.0, before, cell.2)
next_cell n Z p cell before = (cell.0, cell.1, before)

pub index_within : (n : Counts) (a : AxisName) (p : Place) → IsCell n p → index_along a p < n a
index_within n X p cell = cell.0
index_within n Y p cell = cell.1
index_within n Z p cell = cell.2

pub corner_of_cell : (n : Counts) (p : Place) (x y z : ℕ) → IsCell n p → x ≤ 1 → y ≤ 1 → z ≤ 1 →
    IsNode n (place_at (p.i + x) (p.j + y) (p.k + z))
corner_of_cell n p x y z cell x_one y_one z_one = (omega arith, omega arith, omega arith)

pub edge_of_cell : (n : Counts) (a : AxisName) (p : Place) (q r : ℕ) → IsCell n p → q ≤ 1 → r ≤ 1 →
    IsEdge n a (ahead (second a) q (ahead (third a) r p))
edge_of_cell n X p q r cell q_one r_one = (omega arith, omega arith, omega arith)
edge_of_cell n Y p q r cell q_one r_one = (omega arith, omega arith, omega arith)
edge_of_cell n Z p q r cell q_one r_one = (omega arith, omega arith, omega arith)

pub end_of_edge : (n : Counts) (a : AxisName) (p : Place) (by : ℕ) → IsEdge n a p → by ≤ 1 → IsNode n (ahead a by p)
end_of_edge n X p by edge one = (omega arith, omega arith, omega arith)
end_of_edge n Y p by edge one = (omega arith, omega arith, omega arith)
end_of_edge n Z p by edge one = (omega arith, omega arith, omega arith)

-- ---- what stands round an edge that is inside the hull: its two lines, j + 1 and k + 1, are no outer lines

pub cell_round_edge : (n : Counts) (a : AxisName) (i j k q r : ℕ) →
    i < n a → j + 1 < n (second a) → k + 1 < n (third a) → q ≤ 1 → r ≤ 1 →
    IsCell n (place_along a i (j + q) (k + r))
cell_round_edge n a i j k q r on_axis inside_j inside_k q_one r_one =
    (cell_along n a i (j + q) (k + r)).1 (on_axis, omega arith, omega arith)

pub second_face_round_edge : (n : Counts) (a : AxisName) (i j k r : ℕ) →
    i < n a → j + 1 < n (second a) → k + 1 < n (third a) → r ≤ 1 →
    IsFace n (second a) (place_along a i (j + 1) (k + r))
second_face_round_edge n a i j k r on_axis inside_j inside_k r_one =
    (second_face_along n a i (j + 1) (k + r)).1 (on_axis, omega arith, omega arith)

pub third_face_round_edge : (n : Counts) (a : AxisName) (i j k q : ℕ) →
    i < n a → j + 1 < n (second a) → k + 1 < n (third a) → q ≤ 1 →
    IsFace n (third a) (place_along a i (j + q) (k + 1))
third_face_round_edge n a i j k q on_axis inside_j inside_k q_one =
    (third_face_along n a i (j + q) (k + 1)).1 (on_axis, omega arith, omega arith)
