-- How the counts of a grid stand to one another.
use Rattle.std.proofs.Common.{◌≡◌, ℕ, ◌+◌, ◌*◌, ◌<◌, ◌≤◌, arith}
use Rattle.std.proofs.lemmas.Nat.{mul-le}
use Rattle.tb_places.specs.declared.AxisName.{AxisName}
use Rattle.tb_places.specs.declared.AxisName.TheVariants.{X, Y, Z}
use Rattle.tb_places.specs.declared.Place.{Place}
use Rattle.tb_places.proofs.Nodes.{node_number_below}
use Rattle.tb_places.proofs.Faces.{face_number_below}
use Rattle.tb_places.proofs.Edges.{edge_number_below}
use Rattle.tb_places.specs.Places.{IsNode, IsFace, IsEdge, node_number, face_number, edge_number}
use Rattle.tb_places.specs.Places.{Counts, cell_count, node_count, faces_a_layer, face_count, edge_count}

-- a product of two factors is below one with a further factor
pub two_below_three : (a b c : ℕ) → 0 < a → 0 < b → 0 < c →
    (a * b ≤ a * (b * c)) × (b * c ≤ a * (b * c)) × (a * c ≤ a * (b * c))
two_below_three a b c some_a some_b some_c =
    let xy : a * b * 1 ≤ a * b * c = mul-le (a * b) 1 (a * b) c (omega arith) some_c in
    let yz : 1 * (b * c) ≤ a * (b * c) = mul-le 1 (b * c) a (b * c) some_a (omega arith) in
    let xz : a * c * 1 ≤ a * c * b = mul-le (a * c) 1 (a * c) b (omega arith) some_b in
    (omega arith, omega arith, omega arith)

pub one_below_two : (a b : ℕ) → 0 < a → 0 < b → (a ≤ a * b) × (b ≤ a * b)
one_below_two a b some_a some_b =
    let x : a * 1 ≤ a * b = mul-le a 1 a b (omega arith) some_b in
    let y : 1 * b ≤ a * b = mul-le 1 b a b some_a (omega arith) in
    (omega arith, omega arith)

-- a face of the base, and a row of cells, has no more cells than the grid
pub area_below : (n : Counts) → ((a : AxisName) → 0 < n a) →
    (n X * n Y ≤ cell_count n) × (n Y * n Z ≤ cell_count n) × (n X * n Z ≤ cell_count n)
area_below n some = two_below_three (n X) (n Y) (n Z) (some X) (some Y) (some Z)

pub length_below : (n : Counts) (a : AxisName) → ((b : AxisName) → 0 < n b) → n a ≤ cell_count n
length_below n X some =
    let area = area_below n some in
    let row = one_below_two (n X) (n Y) (some X) (some Y) in omega arith
length_below n Y some =
    let area = area_below n some in
    let row = one_below_two (n X) (n Y) (some X) (some Y) in omega arith
length_below n Z some =
    let area = area_below n some in
    let row = one_below_two (n Y) (n Z) (some Y) (some Z) in omega arith

pub node_count_below : (n : Counts) → ((a : AxisName) → 0 < n a) → node_count n ≤ 8 * cell_count n
node_count_below n some =
    let area = area_below n some in
    let on_x = length_below n X some in let on_y = length_below n Y some in let on_z = length_below n Z some in
    let cell : 0 < n X = some X in
    omega arith

pub face_count_below : (n : Counts) → ((a : AxisName) → 0 < n a) → face_count n ≤ 6 * cell_count n
face_count_below n some = let area = area_below n some in omega arith

pub edge_count_below : (n : Counts) (a : AxisName) → ((b : AxisName) → 0 < n b) → edge_count n a ≤ 4 * cell_count n
edge_count_below n X some = let area = area_below n some in let on_x = length_below n X some in omega arith
edge_count_below n Y some = let area = area_below n some in let on_y = length_below n Y some in omega arith
edge_count_below n Z some = let area = area_below n some in let on_z = length_below n Z some in omega arith

pub layer_below : (n : Counts) → 0 < n Z → faces_a_layer n ≤ face_count n
layer_below n some =
    let l = faces_a_layer n in
    let below : 1 * l ≤ n Z * l = mul-le 1 l (n Z) l some (omega arith) in
    omega arith

-- ---- numbers against the number of cells, for the arithmetic of programs

pub node_number_few : (n : Counts) (p : Place) → ((a : AxisName) → 0 < n a) → IsNode n p →
    node_number n p < 8 * cell_count n
node_number_few n p some node =
    let below = node_number_below n p node in let few = node_count_below n some in omega arith

pub face_number_few : (n : Counts) (a : AxisName) (p : Place) → ((b : AxisName) → 0 < n b) → IsFace n a p →
    face_number n a p < 6 * cell_count n
face_number_few n a p some face =
    let below = face_number_below n a p face in let few = face_count_below n some in omega arith

pub edge_number_few : (n : Counts) (a : AxisName) (p : Place) → ((b : AxisName) → 0 < n b) → IsEdge n a p →
    edge_number n a p < 4 * cell_count n
edge_number_few n a p some edge =
    let below = edge_number_below n a p edge in let few = edge_count_below n a some in omega arith

pub layer_few : (n : Counts) → ((a : AxisName) → 0 < n a) → faces_a_layer n ≤ 6 * cell_count n
layer_few n some = let layer = layer_below n (some Z) in let few = face_count_below n some in omega arith

-- the faces of the layers below a face have lower numbers
pub layers_below_number : (n : Counts) (a : AxisName) (p : Place) → p.k * faces_a_layer n ≤ face_number n a p
layers_below_number n X p = omega arith
layers_below_number n Y p = omega arith
layers_below_number n Z p = omega arith

-- ---- the counts against one another

-- the faces are those across x, across y and across z
pub face_count_by_axis : (n : Counts) →
    face_count n ≡ (n X + 1) * (n Y * n Z) + n X * ((n Y + 1) * n Z) + n X * (n Y * (n Z + 1))
face_count_by_axis n = omega arith

-- Euler's formula for a box: nodes and faces are one more than edges and cells
pub euler : (n : Counts) →
    node_count n + face_count n ≡ edge_count n X + edge_count n Y + edge_count n Z + cell_count n + 1
euler n = omega arith
