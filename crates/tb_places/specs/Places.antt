-- Cells, nodes, faces and edges of a grid: their places, and their numbers in the index orders.
--
-- A place is three indexes from 0, along x, y and z. Counts are numbers of cells along the axes.
use Rattle.std.specs.Prelude.{ℕ, ◌+◌, ◌*◌, ◌<◌, ◌≤◌}
use Rattle.tb_places.specs.declared.AxisName.{AxisName}
use Rattle.tb_places.specs.declared.AxisName.TheVariants.{X, Y, Z}
use Rattle.tb_places.specs.declared.Place.{Place}

-- of three things, that of an axis
abbrev pub by_axis : {A : Type 0} → A → A → A → AxisName → A
by_axis x y z X = x
by_axis x y z Y = y
by_axis x y z Z = z

-- how many cells a grid has along each axis
abbrev pub Counts : Type 0
Counts = AxisName → ℕ

-- the two other axes, in the order x, y, z
abbrev pub second : AxisName → AxisName
second X = Y
second Y = X
second Z = X

abbrev pub third : AxisName → AxisName
third X = Z
third Y = Z
third Z = Y

-- a function of places, read with the index along the axis first and the other two behind it in order
abbrev pub along : {A : Type 0} → AxisName → (ℕ → ℕ → ℕ → A) → ℕ → ℕ → ℕ → A
along X f i j k = f i j k
along Y f i j k = f j i k
along Z f i j k = f j k i

-- the place (i,j,k)
abbrev pub place_at : ℕ → ℕ → ℕ → Place
place_at i j k = record { i = i; j = j; k = k }

-- the cell (i,j,k) lies between the lines i and i+1, j and j+1, k and k+1
abbrev pub IsCell : Counts → Place → Type 0
IsCell n p = (p.i < n X) × (p.j < n Y) × (p.k < n Z)

-- the node (i,j,k) stands at the lines i, j and k
abbrev pub IsNode : Counts → Place → Type 0
IsNode n p = (p.i ≤ n X) × (p.j ≤ n Y) × (p.k ≤ n Z)

-- a face across an axis stands at a line of that axis and spans an interval of the other two
abbrev pub IsFace : Counts → AxisName → Place → Type 0
IsFace n X p = (p.i ≤ n X) × (p.j < n Y) × (p.k < n Z)
IsFace n Y p = (p.i < n X) × (p.j ≤ n Y) × (p.k < n Z)
IsFace n Z p = (p.i < n X) × (p.j < n Y) × (p.k ≤ n Z)

-- an edge along an axis spans an interval of that axis and stands at lines of the other two
abbrev pub IsEdge : Counts → AxisName → Place → Type 0
IsEdge n X p = (p.i < n X) × (p.j ≤ n Y) × (p.k ≤ n Z)
IsEdge n Y p = (p.i ≤ n X) × (p.j < n Y) × (p.k ≤ n Z)
IsEdge n Z p = (p.i ≤ n X) × (p.j ≤ n Y) × (p.k < n Z)

abbrev pub cell_count : Counts → ℕ
cell_count n = n X * (n Y * n Z)

abbrev pub cell_number : Counts → Place → ℕ
cell_number n p = p.i + n X * (p.j + n Y * p.k)

abbrev pub node_count : Counts → ℕ
node_count n = (n X + 1) * ((n Y + 1) * (n Z + 1))

abbrev pub node_number : Counts → Place → ℕ
node_number n p = p.i + (n X + 1) * (p.j + (n Y + 1) * p.k)

-- the faces from one z-line up to the next: z-faces at the line, then x-faces and y-faces of the layer above it
abbrev pub faces_a_layer : Counts → ℕ
faces_a_layer n = n X * n Y + ((n X + 1) * n Y + n X * (n Y + 1))

abbrev pub face_count : Counts → ℕ
face_count n = n Z * faces_a_layer n + n X * n Y

abbrev pub face_number : Counts → AxisName → Place → ℕ
face_number n X p = p.k * faces_a_layer n + (n X * n Y + (p.j * (n X + 1) + p.i))
face_number n Y p = p.k * faces_a_layer n + (n X * n Y + ((n X + 1) * n Y + (p.j * n X + p.i)))
face_number n Z p = p.k * faces_a_layer n + (p.j * n X + p.i)

-- edges are numbered for each axis by itself
abbrev pub edge_count : Counts → AxisName → ℕ
edge_count n X = n X * ((n Y + 1) * (n Z + 1))
edge_count n Y = (n X + 1) * (n Y * (n Z + 1))
edge_count n Z = (n X + 1) * ((n Y + 1) * n Z)

abbrev pub edge_number : Counts → AxisName → Place → ℕ
edge_number n X p = p.i + n X * (p.j + (n Y + 1) * p.k)
edge_number n Y p = p.i + (n X + 1) * (p.j + n Y * p.k)
edge_number n Z p = p.i + (n X + 1) * (p.j + (n Y + 1) * p.k)
