-- Places and numbers as seen along one axis: the index along that axis first, and the other two behind it in order.
use Rattle.std.specs.Prelude.{ℕ, ◌+◌, ◌*◌, ◌/◌, ◌%◌}
use Rattle.tb_places.specs.declared.AxisName.{AxisName}
use Rattle.tb_places.specs.declared.AxisName.TheVariants.{X, Y, Z}
use Rattle.tb_places.specs.declared.Place.{Place}
use Rattle.tb_places.specs.Places.{Counts, along, by_axis, faces_a_layer, place_at, second, third}

-- the place with the index i along the axis, and j and k along the other two in order
abbrev pub place_along : AxisName → ℕ → ℕ → ℕ → Place
place_along a i j k = along a place_at i j k

-- the index of a place along an axis
abbrev pub index_along : AxisName → Place → ℕ
index_along a p = by_axis p.i p.j p.k a

-- the place so many indexes further along an axis
abbrev pub ahead : AxisName → ℕ → Place → Place
ahead X by p = place_at (p.i + by) p.j p.k
ahead Y by p = place_at p.i (p.j + by) p.k
ahead Z by p = place_at p.i p.j (p.k + by)

-- the place of an edge of a cell along an axis. Corner p + 2·q is on the low side (0) or the high side (1) of
-- the two other axes: p of the second, q of the third
abbrev pub corner_edge : AxisName → ℕ → Place → Place
corner_edge a corner cell = ahead (second a) (corner % 2) (ahead (third a) (corner / 2) cell)

-- how far it is from a number to that of the next one along an axis: of a cell,
abbrev pub cell_stride : Counts → AxisName → ℕ
cell_stride n X = 1
cell_stride n Y = n X
cell_stride n Z = n X * n Y

-- of a node,
abbrev pub node_stride : Counts → AxisName → ℕ
node_stride n X = 1
node_stride n Y = n X + 1
node_stride n Z = (n X + 1) * (n Y + 1)

-- of a face across the first axis, along the second,
abbrev pub face_stride : Counts → AxisName → AxisName → ℕ
face_stride n a X = 1
face_stride n X Y = n X + 1
face_stride n Y Y = n X
face_stride n Z Y = n X
face_stride n a Z = faces_a_layer n

-- and of an edge along the first axis, along the second
abbrev pub edge_stride : Counts → AxisName → AxisName → ℕ
edge_stride n a X = 1
edge_stride n X Y = n X
edge_stride n Y Y = n X + 1
edge_stride n Z Y = n X + 1
edge_stride n X Z = n X * (n Y + 1)
edge_stride n Y Z = (n X + 1) * n Y
edge_stride n Z Z = (n X + 1) * (n Y + 1)
