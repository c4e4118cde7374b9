-- The number of the next cell, node, face or edge along an axis.
use Rattle.std.proofs.Common.{◌≡◌, ◌+◌, arith}
use Rattle.tb_places.specs.declared.AxisName.{AxisName}
use Rattle.tb_places.specs.declared.AxisName.TheVariants.{X, Y, Z}
use Rattle.tb_places.specs.declared.Place.{Place}
use Rattle.tb_places.specs.Places.{Counts, place_at, cell_number, node_number, face_number, edge_number}
use Rattle.tb_places.specs.Along.{ahead, cell_stride, node_stride, face_stride, edge_stride}

pub cell_step : (n : Counts) (a : AxisName) (p : Place) →
    cell_number n (ahead a 1 p) ≡ cell_number n p + cell_stride n a
cell_step n X p = omega arith
cell_step n Y p = omega arith
cell_step n Z p = omega arith

pub node_step : (n : Counts) (a : AxisName) (p : Place) →
    node_number n (ahead a 1 p) ≡ node_number n p + node_stride n a
node_step n X p = omega arith
node_step n Y p = omega arith
node_step n Z p = omega arith

-- several steps at once, as from a cell's first corner to the others
pub cell_steps : (n : Counts) (p q : Place) →
    cell_number n (place_at (p.i + q.i) (p.j + q.j) (p.k + q.k)) ≡ cell_number n p + cell_number n q
cell_steps n p q = omega arith

pub node_steps : (n : Counts) (p q : Place) →
    node_number n (place_at (p.i + q.i) (p.j + q.j) (p.k + q.k)) ≡ node_number n p + node_number n q
node_steps n p q = omega arith

-- from a face across the axis a to the next one along the axis b
pub face_step : (n : Counts) (a b : AxisName) (p : Place) →
    face_number n a (ahead b 1 p) ≡ face_number n a p + face_stride n a b
face_step n X X p = omega arith
face_step n X Y p = omega arith
face_step n X Z p = omega arith
face_step n Y X p = omega arith
face_step n Y Y p = omega arith
face_step n Y Z p = omega arith
face_step n Z X p = omega arith
face_step n Z Y p = omega arith
face_step n Z Z p = omega arith

-- from an edge along the axis a to the next one along the axis b
pub edge_step : (n : Counts) (a b : AxisName) (p : Place) →
    edge_number n a (ahead b 1 p) ≡ edge_number n a p + edge_stride n a b
edge_step n X X p = omega arith
edge_step n X Y p = omega arith
edge_step n X Z p = omega arith
edge_step n Y X p = omega arith
edge_step n Y Y p = omega arith
edge_step n Y Z p = omega arith
edge_step n Z X p = omega arith
edge_step n Z Y p = omega arith
edge_step n Z Z p = omega arith
