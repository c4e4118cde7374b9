-- The numbers of a grid of at most 262,144 cells are small.
use Rattle.std.proofs.Common.{ℕ, ◌<◌, ◌≤◌, arith}
use Rattle.tb_places.specs.declared.AxisName.{AxisName}
use Rattle.tb_places.specs.declared.AxisName.TheVariants.{X, Y, Z}
use Rattle.tb_places.specs.Places.{Counts, cell_count, face_count}
use Rattle.tb_places.specs.declared.Place.{Place}
use Rattle.tb_places.specs.Places.{IsCell, by_axis, IsNode, IsFace, IsEdge, node_number, face_number, edge_number}
use Rattle.tb_places.proofs.Bounds.{face_count_below, node_number_few, face_number_few, edge_number_few, length_below}
use Rattle.tb_places.specs.Along.{index_along}
use Rattle.tb_places.proofs.Meeting.{index_within}
use Rattle.tb_grid.specs.declared.counts.CellCounts.{CellCounts}
use Rattle.tb_grid.specs.Views.{along_axes}

-- a grid of so many cells along x, y and z, with a cell along each axis and not too many together
pub record IsSmall (n : Counts) : Type 0 where
  pub some : (a : AxisName) → 0 < n a
  pub few : cell_count n ≤ 262144

some_along : {x y z : ℕ} → (0 < x) × (0 < y) × (0 < z) → (a : AxisName) → 0 < by_axis x y z a
some_along some X = some.0
some_along some Y = some.1
some_along some Z = some.2

pub small : (c : CellCounts) → IsSmall (along_axes c)
small c = record { some = some_along c.some; few = c.few }

pub few_along : (n : Counts) (a : AxisName) → IsSmall n → n a ≤ 262144
few_along n a s = let below = length_below n a s.some in let few = s.few in omega arith

pub few_faces : (n : Counts) → IsSmall n → face_count n ≤ 1572864
few_faces n s = let below = face_count_below n s.some in let few = s.few in omega arith

pub small_node : (n : Counts) (p : Place) → IsSmall n → IsNode n p → node_number n p < 2097152
small_node n p s node = let below = node_number_few n p s.some node in let few = s.few in omega arith

pub small_face : (n : Counts) (a : AxisName) (p : Place) → IsSmall n → IsFace n a p → face_number n a p < 1572864
small_face n a p s face = let below = face_number_few n a p s.some face in let few = s.few in omega arith

pub small_edge : (n : Counts) (a : AxisName) (p : Place) → IsSmall n → IsEdge n a p → edge_number n a p < 1048576
small_edge n a p s edge = let below = edge_number_few n a p s.some edge in let few = s.few in omega arith

pub small_index : (n : Counts) (a : AxisName) (p : Place) → IsSmall n → IsCell n p → index_along a p < 262144
small_index n a p s cell = let within = index_within n a p cell in let few = few_along n a s in omega arith
