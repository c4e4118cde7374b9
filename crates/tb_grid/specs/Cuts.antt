-- Where the cells, nodes, faces and edges of a grid are after a cut of an axis, by their numbers: each keeps its place but
-- for its index along the axis, and has the number of that place in the cut grid.
use Rattle.std.specs.Prelude.{ℕ}
use Rattle.tb_places.specs.declared.AxisName.{AxisName}
use Rattle.tb_places.specs.declared.AxisName.TheVariants.{X, Y, Z}
use Rattle.tb_places.specs.Cuts.{cut_counts, moved}
use Rattle.tb_places.specs.declared.Place.{Place}
use Rattle.tb_places.specs.Inverse.{cell_place, node_place, face_place, edge_place}
use Rattle.tb_places.specs.Places.{Counts, cell_number, node_number, face_number, edge_number}

-- the place that a place becomes where interval p of an axis is cut: of a cell in that interval, its first part
abbrev pub moved_place : AxisName → ℕ → Place → Place
moved_place X p q = record { i = moved p q.i; j = q.j; k = q.k }
moved_place Y p q = record { i = q.i; j = moved p q.j; k = q.k }
moved_place Z p q = record { i = q.i; j = q.j; k = moved p q.k }

-- the numbers that a cell, a node, a face and an edge have after the cut
abbrev pub moved_cell : AxisName → ℕ → Counts → ℕ → ℕ
moved_cell a p n c = let q = moved_place a p (cell_place n c) in cell_number (cut_counts a n) q

abbrev pub moved_node : AxisName → ℕ → Counts → ℕ → ℕ
moved_node a p n m = let q = moved_place a p (node_place n m) in node_number (cut_counts a n) q

abbrev pub moved_face : AxisName → ℕ → Counts → ℕ → ℕ
moved_face a p n f = let t = face_place n f in let q = moved_place a p t.place in face_number (cut_counts a n) t.axis q

abbrev pub moved_edge : AxisName → ℕ → Counts → AxisName → ℕ → ℕ
moved_edge a p n b e = let q = moved_place a p (edge_place n b e) in edge_number (cut_counts a n) b q
