use Rattle.tb_places.specs.Inverse.{cell_place}
use Rattle.tb_grid.specs.Direction.{edge_of}
use Rattle.tb_places.proofs.Cells.{cell_place_within}
use Rattle.tb_places.proofs.Nodes.{node_number_below}
use Rattle.tb_places.proofs.Steps.{node_step}
use Rattle.tb_grid.proofs.Corners.{corner_is_edge, corner_of_cell, corners_apart, edge_ends, edge_has_corner, edge_starts}
use Rattle.tb_grid.proofs.laws.corners_are_the_edges_of_a_cell.Goals as goal

pub returns : goal.returns
returns c = record {
  edges = λ n a cell corner below four. corner_is_edge n a (cell_place n cell) corner (cell_place_within n cell below) four;
  of_the_cell = λ n a cell corner four. corner_of_cell a (cell_place n cell) corner four;
  all = λ n a cell edge is. edge_has_corner a (cell_place n cell) edge is;
  apart = λ n a cell corner other same. corners_apart a (cell_place n cell) corner other same;
  low_end = λ n a cell corner below four.
      node_number_below n _ (edge_starts n a _ (corner_is_edge n a _ corner (cell_place_within n cell below) four));
  high_end = λ n a cell corner below four.
      node_number_below n _ (edge_ends n a _ (corner_is_edge n a _ corner (cell_place_within n cell below) four));
  rising = λ n a cell corner. node_step n a (edge_of n a cell corner);
}
