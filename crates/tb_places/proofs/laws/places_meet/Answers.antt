use Rattle.tb_places.proofs.Meeting.{low_face_of_cell, high_face_of_cell, cell_above_face, cell_below_face, corner_of_cell, edge_of_cell, end_of_edge}
use Rattle.tb_places.proofs.laws.places_meet.Goals as goal

pub returns : goal.returns
returns c = record {
  low_face = low_face_of_cell;
  high_face = high_face_of_cell;
  cell_above = cell_above_face;
  cell_below = cell_below_face;
  corners = corner_of_cell;
  edges = edge_of_cell;
  ends = end_of_edge;
}
