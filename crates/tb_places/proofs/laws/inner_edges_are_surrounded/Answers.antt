use Rattle.tb_places.proofs.Meeting.{cell_round_edge, second_face_round_edge, third_face_round_edge}
use Rattle.tb_places.proofs.laws.inner_edges_are_surrounded.Goals as goal

pub returns : goal.returns
returns c = record {
  cells = cell_round_edge;
  second_faces = second_face_round_edge;
  third_faces = third_face_round_edge;
}
