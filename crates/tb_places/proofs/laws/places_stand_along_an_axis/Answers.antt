use Rattle.tb_places.proofs.Meeting.{at_place_along, index_on_line, second_on_line, third_on_line, on_its_line, ahead_on_line, cell_along, node_along, face_along, edge_along, second_face_along, third_face_along}
use Rattle.tb_places.proofs.laws.places_stand_along_an_axis.Goals as goal

pub returns : goal.returns
returns c = record {
  numbers = at_place_along;
  index = index_on_line;
  second_index = second_on_line;
  third_index = third_on_line;
  every = on_its_line;
  further = ahead_on_line;
  cells = cell_along;
  nodes = node_along;
  faces = face_along;
  edges = edge_along;
  second_faces = second_face_along;
  third_faces = third_face_along;
}
