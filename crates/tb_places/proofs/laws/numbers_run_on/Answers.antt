use Rattle.tb_places.proofs.Runs.{cell_rows, cell_layers, cell_end, node_rows, node_layers, node_end, z_face_rows, x_face_rows, y_face_rows, z_faces_end, x_faces_end, y_faces_end, face_end, x_edge_rows, y_edge_rows, z_edge_rows, x_edge_layers, y_edge_layers, z_edge_layers, x_edge_end, y_edge_end, z_edge_end}
use Rattle.tb_places.proofs.laws.numbers_run_on.Goals as goal

pub returns : goal.returns
returns c = record {
  cell_rows = cell_rows;
  cell_layers = cell_layers;
  cell_end = cell_end;
  node_rows = node_rows;
  node_layers = node_layers;
  node_end = node_end;
  z_face_rows = z_face_rows;
  x_face_rows = x_face_rows;
  y_face_rows = y_face_rows;
  z_faces_end = z_faces_end;
  x_faces_end = x_faces_end;
  y_faces_end = y_faces_end;
  face_end = face_end;
  x_edge_rows = x_edge_rows;
  y_edge_rows = y_edge_rows;
  z_edge_rows = z_edge_rows;
  x_edge_layers = x_edge_layers;
  y_edge_layers = y_edge_layers;
  z_edge_layers = z_edge_layers;
  x_edge_end = x_edge_end;
  y_edge_end = y_edge_end;
  z_edge_end = z_edge_end;
}
