use Rattle.tb_places.proofs.Steps.{cell_step, node_step, face_step, edge_step, cell_steps, node_steps}
use Rattle.tb_places.proofs.laws.numbers_step_along_an_axis.Goals as goal

pub returns : goal.returns
returns c = record {
  cells = cell_step;
  nodes = node_step;
  faces = face_step;
  edges = edge_step;
  cells_at_once = cell_steps;
  nodes_at_once = node_steps;
}
