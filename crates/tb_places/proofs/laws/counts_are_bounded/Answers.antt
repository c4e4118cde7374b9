use Rattle.tb_places.proofs.Bounds.{length_below, node_count_below, face_count_below, edge_count_below, layer_below}
use Rattle.tb_places.proofs.laws.counts_are_bounded.Goals as goal

pub returns : goal.returns
returns c = record {
  lengths = length_below;
  nodes = node_count_below;
  faces = face_count_below;
  edges = edge_count_below;
  layers = layer_below;
}
