use Rattle.tb_places.proofs.Nodes.{node_number_below, node_number_apart, node_place_of_number, node_number_of_place, node_place_within}
use Rattle.tb_places.proofs.laws.nodes_are_numbered.Goals as goal

pub returns : goal.returns
returns c = record {
  below = node_number_below;
  apart = node_number_apart;
  place_of_number = node_place_of_number;
  number_of_place = node_number_of_place;
  within = node_place_within;
}
