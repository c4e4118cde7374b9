use Rattle.tb_places.proofs.Edges.{edge_number_below, edge_number_apart, edge_place_of_number, edge_number_of_place, edge_place_within}
use Rattle.tb_places.proofs.laws.edges_are_numbered.Goals as goal

pub returns : goal.returns
returns c = record {
  below = edge_number_below;
  apart = edge_number_apart;
  place_of_number = edge_place_of_number;
  number_of_place = edge_number_of_place;
  within = edge_place_within;
}
