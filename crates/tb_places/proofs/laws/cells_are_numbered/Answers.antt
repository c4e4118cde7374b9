use Rattle.tb_places.proofs.Cells.{cell_number_below, cell_number_apart, cell_place_of_number, cell_number_of_place, cell_place_within}
use Rattle.tb_places.proofs.laws.cells_are_numbered.Goals as goal

pub returns : goal.returns
returns c = record {
  below = cell_number_below;
  apart = cell_number_apart;
  place_of_number = cell_place_of_number;
  number_of_place = cell_number_of_place;
  within = cell_place_within;
}
