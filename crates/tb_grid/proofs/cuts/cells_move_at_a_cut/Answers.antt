use Rattle.tb_grid.proofs.MovedNumbers.{cell_within, cell_placed, cell_apart, second_placed, cell_all}
use Rattle.tb_grid.proofs.cuts.cells_move_at_a_cut.Goals as goal

pub returns : goal.returns
returns c = record {
  within = cell_within;
  place = cell_placed;
  apart = cell_apart;
  second_part = second_placed;
  all = cell_all;
}
