use Rattle.tb_grid.proofs.MovedNumbers.{edge_within, edge_placed, edge_apart, edge_all}
use Rattle.tb_grid.proofs.cuts.edges_move_at_a_cut.Goals as goal

pub returns : goal.returns
returns c = record {
  within = edge_within;
  place = edge_placed;
  apart = edge_apart;
  all = edge_all;
}
