use Rattle.tb_grid.proofs.MovedNumbers.{node_within, node_placed, node_apart, node_all}
use Rattle.tb_grid.proofs.cuts.nodes_move_at_a_cut.Goals as goal

pub returns : goal.returns
returns c = record {
  within = node_within;
  place = node_placed;
  apart = node_apart;
  all = node_all;
}
