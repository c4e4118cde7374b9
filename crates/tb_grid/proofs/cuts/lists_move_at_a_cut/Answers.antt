use Rattle.tb_grid.proofs.MovedPlaces.{list_moved, list_second}
use Rattle.tb_grid.proofs.cuts.lists_move_at_a_cut.Goals as goal

pub returns : goal.returns
returns c = record {
  moved = list_moved;
  second = list_second;
}
