use Rattle.tb_grid.proofs.MovedNumbers.{low_moved, high_along, high_across, second_high, between_parts}
use Rattle.tb_grid.proofs.cuts.faces_move_with_their_cells.Goals as goal

pub returns : goal.returns
returns c = record {
  low_face = low_moved;
  high_face_along = high_along;
  high_face_across = high_across;
  second_part = second_high;
  between = between_parts;
}
