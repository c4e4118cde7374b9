use Rattle.tb_places.specs.Inverse.{cell_place}
use Rattle.tb_places.proofs.Steps.{face_step}
use Rattle.tb_grid.proofs.Neighbours.{next_below, next_place, shared_face}
use Rattle.tb_grid.proofs.laws.next_cells_share_a_face.Goals as goal

pub returns : goal.returns
returns c = record {
  next_cell = next_below;
  next_place = next_place;
  shared = shared_face;
  stride = λ n a cell. face_step n a a (cell_place n cell);
}
