use Rattle.tb_grid.proofs.MovedNumbers.{face_within, face_placed, face_apart, face_all}
use Rattle.tb_grid.proofs.cuts.faces_move_at_a_cut.Goals as goal

pub returns : goal.returns
returns c = record {
  within = face_within;
  place = face_placed;
  apart = face_apart;
  all = face_all;
}
