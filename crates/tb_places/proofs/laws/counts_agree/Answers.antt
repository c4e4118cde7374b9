use Rattle.tb_places.proofs.Bounds.{face_count_by_axis, euler}
use Rattle.tb_places.proofs.laws.counts_agree.Goals as goal

pub returns : goal.returns
returns c = record {
  faces = face_count_by_axis;
  euler = euler;
}
