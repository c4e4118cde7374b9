use Rattle.tb_geometry.proofs.Volumes.{at_most, cover_of_volumes, volumes_of_cover}
use Rattle.tb_geometry.proofs.laws.volumes_tell_covers.Goals as goal

pub returns : goal.returns
returns c = record {
  at_most = at_most;
  exactly = λ boxes lo hi hull apart. (volumes_of_cover boxes lo hi hull apart, cover_of_volumes boxes lo hi hull apart);
}
