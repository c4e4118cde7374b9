use Rattle.tb_cuts.proofs.MoreLines.{mesh_cut_there}
use Rattle.tb_cuts.proofs.more_lines_cut_the_mesh.Goals as goal

pub returns : goal.returns
returns c = mesh_cut_there
