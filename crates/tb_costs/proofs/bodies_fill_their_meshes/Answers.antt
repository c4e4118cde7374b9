use Rattle.tb_costs.proofs.Filling.{body_fills}
use Rattle.tb_costs.proofs.bodies_fill_their_meshes.Goals as goal

pub returns : goal.returns
returns c = body_fills
