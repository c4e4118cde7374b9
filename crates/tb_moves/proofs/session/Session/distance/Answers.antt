use Rattle.std.proofs.Common.{subst}
use Rattle.tb_outlets.specs.Trees.{IsDistanceAt}
use Rattle.tb_trees.specs.Bodies.{BodyOnGrid, mesh_of}
use Rattle.tb_moves.proofs.session.Session.distance.Goals as goal

pub returns : goal.returns
returns c = subst (λ (b : BodyOnGrid). IsDistanceAt (mesh_of b) c.args.cell.0 c.distance.result) c.tree.ensures c.distance.ensures
