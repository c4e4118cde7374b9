use Rattle.std.proofs.Common.{subst}
use Rattle.std.specs.Prelude.{MatchOption}
use Rattle.tb_outlets.specs.Outlets.{IsSolidAt}
use Rattle.tb_outlets.specs.Trees.{IsOutletNumber}
use Rattle.tb_trees.specs.Bodies.{BodyOnGrid, mesh_of}
use Rattle.tb_moves.proofs.session.Session.outlet.Goals as goal

pub returns : goal.returns
returns c = subst (λ (b : BodyOnGrid). MatchOption c.outlet.result (¬ IsSolidAt (mesh_of b) c.args.cell.0) (λ face. IsOutletNumber (mesh_of b) c.args.cell.0 face.0)) c.tree.ensures c.outlet.ensures
