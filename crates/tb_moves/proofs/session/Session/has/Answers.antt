use Rattle.std.proofs.Common.{◌↔◌, IsTrue, subst}
use Rattle.tb_moves.specs.declared.moves.Move.TheVariants.{Cycle}
use Rattle.tb_moves.specs.Moves.{HasMove}
use Rattle.tb_moves.specs.Sessions.{Session, mesh_of}
use Rattle.tb_moves.proofs.session.Session.has.Goals as goal

pub returns-in-Cycle : goal.returns-in-Cycle
returns-in-Cycle c = rw c.in-Cycle.is (subst (λ (t : Session). IsTrue c.has_cycle.result ↔ HasMove (mesh_of t) (Cycle c.in-Cycle.face)) c.self.view_is c.has_cycle.ensures)
