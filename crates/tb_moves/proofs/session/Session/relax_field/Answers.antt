use Rattle.std.proofs.Common.{subst}
use Rattle.tb_moves.specs.Moves.{IsRelaxedField}
use Rattle.tb_moves.specs.Sessions.{Session, inside_of, mesh_of}
use Rattle.tb_moves.proofs.session.Session.relax_field.Goals as goal

pub returns-clause-relaxed : goal.returns-clause-relaxed
returns-clause-relaxed c = subst (λ (t : Session). IsRelaxedField (mesh_of t) (inside_of t) c.args.candidate.now c.move_nodes.new.field) c.self.view_is (record { told = c.move_nodes.result; moves = c.move_nodes.ensures.moved })
