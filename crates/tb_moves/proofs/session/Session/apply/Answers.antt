use Rattle.tb_costs.proofs.Filling.{body_fills}
use Rattle.tb_moves.specs.Sessions.{inside_of, mesh_of, state_of}
use Rattle.tb_moves.proofs.Applying.{state_told}
use Rattle.tb_moves.proofs.Leaving.{move_leaves}
use Rattle.tb_moves.proofs.session.Session.apply.Goals as goal

pub returns-clause-leaves : goal.returns-clause-leaves
returns-clause-leaves c =
    let s = c.args.self.now in
    move_leaves (mesh_of s) (inside_of s) (body_fills s.body s.grid c.keeps_state.ensures.accepted c.keeps_state.ensures.carries) c.args.wanted (state_of s) (state_of c.make.new.self) c.make.result c.requires
    c.make.ensures.moved (state_told s c.make.new.self c.make.result c.make.ensures.alike c.make.ensures.told) c.keeps_state.ensures.state
