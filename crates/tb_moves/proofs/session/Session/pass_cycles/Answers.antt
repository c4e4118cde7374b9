use Rattle.std.proofs.Common.{subst}
use Rattle.tb_cycle_moves.specs.Turns.{AreCycleTurns}
use Rattle.tb_moves.specs.Sessions.{Session, inside_of, mesh_of}
use Rattle.tb_moves.proofs.Kept.{cycles_kept}
use Rattle.tb_moves.proofs.session.Session.pass_cycles.Goals as goal

pub invariant_of-self : goal.invariant_of-self
invariant_of-self c =
    let s : Session = record { body = c.self.inside.setting.body; grid = c.self.inside.setting.grid; case = c.self.inside.setting.case; field = c.self.inside.field; flux = c.self.inside.flux } in
    cycles_kept s c.self.inside.upper c.self.inside.lower c.self.invariant c.move_cycles-changed.new.flux c.move_cycles-changed.result c.unless-self-inside.result c.move_cycles-changed.ensures.moved c.unless-self-inside.ensures.changed c.unless-self-inside.ensures.same

pub returns-clause-moved : goal.returns-clause-moved
returns-clause-moved c = subst (λ (t : Session). AreCycleTurns (mesh_of t) (inside_of t) t.flux c.move_cycles-changed.new.flux c.move_cycles-changed.result) c.self.view_is c.move_cycles-changed.ensures.moved
