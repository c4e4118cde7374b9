use Rattle.std.proofs.Common.{◌≢◌, ◌↔◌, IsTrue, subst, sym}
use Rattle.tb_cycles.specs.Entries.{HasCycle}
use Rattle.tb_cycles.specs.Moves.{IsCycleMove}
use Rattle.tb_moves.specs.Sessions.{Session, inside_of, mesh_of}
use Rattle.tb_moves.proofs.Kept.{cycle_kept}
use Rattle.tb_moves.proofs.session.Session.apply_cycle.Goals as goal

pub move_cycle-changed-requires-clause-cycle : goal.move_cycle-changed-requires-clause-cycle
move_cycle-changed-requires-clause-cycle c = subst (λ (t : Session). HasCycle (mesh_of t) c.args.face.0) (sym c.self.view_is) c.requires.cycle

pub invariant_of-self : goal.invariant_of-self
invariant_of-self c =
    let s : Session = record { body = c.self.inside.setting.body; grid = c.self.inside.setting.grid; case = c.self.inside.setting.case; field = c.self.inside.field; flux = c.self.inside.flux } in
    cycle_kept s c.self.inside.upper c.self.inside.lower c.self.invariant c.args.face.0 c.move_cycle-changed.new.flux c.move_cycle-changed.result c.unless-self-inside.result
    c.move_cycle-changed.ensures.moved c.move_cycle-changed.ensures.told c.unless-self-inside.ensures.changed c.unless-self-inside.ensures.same

pub returns-clause-moved : goal.returns-clause-moved
returns-clause-moved c = subst (λ (t : Session). IsCycleMove (mesh_of t) (inside_of t) c.args.face.0 t.flux c.move_cycle-changed.new.flux) c.self.view_is c.move_cycle-changed.ensures.moved

pub returns-clause-told : goal.returns-clause-told
returns-clause-told c = subst (λ (t : Session). IsTrue c.move_cycle-changed.result ↔ (c.move_cycle-changed.new.flux ≢ t.flux)) c.self.view_is c.move_cycle-changed.ensures.told
