use Rattle.std.proofs.Common.{◌↔◌, IsTrue, false, subst}
use Rattle.tb_moves.specs.Moves.{IsSettled}
use Rattle.tb_moves.specs.Sessions.{Session, inside_of, mesh_of, state_of}
use Rattle.tb_moves.proofs.Settling.{both_settle, neither_settles}
use Rattle.tb_moves.proofs.session.Session.settled.Goals as goal

pub returns-then-not-is_settled : goal.returns-then-not-is_settled
returns-then-not-is_settled c =
    let s : Session = record { body = c.self.inside.setting.body; grid = c.self.inside.setting.grid; case = c.self.inside.setting.case; field = c.self.inside.field; flux = c.self.inside.flux } in
    subst (λ (t : Session). IsTrue false ↔ IsSettled (mesh_of t) (inside_of t) (state_of t)) c.self.view_is
    (neither_settles (mesh_of s) (inside_of s) (state_of s) c.values.result.now c.values-2.result.now c.values.ensures c.values-2.ensures c.is_settled.result c.is_settled.ensures c.if-not-is_settled.true)

pub returns : goal.returns
returns c =
    let s : Session = record { body = c.self.inside.setting.body; grid = c.self.inside.setting.grid; case = c.self.inside.setting.case; field = c.self.inside.field; flux = c.self.inside.flux } in
    subst (λ (t : Session). IsTrue c.cycles_stay.result ↔ IsSettled (mesh_of t) (inside_of t) (state_of t)) c.self.view_is
    (both_settle (mesh_of s) (inside_of s) (state_of s) c.values.result.now c.values-2.result.now c.values.ensures c.values-2.ensures c.is_settled.result c.is_settled.ensures c.values-3.result.now c.cycles_stay.result c.values-3.ensures c.cycles_stay.ensures c.if-not-is_settled.false)
