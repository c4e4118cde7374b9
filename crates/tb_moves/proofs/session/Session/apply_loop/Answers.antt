use Rattle.std.proofs.Common.{subst, sym}
use Rattle.tb_places.specs.Inverse.{edge_place}
use Rattle.tb_weighted.specs.Moves.{IsInnerEdge, IsLoopMove}
use Rattle.tb_moves.specs.Sessions.{Session, inside_of, mesh_of}
use Rattle.tb_moves.proofs.Kept.{loop_kept}
use Rattle.tb_moves.proofs.session.Session.apply_loop.Goals as goal

pub invariant_of-self : goal.invariant_of-self
invariant_of-self c =
    let s : Session = record { body = c.self.inside.setting.body; grid = c.self.inside.setting.grid; case = c.self.inside.setting.case; field = c.self.inside.field; flux = c.self.inside.flux } in
    loop_kept s c.self.inside.upper c.self.inside.lower c.self.invariant c.args.edge.0 (edge_place (mesh_of s).cells c.args.edge.0 c.args.edge.1) c.move_loop-changed.new.flux c.move_loop-changed.result c.unless-self-inside.result
    (subst (λ (t : Session). IsInnerEdge (mesh_of t).cells c.args.edge.0 (edge_place (mesh_of t).cells c.args.edge.0 c.args.edge.1)) (sym c.self.view_is) c.requires.inner) c.move_loop-changed.ensures.moved c.move_loop-changed.ensures.told c.unless-self-inside.ensures.changed c.unless-self-inside.ensures.same

pub returns-clause-moved : goal.returns-clause-moved
returns-clause-moved c = subst (λ (t : Session). IsLoopMove (mesh_of t) (inside_of t) c.args.edge.0 (edge_place (mesh_of t).cells c.args.edge.0 c.args.edge.1) t.flux c.move_loop-changed.new.flux) c.self.view_is c.move_loop-changed.ensures.moved
