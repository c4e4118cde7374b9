use Rattle.std.proofs.Common.{◌<◌, subst, sym}
use Rattle.tb_places.specs.Places.{node_count}
use Rattle.tb_weighted.specs.Moves.{IsNodeMove}
use Rattle.tb_moves.specs.Sessions.{Session, inside_of, mesh_of}
use Rattle.tb_moves.proofs.Kept.{node_kept}
use Rattle.tb_moves.proofs.session.Session.apply_node.Goals as goal

pub invariant_of-self : goal.invariant_of-self
invariant_of-self c =
    let s : Session = record { body = c.self.inside.setting.body; grid = c.self.inside.setting.grid; case = c.self.inside.setting.case; field = c.self.inside.field; flux = c.self.inside.flux } in
    node_kept s c.self.inside.upper c.self.inside.lower c.self.invariant c.args.node.0 c.move_node-changed.new.field c.move_node-changed.result c.unless-self-inside.result
    (subst (λ (t : Session). c.args.node.0 < node_count (mesh_of t).cells) (sym c.self.view_is) c.requires) c.move_node-changed.ensures.moved c.move_node-changed.ensures.told c.unless-self-inside.ensures.changed c.unless-self-inside.ensures.same

pub returns-clause-moved : goal.returns-clause-moved
returns-clause-moved c = subst (λ (t : Session). IsNodeMove (mesh_of t) (inside_of t) c.args.node.0 t.field c.move_node-changed.new.field) c.self.view_is c.move_node-changed.ensures.moved
