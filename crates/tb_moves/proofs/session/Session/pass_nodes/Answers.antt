use Rattle.std.proofs.Common.{subst, List}
use lib.IntN.{ℤ}
use Rattle.tb_places.specs.declared.Place.{Place}
use Rattle.tb_places.specs.Places.{node_number}
use Rattle.tb_weighted.specs.Moves.{IsNodeMove, nodes}
use Rattle.tb_weighted.specs.Sequences.{AreMade}
use Rattle.tb_moves.specs.Sessions.{Session, inside_of, mesh_of}
use Rattle.tb_moves.proofs.Kept.{nodes_kept}
use Rattle.tb_moves.proofs.session.Session.pass_nodes.Goals as goal

pub invariant_of-self : goal.invariant_of-self
invariant_of-self c =
    let s : Session = record { body = c.self.inside.setting.body; grid = c.self.inside.setting.grid; case = c.self.inside.setting.case; field = c.self.inside.field; flux = c.self.inside.flux } in
    nodes_kept s c.self.inside.upper c.self.inside.lower c.self.invariant c.move_nodes-changed.new.field c.move_nodes-changed.result c.unless-self-inside.result c.move_nodes-changed.ensures.moved c.unless-self-inside.ensures.changed c.unless-self-inside.ensures.same

pub returns-clause-moved : goal.returns-clause-moved
returns-clause-moved c = subst (λ (t : Session). AreMade (List ℤ) Place (λ p. IsNodeMove (mesh_of t) (inside_of t) (node_number (mesh_of t).cells p)) (nodes (mesh_of t).cells) t.field c.move_nodes-changed.new.field c.move_nodes-changed.result) c.self.view_is c.move_nodes-changed.ensures.moved
