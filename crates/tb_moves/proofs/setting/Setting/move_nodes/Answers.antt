use Rattle.std.proofs.Common.{subst, sym, ◌∙◌, List}
use lib.IntN.{ℤ}
use Rattle.tb_places.specs.declared.Place.{Place}
use Rattle.tb_places.specs.Places.{node_number}
use Rattle.tb_weighted.specs.Moves.{IsNodeMove, nodes}
use Rattle.tb_weighted.specs.Sequences.{AreMade}
use Rattle.tb_moves.specs.Settings.{case_in, mesh_in}
use Rattle.tb_moves.proofs.WrittenOver.{written}
use Rattle.tb_moves.proofs.setting.Setting.move_nodes.Goals as goal

pub returns-clause-moved : goal.returns-clause-moved
returns-clause-moved c =
    let m = mesh_in c.args.self.now in
    subst (λ (v : List ℤ). AreMade (List ℤ) Place (λ p. IsNodeMove m (case_in c.args.self.now) (node_number m.cells p)) (nodes m.cells) c.args.field.now v c.relax_nodes.result)
    (written c.args.field.now c.relax_nodes.new.values (c.relax_nodes.ensures.kept.nodes ∙ sym c.requires.nodes))
    (subst (λ (u : List ℤ). AreMade (List ℤ) Place (λ p. IsNodeMove m (case_in c.args.self.now) (node_number m.cells p)) (nodes m.cells) u c.relax_nodes.new.values c.relax_nodes.result) c.values_mut.ensures.value c.relax_nodes.ensures.moved)
