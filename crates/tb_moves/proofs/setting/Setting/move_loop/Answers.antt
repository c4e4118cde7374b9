use Rattle.std.proofs.Common.{subst, sym, ◌∙◌, List}
use lib.IntN.{ℤ}
use Rattle.tb_places.specs.declared.Place.{Place}
use Rattle.tb_places.specs.Inverse.{edge_place}
use Rattle.tb_weighted.specs.Moves.{IsLoopMove}
use Rattle.tb_moves.specs.Settings.{case_in, mesh_in}
use Rattle.tb_moves.proofs.WrittenOver.{written}
use Rattle.tb_moves.proofs.setting.Setting.move_loop.Goals as goal

pub returns-clause-moved : goal.returns-clause-moved
returns-clause-moved c =
    let m = mesh_in c.args.self.now in
    subst (λ (v : List ℤ). IsLoopMove m (case_in c.args.self.now) c.args.edge.0 (edge_place m.cells c.args.edge.0 c.args.edge.1) c.args.flux.now v)
    (written c.args.flux.now c.relax_loop.new.flows (c.relax_loop.ensures.kept.faces ∙ sym c.requires.flux.faces))
    (subst (λ (p : Place). IsLoopMove m (case_in c.args.self.now) c.args.edge.0 p c.args.flux.now c.relax_loop.new.flows) c.edge_place-place.ensures
    (subst (λ (v : List ℤ). IsLoopMove m (case_in c.args.self.now) c.args.edge.0 c.edge_place-place.result v c.relax_loop.new.flows) c.values_mut.ensures.value c.relax_loop.ensures.moved))
