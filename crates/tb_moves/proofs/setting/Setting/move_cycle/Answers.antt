use Rattle.std.proofs.Common.{subst, sym, ◌∙◌, List}
use lib.IntN.{ℤ}
use Rattle.tb_cycles.specs.Moves.{IsCycleMove}
use Rattle.tb_moves.specs.Settings.{case_in, mesh_in}
use Rattle.tb_moves.proofs.OnTrees.{moved_in_turn}
use Rattle.tb_moves.proofs.WrittenOver.{written}
use Rattle.tb_moves.proofs.setting.Setting.move_cycle.Goals as goal

pub returns-clause-moved : goal.returns-clause-moved
returns-clause-moved c =
    let m = mesh_in c.args.self.now in
    subst (λ (u : List ℤ). IsCycleMove m (case_in c.args.self.now) c.args.face.0 c.args.flux.now u)
    (written c.args.flux.now c.turn_cycle.new.flows (c.turn_cycle.ensures.kept.faces ∙ sym c.requires.flux.faces))
    (subst (λ (u : List ℤ). IsCycleMove m (case_in c.args.self.now) c.args.face.0 u c.turn_cycle.new.flows) c.values_mut.ensures.value
    (moved_in_turn m (case_in c.args.self.now) c.args.face.0 c.values_mut.result.now c.turn_cycle.new.flows c.requires.cycle c.turn_cycle.ensures.moved))
