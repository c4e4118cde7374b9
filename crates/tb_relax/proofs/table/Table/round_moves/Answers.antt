use Rattle.std.proofs.Common.{◌≡◌, arith, subst}
use Rattle.std.proofs.lemmas.Int.{ints}
use lib.IntN.{ℤ, pos}
use mir.Syntax.{w64}
use mir.Val.{of_z}
use Rattle.tb_weighted.specs.FlowMoves.{IsFlowMoveBy}
use Rattle.tb_weighted.proofs.FlowMoves.{none_added, none_moved}
use Rattle.tb_relax.specs.Tables.{flux_forms}
use Rattle.tb_relax.specs.Rounds.{round_change}
use Rattle.tb_relax.proofs.Rounds.{written, written_move}
use Rattle.tb_relax.proofs.Staying.{is_zero, not_zero}
use Rattle.tb_relax.proofs.table.Table.round_moves.Goals as goal

pub returns-clause-moves : goal.returns-clause-moves
unfolding flux_forms
returns-clause-moves c = λ d.
    let s = c.multiple-step.ensures.size in
    let m = written_move c.args.self.now c.args.flows.now c.args.round c.parts-parts.result c.requires.flux c.requires.round c.parts-parts.ensures c.multiple-step.result c.multiple-step.ensures.least in
    record {
      new = written c.args.self.now c.args.flows.now c.args.round c.parts-parts.result c.requires.flux c.requires.round c.parts-parts.ensures c.multiple-step.result;
      move = record { multiple = c.multiple-step.result; move = m };
      differs = λ e. let z = none_added (flux_forms c.args.self.now) (round_change c.args.self.now c.args.round) c.multiple-step.result c.args.flows.now _ m c.requires.flux e in not_zero (of_z w64 c.multiple-step.result) d (omega (arith, ints));
    }

pub returns-clause-stays : goal.returns-clause-stays
returns-clause-stays c = λ d.
    let s = c.multiple-step.ensures.size in
    let z = is_zero (of_z w64 c.multiple-step.result) d in
    let none : c.multiple-step.result ≡ pos 0 = omega (arith, ints) in
    subst (λ (t : ℤ). IsFlowMoveBy (flux_forms c.args.self.now) (round_change c.args.self.now c.args.round) t c.args.flows.now c.args.flows.now) none
    (none_moved (flux_forms c.args.self.now) (round_change c.args.self.now c.args.round) c.multiple-step.result c.args.flows.now _
    (written_move c.args.self.now c.args.flows.now c.args.round c.parts-parts.result c.requires.flux c.requires.round c.parts-parts.ensures c.multiple-step.result c.multiple-step.ensures.least) none)
