use Rattle.std.proofs.Common.{◌≡◌, sym, subst, ap, ◌∙◌, arith, refl, List}
use Rattle.std.proofs.lemmas.Int.{ints}
use lib.IntN.{ℤ}
use mir.Syntax.{w64}
use mir.Val.{to_z, of_z}
use Rattle.tb_weighted.specs.Limits.{IsFlux}
use Rattle.tb_weighted.specs.FlowMoves.{IsFlowMoveBy}
use Rattle.tb_weighted.proofs.FlowMoves.{flux_kept, none_added, none_moved}
use Rattle.tb_relax.specs.Tables.{flux_forms, table_counts}
use Rattle.tb_relax.specs.Rounds.{round_change}
use Rattle.tb_relax.proofs.Rounds.{written, written_move}
use Rattle.tb_relax.proofs.table.Table.relax_round.Goals as goal

pub returns-then-step-eq0-clause-moved : goal.returns-then-step-eq0-clause-moved
returns-then-step-eq0-clause-moved c = record {
  multiple = c.multiple-step.result;
  move = none_moved (flux_forms c.args.self.now) (round_change c.args.self.now c.args.round) c.multiple-step.result c.args.flows.now _
      (written_move c.args.self.now c.args.flows.now c.args.round c.parts-parts.result c.requires.flux c.requires.round c.parts-parts.ensures c.multiple-step.result c.multiple-step.ensures.least)
      (let e = c.if-step-eq0.true in let s = c.multiple-step.ensures.size in omega (arith, ints));
}

pub returns-clause-moved : goal.returns-clause-moved
returns-clause-moved c =
    let s = c.multiple-step.ensures.size in
    let step : to_z w64 (of_z w64 c.multiple-step.result) ≡ c.multiple-step.result = omega (arith, ints) in
    record {
      multiple = c.multiple-step.result;
      move = subst (λ (l : List ℤ). IsFlowMoveBy (flux_forms c.args.self.now) (round_change c.args.self.now c.args.round) c.multiple-step.result c.args.flows.now l)
          (sym (c.put_all.ensures ∙ ap (written c.args.self.now c.args.flows.now c.args.round c.parts-parts.result c.requires.flux c.requires.round c.parts-parts.ensures) step))
          (written_move c.args.self.now c.args.flows.now c.args.round c.parts-parts.result c.requires.flux c.requires.round c.parts-parts.ensures c.multiple-step.result c.multiple-step.ensures.least);
    }

pub returns-clause-told : goal.returns-clause-told
unfolding flux_forms
returns-clause-told c =
    let s = c.multiple-step.ensures.size in
    let step : to_z w64 (of_z w64 c.multiple-step.result) ≡ c.multiple-step.result = omega (arith, ints) in
    let same = c.put_all.ensures ∙ ap (written c.args.self.now c.args.flows.now c.args.round c.parts-parts.result c.requires.flux c.requires.round c.parts-parts.ensures) step in (
      (λ d e. c.if-step-eq0.false (
          let z = none_added (flux_forms c.args.self.now) (round_change c.args.self.now c.args.round) c.multiple-step.result c.args.flows.now _
          (written_move c.args.self.now c.args.flows.now c.args.round c.parts-parts.result c.requires.flux c.requires.round c.parts-parts.ensures c.multiple-step.result c.multiple-step.ensures.least) c.requires.flux (sym same ∙ e) in
          omega (arith, ints))),
      λ d. refl,
    )

pub returns-clause-kept : goal.returns-clause-kept
unfolding flux_forms
returns-clause-kept c =
    let s = c.multiple-step.ensures.size in
    let step : to_z w64 (of_z w64 c.multiple-step.result) ≡ c.multiple-step.result = omega (arith, ints) in
    subst (λ (l : List ℤ). IsFlux (table_counts c.args.self.now) l)
    (sym (c.put_all.ensures ∙ ap (written c.args.self.now c.args.flows.now c.args.round c.parts-parts.result c.requires.flux c.requires.round c.parts-parts.ensures) step))
    (flux_kept (flux_forms c.args.self.now) (round_change c.args.self.now c.args.round) c.multiple-step.result c.args.flows.now _
    (written_move c.args.self.now c.args.flows.now c.args.round c.parts-parts.result c.requires.flux c.requires.round c.parts-parts.ensures c.multiple-step.result c.multiple-step.ensures.least) c.requires.flux)
