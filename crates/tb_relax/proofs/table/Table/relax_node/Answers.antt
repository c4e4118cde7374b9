use Rattle.std.proofs.Common.{◌≡◌, ◌∙◌, arith, get_or}
use Rattle.std.proofs.lemmas.Int.{ints}
use lib.IntN.{pos}
use mir.Syntax.{w64, w128}
use mir.Val.{to_z, of_z}
use Rattle.tb_weighted.specs.Limits.{InField}
use Rattle.tb_relax.specs.Tables.{field_forms, table_counts}
use Rattle.tb_weighted.proofs.NodeMoves.{moved_by, told_at, kept}
use Rattle.tb_relax.proofs.table.Table.relax_node.Goals as goal

pub overflow_add-values : goal.overflow_add-values
overflow_add-values c =
    let a = c.nearest_step-step.ensures.above in
    let b = c.nearest_step-step.ensures.below in
    let h : InField (get_or c.args.values.now c.node_number-at.result.0 (pos 0)) = c.requires.field.within c.node_number-at.result.0 _ (omega (arith, c.requires.field.nodes)) in
    omega (arith, ints)

pub returns-clause-moved : goal.returns-clause-moved
unfolding field_forms
returns-clause-moved c =
    let a = c.nearest_step-step.ensures.above in
    let b = c.nearest_step-step.ensures.below in
    let h : InField (get_or c.args.values.now c.node_number-at.result.0 (pos 0)) = c.requires.field.within c.node_number-at.result.0 _ (omega (arith, c.requires.field.nodes)) in
    let r : to_z w128 (of_z w128 c.node_pull-pull.result.rate) ≡ c.node_pull-pull.result.rate = omega (arith, ints, c.node_pull-pull.ensures.rate_small) in
    let s : to_z w128 (of_z w128 c.node_pull-pull.result.slope) ≡ c.node_pull-pull.result.slope = omega (arith, ints, c.node_pull-pull.ensures.slope_small) in
    moved_by (field_forms c.args.self.now) c.args.values.now c.args.node.i c.args.node.j c.args.node.k c.node_number-at.result.0 _ _ c.nearest_step-step.result _ _ _ c.node_number-at.ensures.number c.requires.field.nodes c.requires.node
    (r ∙ c.node_pull-pull.ensures.rate) (s ∙ c.node_pull-pull.ensures.slope) (omega (arith, ints)) (omega (arith, ints)) (omega (arith, ints)) c.nearest_step-step.ensures

pub returns-clause-told : goal.returns-clause-told
returns-clause-told c =
    let a = c.nearest_step-step.ensures.above in
    let b = c.nearest_step-step.ensures.below in
    let h : InField (get_or c.args.values.now c.node_number-at.result.0 (pos 0)) = c.requires.field.within c.node_number-at.result.0 _ (omega (arith, c.requires.field.nodes)) in
    told_at c.args.values.now c.node_number-at.result.0 (of_z w64 c.nearest_step-step.result) c.nearest_step-step.result _ (omega (arith, c.requires.field.nodes)) (omega (arith, ints)) (λ e. omega (arith, ints)) (λ e. omega (arith, ints))

pub returns-clause-kept : goal.returns-clause-kept
returns-clause-kept c =
    let a = c.nearest_step-step.ensures.above in
    let b = c.nearest_step-step.ensures.below in
    let h : InField (get_or c.args.values.now c.node_number-at.result.0 (pos 0)) = c.requires.field.within c.node_number-at.result.0 _ (omega (arith, c.requires.field.nodes)) in
    kept (table_counts c.args.self.now) c.args.values.now c.node_number-at.result.0 _ (omega (arith, c.requires.field.nodes)) c.requires.field (omega (arith, ints)) (omega (arith, ints))
