use Rattle.std.proofs.Common.{◌≡◌, ◌∙◌, subst, refl, arith, get_or, set, List}
use Rattle.std.proofs.lemmas.Int.{ints}
use lib.IntN.{ℤ, pos, ◌+ℤ◌}
use mir.Syntax.{w64, w128}
use mir.Val.{to_z, of_z}
use Rattle.tb_places.specs.Places.{node_number}
use Rattle.tb_weighted.specs.Forms.{IsFormMove}
use Rattle.tb_weighted.specs.Limits.{InField}
use Rattle.tb_weighted.specs.Moves.{value_at}
use Rattle.tb_weighted.proofs.NodeMoves.{leaves, moved_by, stays}
use Rattle.tb_relax.specs.Tables.{field_forms, table_counts}
use Rattle.tb_relax.proofs.Staying.{is_zero, not_zero}
use Rattle.tb_relax.proofs.table.Table.node_moves.Goals as goal

pub returns-clause-moves : goal.returns-clause-moves
unfolding field_forms
returns-clause-moves c = λ d.
    let a = c.nearest_step-step.ensures.above in
    let b = c.nearest_step-step.ensures.below in
    let h : InField (get_or c.args.values.now c.node_number-at.result.0 (pos 0)) = c.requires.field.within c.node_number-at.result.0 _ (omega (arith, c.requires.field.nodes)) in
    let r : to_z w128 (of_z w128 c.node_pull-pull.result.rate) ≡ c.node_pull-pull.result.rate = omega (arith, ints, c.node_pull-pull.ensures.rate_small) in
    let s : to_z w128 (of_z w128 c.node_pull-pull.result.slope) ≡ c.node_pull-pull.result.slope = omega (arith, ints, c.node_pull-pull.ensures.slope_small) in
    let x = value_at c.args.values.now c.node_number-at.result.0 +ℤ c.nearest_step-step.result in
    record {
      new = set c.args.values.now c.node_number-at.result.0 x;
      move = moved_by (field_forms c.args.self.now) c.args.values.now c.args.node.i c.args.node.j c.args.node.k c.node_number-at.result.0 _ _ c.nearest_step-step.result _ _ x c.node_number-at.ensures.number c.requires.field.nodes c.requires.node
          (r ∙ c.node_pull-pull.ensures.rate) (s ∙ c.node_pull-pull.ensures.slope) (omega (arith, ints)) (omega (arith, ints)) refl c.nearest_step-step.ensures;
      differs = λ e. let z = leaves c.args.values.now c.node_number-at.result.0 x (omega (arith, c.requires.field.nodes)) e in not_zero (of_z w64 c.nearest_step-step.result) d (omega (arith, ints));
    }

pub returns-clause-stays : goal.returns-clause-stays
unfolding field_forms
returns-clause-stays c = λ d.
    let a = c.nearest_step-step.ensures.above in
    let b = c.nearest_step-step.ensures.below in
    let h : InField (get_or c.args.values.now c.node_number-at.result.0 (pos 0)) = c.requires.field.within c.node_number-at.result.0 _ (omega (arith, c.requires.field.nodes)) in
    let r : to_z w128 (of_z w128 c.node_pull-pull.result.rate) ≡ c.node_pull-pull.result.rate = omega (arith, ints, c.node_pull-pull.ensures.rate_small) in
    let s : to_z w128 (of_z w128 c.node_pull-pull.result.slope) ≡ c.node_pull-pull.result.slope = omega (arith, ints, c.node_pull-pull.ensures.slope_small) in
    let x = value_at c.args.values.now c.node_number-at.result.0 +ℤ c.nearest_step-step.result in
    subst (λ (l : List ℤ). IsFormMove (field_forms c.args.self.now) (node_number (table_counts c.args.self.now) c.args.node) c.args.values.now l) (stays c.args.values.now c.node_number-at.result.0 x (let z = is_zero (of_z w64 c.nearest_step-step.result) d in omega (arith, ints)))
    (moved_by (field_forms c.args.self.now) c.args.values.now c.args.node.i c.args.node.j c.args.node.k c.node_number-at.result.0 _ _ c.nearest_step-step.result _ _ x c.node_number-at.ensures.number c.requires.field.nodes c.requires.node
    (r ∙ c.node_pull-pull.ensures.rate) (s ∙ c.node_pull-pull.ensures.slope) (omega (arith, ints)) (omega (arith, ints)) refl c.nearest_step-step.ensures)
