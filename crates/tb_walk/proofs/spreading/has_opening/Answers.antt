use Rattle.std.proofs.Common.{refl, sym, ◌∙◌}
use Rattle.std.proofs.lemmas.Bool.{true≢false}
use Rattle.tb_places.specs.Inverse.{cell_place}
use Rattle.tb_places.specs.declared.AxisName.TheVariants.{X, Y, Z}
use Rattle.tb_grid.specs.Views.{along_axes}
use Rattle.tb_walk.specs.Marks.{HasOpening}
use Rattle.tb_walk.specs.Spreading.{HasOpeningAlong}
use Rattle.tb_walk.proofs.Openings.{opening_along, last_axis}
use Rattle.tb_walk.proofs.spreading.has_opening.Goals as goal
use Rattle.tb_walk.proofs.spreading.has_opening.Goals.{then-opens_along, else-opens_along}

-- there is an opening along x or y
pub returns-then-opens_along-2 : goal.returns-then-opens_along-2
returns-then-opens_along-2 c =
    let n = along_axes c.args.cell.counts in
    let at = c.args.cell.cell.0 in
    let found : HasOpening n c.args.marked.now (cell_place n at) = elim c.if-opens_along.branch [
      | then-opens_along w ↦ opening_along n c.args.marked.now at X (w.if-opens_along.ensures.0 refl)
      | else-opens_along w ↦ opening_along n c.args.marked.now at Y (w.opens_along-else-opens_along.ensures.0 (sym w.value-is ∙ c.if-opens_along-2.true))
    ] in
    (λ _. found, λ _. c.if-opens_along-2.true)

-- there is none
pub returns-else-opens_along-2 : goal.returns-else-opens_along-2
returns-else-opens_along-2 c =
    let n = along_axes c.args.cell.counts in
    let at = c.args.cell.cell.0 in
    let not_x : ¬ HasOpeningAlong n c.args.marked.now at X = elim c.if-opens_along.branch [
      | then-opens_along w ↦ λ here. true≢false (sym w.if-opens_along.true ∙ sym w.value-is ∙ c.if-opens_along-2.false)
      | else-opens_along w ↦ λ here. true≢false (sym (c.opens_along.ensures.1 here) ∙ w.if-opens_along.false)
    ] in
    let not_y : ¬ HasOpeningAlong n c.args.marked.now at Y = elim c.if-opens_along.branch [
      | then-opens_along w ↦ λ here. true≢false (sym w.if-opens_along.true ∙ sym w.value-is ∙ c.if-opens_along-2.false)
      | else-opens_along w ↦ λ here. true≢false (sym (w.opens_along-else-opens_along.ensures.1 here) ∙ sym w.value-is ∙ c.if-opens_along-2.false)
    ] in
    let last = c.opens_along-else-opens_along-2.ensures in
    (λ t. opening_along n c.args.marked.now at Z (last.0 t), λ opening. last.1 (last_axis n c.args.marked.now at c.args.cell.within not_x not_y opening))
