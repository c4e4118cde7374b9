use Rattle.std.proofs.Common.{◌-◌, ◌∙◌, sym}
use Rattle.tb_grid.specs.Views.{along_axes}
use Rattle.tb_outlets.proofs.SurfaceCells.{between_found}
use Rattle.tb_trees.proofs.Passable.{end_passes_none, or_first, or_second, passes_where_solid}
use Rattle.tb_trees.proofs.flags.is_passable.Goals as goal
use Rattle.tb_trees.proofs.flags.is_passable.Goals.{then-index-eq0-via-then-index-eq0, then-index-eq0-via-else-index-eq0+then-index-along}

pub returns-then-index-eq0 : goal.returns-then-index-eq0
returns-then-index-eq0 c = λ m same marks.
    let n = along_axes c.args.counts in
    let g = c.face_place-axis.result in
    let ends = end_passes_none n m c.args.face.0 g.axis g.place same (sym c.face_place-axis.ensures.place) in
    elim c.then-index-eq0.branch [
      | then-index-eq0-via-then-index-eq0 w ↦ sym (ends.0 (sym c.along-index.ensures ∙ w.if-index-eq0.true))
      | then-index-eq0-via-else-index-eq0+then-index-along w ↦ sym (ends.1 (sym c.along-index.ensures ∙ w.if-index-along.true ∙ w.along.ensures))
    ]

pub overflow_sub-below : goal.overflow_sub-below
overflow_sub-below c = (between_found (along_axes c.args.counts) c.args.face.0 c.face_place-axis.result.axis c.face_place-axis.result.place
    c.along-index.result c.along.result c.cell_number-above.result.0 c.cell_stride.result
    (sym c.face_place-axis.ensures.place) c.requires.face c.face_place-axis.ensures.within c.along-index.ensures c.along.ensures
    c.if-index-eq0.false c.if-index-along.false c.cell_number-above.ensures.number c.cell_stride.ensures).0

pub returns-then-solid-above : goal.returns-then-solid-above
returns-then-solid-above c = λ m same marks. or_first _ _ _ c.if-solid-above.true
    (passes_where_solid (along_axes c.args.counts) m c.args.solid.now c.args.face.0 c.face_place-axis.result.axis
    (c.cell_number-above.result.0 - c.cell_stride.result) c.cell_number-above.result.0 same marks
    ((between_found (along_axes c.args.counts) c.args.face.0 c.face_place-axis.result.axis c.face_place-axis.result.place
    c.along-index.result c.along.result c.cell_number-above.result.0 c.cell_stride.result
    (sym c.face_place-axis.ensures.place) c.requires.face c.face_place-axis.ensures.within c.along-index.ensures c.along.ensures
    c.if-index-eq0.false c.if-index-along.false c.cell_number-above.ensures.number c.cell_stride.ensures).1))

pub returns-else-solid-above : goal.returns-else-solid-above
returns-else-solid-above c = λ m same marks. or_second _ _ _ c.if-solid-above.false
    (passes_where_solid (along_axes c.args.counts) m c.args.solid.now c.args.face.0 c.face_place-axis.result.axis
    (c.cell_number-above.result.0 - c.cell_stride.result) c.cell_number-above.result.0 same marks
    ((between_found (along_axes c.args.counts) c.args.face.0 c.face_place-axis.result.axis c.face_place-axis.result.place
    c.along-index.result c.along.result c.cell_number-above.result.0 c.cell_stride.result
    (sym c.face_place-axis.ensures.place) c.requires.face c.face_place-axis.ensures.within c.along-index.ensures c.along.ensures
    c.if-index-eq0.false c.if-index-along.false c.cell_number-above.ensures.number c.cell_stride.ensures).1))
