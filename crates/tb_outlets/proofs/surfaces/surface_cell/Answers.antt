use Rattle.std.proofs.Common.{◌-◌, arith, sym}
use Rattle.tb_grid.specs.Views.{along_axes}
use Rattle.tb_outlets.proofs.SurfaceCells.{between_found, no_opening, other_false, other_true, same_flags, opens_above, opens_below, stands_inside}
use Rattle.tb_outlets.proofs.surfaces.surface_cell.Goals as goal
use Rattle.tb_outlets.proofs.surfaces.surface_cell.Goals.{then-index-eq0-via-then-index-eq0, then-index-eq0-via-else-index-eq0+then-index-along}

pub returns-then-index-eq0 : goal.returns-then-index-eq0
returns-then-index-eq0 c = λ d s opening.
    let n = along_axes c.args.counts in
    let g = c.face_place-axis.result in
    let stands = stands_inside n c.args.solid.now c.args.face.0 d s g.axis g.place (sym c.face_place-axis.ensures.place) opening in
    let low = stands.0 in
    let high = stands.1 in
    elim c.then-index-eq0.branch [
      | then-index-eq0-via-then-index-eq0 w ↦ omega (arith, w.if-index-eq0.true, c.along-index.ensures)
      | then-index-eq0-via-else-index-eq0+then-index-along w ↦ omega (arith, w.if-index-along.true, w.along.ensures, c.along-index.ensures)
    ]

pub overflow_sub-below : goal.overflow_sub-below
overflow_sub-below c = (between_found (along_axes c.args.counts) c.args.face.0 c.face_place-axis.result.axis c.face_place-axis.result.place
    c.along-index.result c.along.result c.cell_number-above.result.0 c.cell_stride.result
    (sym c.face_place-axis.ensures.place) c.requires.face c.face_place-axis.ensures.within c.along-index.ensures c.along.ensures
    c.if-index-eq0.false c.if-index-along.false c.cell_number-above.ensures.number c.cell_stride.ensures).0

pub returns-then-is_above-is_below : goal.returns-then-is_above-is_below
returns-then-is_above-is_below c = λ d s. no_opening (along_axes c.args.counts) c.args.solid.now c.args.face.0 c.face_place-axis.result.axis
    (c.cell_number-above.result.0 - c.cell_stride.result) c.cell_number-above.result.0 d s
    ((between_found (along_axes c.args.counts) c.args.face.0 c.face_place-axis.result.axis c.face_place-axis.result.place
    c.along-index.result c.along.result c.cell_number-above.result.0 c.cell_stride.result
    (sym c.face_place-axis.ensures.place) c.requires.face c.face_place-axis.ensures.within c.along-index.ensures c.along.ensures
    c.if-index-eq0.false c.if-index-along.false c.cell_number-above.ensures.number c.cell_stride.ensures).1)
    (same_flags _ _ c.if-is_above-is_below.true)

pub returns-then-is_above : goal.returns-then-is_above
returns-then-is_above c = opens_above (along_axes c.args.counts) c.args.solid.now c.args.face.0 c.face_place-axis.result.axis
    (c.cell_number-above.result.0 - c.cell_stride.result) c.cell_number-above.result.0
    ((between_found (along_axes c.args.counts) c.args.face.0 c.face_place-axis.result.axis c.face_place-axis.result.place
    c.along-index.result c.along.result c.cell_number-above.result.0 c.cell_stride.result
    (sym c.face_place-axis.ensures.place) c.requires.face c.face_place-axis.ensures.within c.along-index.ensures c.along.ensures
    c.if-index-eq0.false c.if-index-along.false c.cell_number-above.ensures.number c.cell_stride.ensures).1)
    c.if-is_above.true (other_false _ _ c.if-is_above.true c.if-is_above-is_below.false)

pub returns-else-is_above : goal.returns-else-is_above
returns-else-is_above c = opens_below (along_axes c.args.counts) c.args.solid.now c.args.face.0 c.face_place-axis.result.axis
    (c.cell_number-above.result.0 - c.cell_stride.result) c.cell_number-above.result.0
    ((between_found (along_axes c.args.counts) c.args.face.0 c.face_place-axis.result.axis c.face_place-axis.result.place
    c.along-index.result c.along.result c.cell_number-above.result.0 c.cell_stride.result
    (sym c.face_place-axis.ensures.place) c.requires.face c.face_place-axis.ensures.within c.along-index.ensures c.along.ensures
    c.if-index-eq0.false c.if-index-along.false c.cell_number-above.ensures.number c.cell_stride.ensures).1)
    c.if-is_above.false (other_true _ _ c.if-is_above.false c.if-is_above-is_below.false)
