use Rattle.std.proofs.Common.{arith, ◌+◌, ◌*◌, ◌-◌, ◌%◌, sym, ◌∙◌}
use Rattle.tb_places.specs.declared.AxisName.TheVariants.{X, Y}
use Rattle.tb_places.specs.Places.{faces_a_layer}
use Rattle.tb_places.proofs.Faces.{face_place_within, face_place_x, face_place_y, face_place_z}
use Rattle.tb_grid.specs.Views.{along_axes}
use Rattle.tb_grid.proofs.counts.CellCounts.face_place.Goals as goal

pub returns-then-in_layer-z_faces-clause-place : goal.returns-then-in_layer-z_faces-clause-place
returns-then-in_layer-z_faces-clause-place c =
    let n = along_axes c.args.self in
    let low = rw c.faces_a_layer-layer.ensures at c.if-in_layer-z_faces.true in
    let is = rw c.faces_a_layer-layer.ensures at c.by_rows.ensures in
    is ∙ sym (face_place_z n c.args.face.0 low)

pub returns-then-side-x_faces-clause-place : goal.returns-then-side-x_faces-clause-place
returns-then-side-x_faces-clause-place c =
    let n = along_axes c.args.self in
    let f = c.args.face.0 in
    let high = rw c.faces_a_layer-layer.ensures at c.if-in_layer-z_faces.false in
    let low = rw c.faces_a_layer-layer.ensures at c.if-side-x_faces.true in
    let is = rw c.faces_a_layer-layer.ensures at c.by_rows-then-side-x_faces.ensures in
    is ∙ sym (face_place_x n f (f % faces_a_layer n - n X * n Y) (omega arith) low)

pub returns-clause-place : goal.returns-clause-place
returns-clause-place c =
    let n = along_axes c.args.self in
    let f = c.args.face.0 in
    let high = rw c.faces_a_layer-layer.ensures at c.if-in_layer-z_faces.false in
    let past = rw c.faces_a_layer-layer.ensures at c.if-side-x_faces.false in
    let is = rw c.faces_a_layer-layer.ensures at c.by_rows-2.ensures in
    is ∙ sym (face_place_y n f (f % faces_a_layer n - n X * n Y - (n X + 1) * n Y) (omega arith))

pub returns-then-in_layer-z_faces-clause-within : goal.returns-then-in_layer-z_faces-clause-within
returns-then-in_layer-z_faces-clause-within c =
    rw (returns-then-in_layer-z_faces-clause-place c) (face_place_within (along_axes c.args.self) c.args.face.0 c.requires)

pub returns-then-side-x_faces-clause-within : goal.returns-then-side-x_faces-clause-within
returns-then-side-x_faces-clause-within c =
    rw (returns-then-side-x_faces-clause-place c) (face_place_within (along_axes c.args.self) c.args.face.0 c.requires)

pub returns-clause-within : goal.returns-clause-within
returns-clause-within c =
    rw (returns-clause-place c) (face_place_within (along_axes c.args.self) c.args.face.0 c.requires)
