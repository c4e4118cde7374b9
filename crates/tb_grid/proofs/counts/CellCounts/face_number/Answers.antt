use Rattle.std.proofs.Common.{arith}
use Rattle.tb_places.proofs.Bounds.{layers_below_number}
use Rattle.tb_places.proofs.Faces.{face_number_below}
use Rattle.tb_grid.specs.Views.{along_axes}
use Rattle.tb_grid.proofs.Few.{small, small_face}
use Rattle.tb_grid.proofs.counts.CellCounts.face_number.Goals as goal

pub overflow_mul-below : goal.overflow_mul-below
overflow_mul-below c =
    let n = c.args.self in let p = c.args.place in
    let s = small n in
    let below = small_face (along_axes n) c.args.axis p s c.requires in
    let layers = layers_below_number (along_axes n) c.args.axis p in
    rw c.faces_a_layer.ensures (omega arith)

pub overflow_add-result-in-X-3 : goal.overflow_add-result-in-X-3
overflow_add-result-in-X-3 c =
    let n = c.args.self in let p = c.args.place in
    let s = small n in
    let below = small_face (along_axes n) c.args.axis p s c.requires in
    let here = rw c.in-X.is at below in
    rw c.faces_a_layer.ensures (omega arith)

pub overflow_add-result-in-Y-4 : goal.overflow_add-result-in-Y-4
overflow_add-result-in-Y-4 c =
    let n = c.args.self in let p = c.args.place in
    let s = small n in
    let below = small_face (along_axes n) c.args.axis p s c.requires in
    let here = rw c.in-Y.is at below in
    rw c.faces_a_layer.ensures (omega arith)

pub overflow_add-result-in-Z-2 : goal.overflow_add-result-in-Z-2
overflow_add-result-in-Z-2 c =
    let n = c.args.self in let p = c.args.place in
    let s = small n in
    let below = small_face (along_axes n) c.args.axis p s c.requires in
    let here = rw c.in-Z.is at below in
    rw c.faces_a_layer.ensures (omega arith)

pub returns-in-X-clause-within : goal.returns-in-X-clause-within
returns-in-X-clause-within c =
    let p = c.args.place in
    let below = face_number_below (along_axes c.args.self) c.args.axis p c.requires in
    let here = rw c.in-X.is at below in rw c.faces_a_layer.ensures here

pub returns-in-Y-clause-within : goal.returns-in-Y-clause-within
returns-in-Y-clause-within c =
    let p = c.args.place in
    let below = face_number_below (along_axes c.args.self) c.args.axis p c.requires in
    let here = rw c.in-Y.is at below in rw c.faces_a_layer.ensures here

pub returns-in-Z-clause-within : goal.returns-in-Z-clause-within
returns-in-Z-clause-within c =
    let p = c.args.place in
    let below = face_number_below (along_axes c.args.self) c.args.axis p c.requires in
    let here = rw c.in-Z.is at below in rw c.faces_a_layer.ensures here
