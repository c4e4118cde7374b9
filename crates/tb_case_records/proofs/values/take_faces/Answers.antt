use Rattle.std.proofs.Common.{◌≡◌, ℕ, ◌++◌, arith, codes, length, subst}
use Rattle.std.specs.List.{repeat}
use Rattle.tb_places.specs.declared.AxisName.TheVariants.{X, Y, Z}
use Rattle.tb_case_records.specs.declared.rows.RowKind.TheVariants.{Faces}
use Rattle.tb_case_records.specs.Ahead.{row_numbers}
use Rattle.tb_case_records.specs.Rows.{face_reading}
use Rattle.tb_case_records.specs.Table.{IsPast, Values, across_z, layer_rows}
use Rattle.tb_case_records.proofs.Taking.{layer_cut, layer_past, layer_read, on_ok, read_then, rows_read, taken_then}
use Rattle.tb_case_records.proofs.values.take_faces.Goals as goal

pub returns-in-Err-clause-taken : goal.returns-in-Err-clause-taken
returns-in-Err-clause-taken c =
    layer_cut (layer_rows c.args.x c.args.y) c.loop-layer.layer c.args.reader.now c.loop-layer.reader c.loop-layer.invariant.past
    c.args.z (across_z c.args.x c.args.y) c.in-Err.refusal c.loop-layer-test.true c.in-Err.ensures.taken

pub loop-layer-preserved : goal.loop-layer-preserved
loop-layer-preserved c = record {
  past = layer_past (layer_rows c.args.x c.args.y) c.loop-layer.layer c.args.reader.now c.loop-layer.reader c.loop-layer.invariant.past c.take_layer.new.reader c.in_default.ensures.taken;
  read = layer_read (layer_rows c.args.x c.args.y) c.loop-layer.layer c.args.reader.now c.loop-layer.reader c.loop-layer.invariant.past face_reading
      c.args.values.now.items c.loop-layer.values.items c.take_layer.new.values.items c.loop-layer.invariant.read c.in_default.ensures.read;
}

pub returns-clause-taken : goal.returns-clause-taken
returns-clause-taken c =
    let all : c.loop-layer.layer ≡ c.args.z = omega arith in
    taken_then (repeat c.args.z (layer_rows c.args.x c.args.y)) (across_z c.args.x c.args.y) c.args.reader.now c.loop-layer.reader c.take_rows.new.reader c.take_rows.result
    (subst (λ (n : ℕ). IsPast (repeat n (layer_rows c.args.x c.args.y)) c.args.reader.now c.loop-layer.reader) all c.loop-layer.invariant.past)
    c.take_rows.ensures.taken

pub returns-clause-read : goal.returns-clause-read
returns-clause-read c =
    let all : c.loop-layer.layer ≡ c.args.z = omega arith in
    on_ok _ _ c.take_rows.result (λ (h : c.take_rows.new.values.items ≡ c.loop-layer.values.items ++ row_numbers face_reading c.args.y c.loop-layer.reader.ahead).
    read_then face_reading (repeat c.args.z (layer_rows c.args.x c.args.y)) (across_z c.args.x c.args.y) c.args.reader.now c.loop-layer.reader
    c.args.values.now.items c.loop-layer.values.items c.take_rows.new.values.items
    (subst (λ (n : ℕ). IsPast (repeat n (layer_rows c.args.x c.args.y)) c.args.reader.now c.loop-layer.reader) all c.loop-layer.invariant.past)
    (subst (λ (n : ℕ). c.loop-layer.values.items ≡ c.args.values.now.items ++ row_numbers face_reading (length (repeat n (layer_rows c.args.x c.args.y))) c.args.reader.now.ahead) all c.loop-layer.invariant.read)
    (rows_read face_reading (Values (Faces Z) c.args.x) c.args.y c.loop-layer.reader.ahead c.loop-layer.values.items c.take_rows.new.values.items h))
    c.take_rows.ensures.read
