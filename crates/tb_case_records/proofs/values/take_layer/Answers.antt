use Rattle.std.proofs.Common.{◌+◌, ◌++◌, codes, replicate, ◌≡◌}
use Rattle.tb_places.specs.declared.AxisName.TheVariants.{X, Y, Z}
use Rattle.tb_case_records.specs.declared.rows.RowKind.TheVariants.{Faces}
use Rattle.tb_case_records.specs.Ahead.{row_numbers}
use Rattle.tb_case_records.specs.Rows.{face_reading}
use Rattle.tb_case_records.specs.Table.{Values, across_z, layer_rows}
use Rattle.tb_case_records.proofs.Taking.{on_ok, read_then, rows_read, stops_short, stops_then, taken_then}
use Rattle.tb_case_records.proofs.values.take_layer.Goals as goal

pub returns-in-Err-clause-taken : goal.returns-in-Err-clause-taken
returns-in-Err-clause-taken c =
    stops_short (across_z c.args.x c.args.y) (replicate c.args.y (Values (Faces X) (c.args.x + 1)) ++ replicate (c.args.y + 1) (Values (Faces Y) c.args.x))
    c.args.reader.now c.in-Err.refusal c.in-Err.ensures.taken

pub returns-in-Err-take_rows-clause-taken : goal.returns-in-Err-take_rows-clause-taken
returns-in-Err-take_rows-clause-taken c =
    stops_then (across_z c.args.x c.args.y) (replicate c.args.y (Values (Faces X) (c.args.x + 1)) ++ replicate (c.args.y + 1) (Values (Faces Y) c.args.x))
    c.args.reader.now c.take_rows.new.reader c.in-Err-take_rows.refusal c.in_default.ensures.taken
    (stops_short (replicate c.args.y (Values (Faces X) (c.args.x + 1))) (replicate (c.args.y + 1) (Values (Faces Y) c.args.x))
    c.take_rows.new.reader c.in-Err-take_rows.refusal c.in-Err-take_rows.ensures.taken)

pub returns-clause-taken : goal.returns-clause-taken
returns-clause-taken c =
    taken_then (across_z c.args.x c.args.y) (replicate c.args.y (Values (Faces X) (c.args.x + 1)) ++ replicate (c.args.y + 1) (Values (Faces Y) c.args.x))
    c.args.reader.now c.take_rows.new.reader c.take_rows-3.new.reader c.take_rows-3.result c.in_default.ensures.taken
    (taken_then (replicate c.args.y (Values (Faces X) (c.args.x + 1))) (replicate (c.args.y + 1) (Values (Faces Y) c.args.x))
    c.take_rows.new.reader c.take_rows-2.new.reader c.take_rows-3.new.reader c.take_rows-3.result c.in_default-take_rows.ensures.taken c.take_rows-3.ensures.taken)

pub returns-clause-read : goal.returns-clause-read
returns-clause-read c =
    on_ok _ _ c.take_rows-3.result (λ (h : c.take_rows-3.new.values.items ≡ c.take_rows-2.new.values.items ++ row_numbers face_reading (c.args.y + 1) c.take_rows-2.new.reader.ahead).
    read_then face_reading (across_z c.args.x c.args.y) (replicate c.args.y (Values (Faces X) (c.args.x + 1)) ++ replicate (c.args.y + 1) (Values (Faces Y) c.args.x))
    c.args.reader.now c.take_rows.new.reader c.args.values.now.items c.take_rows.new.values.items c.take_rows-3.new.values.items c.in_default.ensures.taken
    (rows_read face_reading (Values (Faces Z) c.args.x) c.args.y c.args.reader.now.ahead c.args.values.now.items c.take_rows.new.values.items c.in_default.ensures.read)
    (read_then face_reading (replicate c.args.y (Values (Faces X) (c.args.x + 1))) (replicate (c.args.y + 1) (Values (Faces Y) c.args.x))
    c.take_rows.new.reader c.take_rows-2.new.reader c.take_rows.new.values.items c.take_rows-2.new.values.items c.take_rows-3.new.values.items c.in_default-take_rows.ensures.taken
    (rows_read face_reading (Values (Faces X) (c.args.x + 1)) c.args.y c.take_rows.new.reader.ahead c.take_rows.new.values.items c.take_rows-2.new.values.items c.in_default-take_rows.ensures.read)
    (rows_read face_reading (Values (Faces Y) c.args.x) (c.args.y + 1) c.take_rows-2.new.reader.ahead c.take_rows-2.new.values.items c.take_rows-3.new.values.items h)))
    c.take_rows-3.ensures.read
