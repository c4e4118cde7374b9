use Rattle.std.proofs.Common.{◌≡◌, ◌++◌, length}
use Rattle.std.specs.List.{repeat}
use Rattle.tb_case_records.specs.Ahead.{row_numbers}
use Rattle.tb_case_records.specs.Rows.{face_reading}
use Rattle.tb_case_records.specs.Table.{IsPast, layer_rows}
use Rattle.tb_case_records.proofs.values.take_faces.Given as goal

abbrev pub invariant-loop-layer : goal.invariant-loop-layer
invariant-loop-layer l = record {
  past : IsPast (repeat l.layer (layer_rows l.x l.y)) l.initial.reader l.reader;
  read : l.values.items ≡ l.initial.values.items ++ row_numbers face_reading (length (repeat l.layer (layer_rows l.x l.y))) l.initial.reader.ahead;
}
