use Rattle.std.proofs.Common.{◌≡◌, ◌++◌, replicate}
use Rattle.tb_case_records.specs.Ahead.{row_numbers}
use Rattle.tb_case_records.specs.Rows.{reading_of}
use Rattle.tb_case_records.specs.Table.{IsPast, Values}
use Rattle.tb_case_records.proofs.rows.take_rows.Given as goal

abbrev pub invariant-loop-at : goal.invariant-loop-at
invariant-loop-at l = record {
  past : IsPast (replicate l.at (Values l.kind l.count)) l.initial.reader l.reader;
  read : l.values.items ≡ l.initial.values.items ++ row_numbers (reading_of l.kind) l.at l.initial.reader.ahead;
}
