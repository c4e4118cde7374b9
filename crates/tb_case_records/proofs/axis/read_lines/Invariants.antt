use Rattle.std.proofs.Common.{◌≡◌, ◌+◌, ◌++◌, None, drop, length}
use Rattle.csv.specs.Records.{fields_of}
use Rattle.tb_reading.specs.Records.{first_some}
use Rattle.tb_case_records.specs.Rows.{numbers}
use Rattle.tb_case_records.specs.Table.{line_faults, line_reading}
use Rattle.tb_case_records.proofs.AxisLines.{IsCounted}
use Rattle.tb_case_records.proofs.axis.read_lines.Given as goal

abbrev pub invariant-loop-at : goal.invariant-loop-at
invariant-loop-at l = record {
  as_many : length l.lines.items + 1 ≡ l.at;
  counted : IsCounted l.before l.at;
  read : l.lines.items ++ numbers line_reading (drop l.at (fields_of l.row)) ≡ numbers line_reading (drop 1 (fields_of l.row));
  faults : first_some (line_faults l.low l.high l.before (l.at + 1) (drop l.at (fields_of l.row))) ≡ first_some (line_faults l.low l.high None 2 (drop 1 (fields_of l.row)));
}
