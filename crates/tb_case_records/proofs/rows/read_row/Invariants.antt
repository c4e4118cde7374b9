use Rattle.std.proofs.Common.{◌≡◌, ◌+◌, ◌++◌, ◌≤◌, drop}
use Rattle.csv.specs.Records.{fields_of}
use Rattle.tb_reading.specs.Records.{first_some}
use Rattle.tb_case_records.specs.Rows.{number_faults, numbers, reading_of}
use Rattle.tb_case_records.proofs.rows.read_row.Given as goal

abbrev pub invariant-loop-at : goal.invariant-loop-at
invariant-loop-at l = record {
  some : 1 ≤ l.at;
  read : l.values.items ++ numbers (reading_of l.kind) (drop l.at (fields_of l.row)) ≡ l.initial.values.items ++ numbers (reading_of l.kind) (drop 1 (fields_of l.row));
  faults : first_some (number_faults l.kind (l.at + 1) (drop l.at (fields_of l.row))) ≡ first_some (number_faults l.kind 2 (drop 1 (fields_of l.row)));
}
