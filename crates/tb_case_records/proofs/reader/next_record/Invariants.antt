use Rattle.std.proofs.Common.{◌≡◌, ◌+◌, ◌≤◌, length}
use Rattle.tb_outside.specs.Limits.{most_input_bytes}
use Rattle.tb_reading.specs.Reading.{numbered}
use Rattle.tb_case_records.specs.Ahead.{without_remarks}
use Rattle.tb_case_records.proofs.reader.next_record.Given as goal

abbrev pub invariant-loop-at : goal.invariant-loop-at
invariant-loop-at l = record {
  ahead : without_remarks (numbered (l.at + 1) l.left) ≡ without_remarks (numbered (l.fn.number + 1) l.fn.left);
  total : l.at + length l.left ≡ l.fn.number + length l.fn.left;
  few : l.at + length l.left ≤ most_input_bytes;
}

abbrev pub decreases-loop-at : goal.decreases-loop-at
decreases-loop-at l = length l.left
