use Rattle.std.proofs.Common.{◌≤◌, ap, ◌∷◌, length-append, ◌≡◌, ◌∙◌, arith, [], drop, length, sym}
use Rattle.std.proofs.lemmas.List.{drop_all}
use Rattle.csv.specs.Records.{fields_of}
use Rattle.tb_reading.proofs.Fields.{drop_no_field}
use Rattle.tb_case_records.specs.Table.{line_reading}
use Rattle.tb_case_records.proofs.AxisLines.{line_fault_here, next_counted, next_line_faults, no_line_fault}
use Rattle.tb_case_records.proofs.Fitting.{field_past}
use Rattle.tb_case_records.proofs.RowFields.{all_read, next_read}
use Rattle.tb_case_records.proofs.axis.read_lines.Goals as goal
use Rattle.tb_case_records.proofs.axis.read_lines.Goals.{else-loop-at-test, then-loop-at-test+in_default}

pub returns-in-Err-clause-fault : goal.returns-in-Err-clause-fault
returns-in-Err-clause-fault c =
    line_fault_here c.args.low c.args.high (fields_of c.args.row.now) c.loop-at.at c.in-Some.text.now c.in-Some.ensures.value c.loop-at.before
    c.in-Err.fault _ c.in-Err.ensures.fault c.loop-at.invariant.faults

pub loop-at-preserved : goal.loop-at-preserved
loop-at-preserved c = record {
  as_many = (let e = ap length c.in-Ok-push.ensures.items in let l = length-append c.loop-at.lines.items (c.in-Ok.line ∷ []) in let n = c.loop-at.invariant.as_many in omega arith);
  counted = next_counted c.loop-at.before c.loop-at.at c.in-Ok.line c.loop-at.invariant.counted c.in-Ok.ensures.above c.in-Ok.ensures.most;
  read = next_read (fields_of c.args.row.now) c.loop-at.at c.in-Some.text.now c.in-Some.ensures.value line_reading
      c.loop-at.lines.items c.push.new.self.items _ c.in-Ok.line (sym c.in-Ok.ensures.value) c.in-Ok-push.ensures.items c.loop-at.invariant.read;
  faults = next_line_faults c.args.low c.args.high (fields_of c.args.row.now) c.loop-at.at c.in-Some.text.now c.in-Some.ensures.value c.loop-at.before
      c.in-Ok.line _ c.in-Ok.ensures.fault c.in-Ok.ensures.value c.loop-at.invariant.faults;
}

pub returns-clause-fault : goal.returns-clause-fault
returns-clause-fault c = no_line_fault c.args.low c.args.high c.loop-at.before (fields_of c.args.row.now) c.loop-at.at _ at_end c.loop-at.invariant.faults
  where
    at_end : drop c.loop-at.at (fields_of c.args.row.now) ≡ []
    at_end = elim c.loop-at-test.branch [
      | else-loop-at-test w ↦ drop_all c.loop-at.at (fields_of c.args.row.now) (let m = c.len-at-end.ensures in let n = w.loop-at-test.false in omega arith)
      | then-loop-at-test+in_default w ↦ drop_no_field (fields_of c.args.row.now) c.loop-at.at (sym w.in_default.ensures.value)
    ]

pub returns-clause-read : goal.returns-clause-read
returns-clause-read c = all_read line_reading (fields_of c.args.row.now) c.loop-at.at _ _ at_end c.loop-at.invariant.read
  where
    at_end : drop c.loop-at.at (fields_of c.args.row.now) ≡ []
    at_end = elim c.loop-at-test.branch [
      | else-loop-at-test w ↦ drop_all c.loop-at.at (fields_of c.args.row.now) (let m = c.len-at-end.ensures in let n = w.loop-at-test.false in omega arith)
      | then-loop-at-test+in_default w ↦ drop_no_field (fields_of c.args.row.now) c.loop-at.at (sym w.in_default.ensures.value)
    ]

pub returns-clause-count : goal.returns-clause-count
returns-clause-count c = λ some. elim c.loop-at-test.branch [
  | else-loop-at-test w ↦ (let m = c.len-at-end.ensures in let n = w.loop-at-test.false in let k = c.loop-at.auto.at-end in let a = c.loop-at.invariant.as_many in omega arith)
  | then-loop-at-test+in_default w ↦
      (let past : length (fields_of c.args.row.now) ≤ c.loop-at.at = field_past (fields_of c.args.row.now) c.loop-at.at (sym w.in_default.ensures.value) in
      let m = c.len-at-end.ensures in let n = w.loop-at-test.true in absurd (omega arith))
]
