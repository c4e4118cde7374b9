use Rattle.std.proofs.Common.{◌≡◌, ◌+◌, ◌∙◌, ◌++◌, ◌∷◌, [], ℤ, ap, sym, arith, rules, of_z, to_z, w64, Err}
use Rattle.csv.specs.Records.{fields_of}
use Rattle.tb_reading.proofs.Fields.{drop_no_field}
use Rattle.tb_case_records.specs.Rows.{fault_in, reading_of}
use Rattle.tb_case_records.proofs.RowFields.{all_read, fault_here, next_faults, next_read, no_fault, shaped}
use Rattle.tb_case_records.proofs.rows.read_row.Goals as goal

pub returns-in-Err-BadNumber-clause-fault : goal.returns-in-Err-BadNumber-clause-fault
returns-in-Err-BadNumber-clause-fault c =
    shaped c.args.kind c.args.count (fields_of c.args.row.now) (sym c.is_shaped.ensures ∙ c.if-not-is_shaped.false)
    ∙ fault_here (fields_of c.args.row.now) c.loop-at.at c.in-Some.text.now c.in-Some.ensures.value c.args.kind
    c.read_value.result c.read_value.ensures _ c.loop-at.invariant.faults _ (ap (fault_in (c.loop-at.at + 1)) (c.in-Err-BadNumber.is ∙ ap Err c.in-Err-BadNumber.field-0-is))

pub returns-in-Err-OutOfRange-clause-fault : goal.returns-in-Err-OutOfRange-clause-fault
returns-in-Err-OutOfRange-clause-fault c =
    shaped c.args.kind c.args.count (fields_of c.args.row.now) (sym c.is_shaped.ensures ∙ c.if-not-is_shaped.false)
    ∙ fault_here (fields_of c.args.row.now) c.loop-at.at c.in-Some.text.now c.in-Some.ensures.value c.args.kind
    c.read_value.result c.read_value.ensures _ c.loop-at.invariant.faults _ (ap (fault_in (c.loop-at.at + 1)) (c.in-Err-OutOfRange.is ∙ ap Err c.in-Err-OutOfRange.field-0-is))

pub loop-at-preserved : goal.loop-at-preserved
loop-at-preserved c =
    let kept : to_z w64 (of_z w64 c.in-Ok.value) ≡ c.in-Ok.value = search rules in
    record {
      some = omega arith;
      read = next_read (fields_of c.args.row.now) c.loop-at.at c.in-Some.text.now c.in-Some.ensures.value (reading_of c.args.kind)
          c.loop-at.values.items c.push_value.new.values.items _ c.in-Ok.value (sym c.in-Ok.is ∙ c.read_value.ensures) (c.in-Ok-push_value.ensures ∙ ap (λ (z : ℤ). c.loop-at.values.items ++ z ∷ []) kept) c.loop-at.invariant.read;
      faults = next_faults (fields_of c.args.row.now) c.loop-at.at c.in-Some.text.now c.in-Some.ensures.value c.args.kind
          c.read_value.result c.read_value.ensures _ c.loop-at.invariant.faults c.in-Ok.value c.in-Ok.is;
    }

pub returns-in_default-clause-fault : goal.returns-in_default-clause-fault
returns-in_default-clause-fault c =
    shaped c.args.kind c.args.count (fields_of c.args.row.now) (sym c.is_shaped.ensures ∙ c.if-not-is_shaped.false)
    ∙ no_fault c.args.kind (fields_of c.args.row.now) c.loop-at.at _ (drop_no_field (fields_of c.args.row.now) c.loop-at.at (sym c.in_default.ensures.value)) c.loop-at.invariant.faults

pub returns-in_default-clause-read : goal.returns-in_default-clause-read
returns-in_default-clause-read c =
    all_read (reading_of c.args.kind) (fields_of c.args.row.now) c.loop-at.at _ _ (drop_no_field (fields_of c.args.row.now) c.loop-at.at (sym c.in_default.ensures.value)) c.loop-at.invariant.read
