use Rattle.tb_case_records.proofs.fault_text.BundleFaultText.put.Goals as goal

pub returns-in-NotFormat : goal.returns-in-NotFormat
returns-in-NotFormat g c = rw c.in-NotFormat.is c.put_record_fault.ensures

pub returns-in-NoEnd : goal.returns-in-NoEnd
returns-in-NoEnd g c = rw c.in-NoEnd.is c.put-in-NoEnd.ensures.gathers

pub returns-in-Shape : goal.returns-in-Shape
returns-in-Shape g c = rw c.in-Shape.is c.put_record_fault-in-Shape.ensures

pub returns-in-ValueOutOfRange : goal.returns-in-ValueOutOfRange
returns-in-ValueOutOfRange g c = rw c.in-ValueOutOfRange.is c.put_field_fault-in-ValueOutOfRange.ensures

pub returns-in-NotRising : goal.returns-in-NotRising
returns-in-NotRising g c = rw c.in-NotRising.is c.put_field_fault-in-NotRising.ensures

pub returns-in-LineOutside : goal.returns-in-LineOutside
returns-in-LineOutside g c = rw c.in-LineOutside.is c.put_field_fault-in-LineOutside.ensures

pub returns-in-GridTooLarge : goal.returns-in-GridTooLarge
returns-in-GridTooLarge g c = rw c.in-GridTooLarge.is c.put_record_fault-in-GridTooLarge.ensures
