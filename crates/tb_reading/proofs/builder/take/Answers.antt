use Rattle.std.proofs.Common.{◌∙◌, ap, Err}
use Rattle.csv.specs.Records.{fields_of}
use Rattle.tb_reading.proofs.Fed.{fault_from, fed_fault, fed_ok}
use Rattle.tb_reading.proofs.builder.take.Goals as goal

pub returns-in-Ok : goal.returns-in-Ok
returns-in-Ok c = λ given s. fed_ok c.take.new.self given c.args.number (fields_of c.args.fields.now) s.0 (c.in-Ok.ensures given s.1)

pub returns-in-Err-Fault : goal.returns-in-Err-Fault
returns-in-Err-Fault c = λ given s. fed_fault given c.args.number (fields_of c.args.fields.now) c.in-Err-Fault.fault s.0
    (fault_from c.take.result c.in-Err-Fault.fault given c.args.number (fields_of c.args.fields.now) c.take.new.self (c.in-Err-Fault.is ∙ ap Err c.in-Err-Fault.field-0-is) (c.take.ensures given s.1))
