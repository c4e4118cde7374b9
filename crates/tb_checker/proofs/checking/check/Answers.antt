use Rattle.tb_records.specs.Records.{records_of}
use Rattle.tb_checker.proofs.Whole.{of_records}
use Rattle.tb_checker.proofs.checking.check.Goals as goal

pub returns-clause-answers : goal.returns-clause-answers
returns-clause-answers c = of_records (records_of c.args.bytes.now) c.in-Ok.reader c.check_ahead.result c.in-Ok.ensures c.check_ahead.ensures
