use Rattle.tb_records.specs.Records.{records_of}
use Rattle.tb_bundle.proofs.Wholes.{of_records}
use Rattle.tb_bundle.proofs.bundle.read_bundle.Goals as goal

pub returns-clause-bundle : goal.returns-clause-bundle
returns-clause-bundle c = of_records (records_of c.args.bytes.now) c.in-Ok.reader c.read_ahead.result c.in-Ok.ensures c.read_ahead.ensures.bundle
