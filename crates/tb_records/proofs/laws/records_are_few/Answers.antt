use Rattle.tb_records.proofs.Turns.{records_of-few}
use Rattle.tb_records.proofs.laws.records_are_few.Goals as goal

pub returns : goal.returns
returns c = records_of-few
