use Rattle.tb_records.proofs.Plain.{plain_records_read_back}
use Rattle.tb_records.proofs.laws.plain_records_read_back.Goals as goal

pub returns : goal.returns
returns c = plain_records_read_back
