use Rattle.tb_records.proofs.Turns.{records_of-have_field}
use Rattle.tb_records.proofs.laws.records_have_a_field.Goals as goal

pub returns : goal.returns
returns c = records_of-have_field
