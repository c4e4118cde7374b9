use Rattle.tb_records.proofs.Plain.{ascii_is_no_mark}
use Rattle.tb_records.proofs.laws.ascii_is_no_mark.Goals as goal

pub returns : goal.returns
returns c = ascii_is_no_mark
