use Rattle.tb_numbers.proofs.ReadBack.{reads_back}
use Rattle.tb_numbers.proofs.laws.whole_reads_back.Goals as goal

pub returns : goal.returns
returns c = reads_back
