use Rattle.tb_numbers.proofs.FixedReadBack.{fixed_reads}
use Rattle.tb_numbers.proofs.laws.fixed_reads_back.Goals as goal

pub returns : goal.returns
returns c = fixed_reads
