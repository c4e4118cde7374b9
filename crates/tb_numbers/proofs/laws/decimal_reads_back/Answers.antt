use Rattle.tb_numbers.proofs.ShortTexts.{decimal_reads, decimal_reads_within}
use Rattle.tb_numbers.proofs.laws.decimal_reads_back.Goals as goal

pub returns : goal.returns
returns c = record { reading = decimal_reads; within = decimal_reads_within }
