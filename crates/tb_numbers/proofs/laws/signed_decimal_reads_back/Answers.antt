use Rattle.tb_numbers.proofs.ShortTexts.{signed_reads, signed_reads_within}
use Rattle.tb_numbers.proofs.laws.signed_decimal_reads_back.Goals as goal

pub returns : goal.returns
returns c = record { reading = signed_reads; within = signed_reads_within }
