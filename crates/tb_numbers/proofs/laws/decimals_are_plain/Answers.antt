use Rattle.tb_numbers.proofs.ShortTexts.{decimal_plain, decimal_some, signed_plain, signed_some}
use Rattle.tb_numbers.proofs.laws.decimals_are_plain.Goals as goal

pub returns : goal.returns
returns c = record { decimal = decimal_plain; some = decimal_some; signed = signed_plain; signed_some = signed_some }
