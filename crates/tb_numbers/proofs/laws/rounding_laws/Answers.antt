use Rattle.tb_numbers.proofs.QuotientLaws.{rounded_brackets, rounded_not_negative, rounded_unique}
use Rattle.tb_numbers.proofs.laws.rounding_laws.Goals as goal

pub returns : goal.returns
returns c = record { brackets = rounded_brackets; unique = rounded_unique; not_negative = rounded_not_negative }
