use Rattle.tb_numbers.proofs.QuotientLaws.{ceiling_brackets, ceiling_least, ceiling_unique}
use Rattle.tb_numbers.proofs.laws.ceiling_laws.Goals as goal

pub returns : goal.returns
returns c = record { brackets = ceiling_brackets; least = ceiling_least; unique = ceiling_unique }
