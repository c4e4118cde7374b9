use Rattle.tb_numbers.proofs.QuotientLaws.{floor_brackets, floor_greatest, floor_unique}
use Rattle.tb_numbers.proofs.laws.floor_laws.Goals as goal

pub returns : goal.returns
returns c = record { brackets = floor_brackets; greatest = floor_greatest; unique = floor_unique }
