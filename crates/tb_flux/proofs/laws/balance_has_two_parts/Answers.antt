use Rattle.tb_flux.proofs.Parts.{balanced_in_parts}
use Rattle.tb_flux.proofs.laws.balance_has_two_parts.Goals as goal

pub returns : goal.returns
returns c = balanced_in_parts
