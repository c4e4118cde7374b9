use Rattle.tb_duality.proofs.Masks.{masks_complement}
use Rattle.tb_duality.proofs.complements.masks_have_complements.Goals as goal

pub returns : goal.returns
returns c = masks_complement
