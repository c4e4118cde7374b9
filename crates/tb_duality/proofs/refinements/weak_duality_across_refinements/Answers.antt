use Rattle.tb_duality.proofs.AcrossRefinements.{duality_across}
use Rattle.tb_duality.proofs.refinements.weak_duality_across_refinements.Goals as goal

pub returns : goal.returns
returns c = duality_across
