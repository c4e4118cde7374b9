use Rattle.tb_duality.proofs.EndLaws.{sound_on}
use Rattle.tb_duality.proofs.intervals_are_sound_on_their_refinement.Goals as goal

pub returns : goal.returns
returns c = sound_on
