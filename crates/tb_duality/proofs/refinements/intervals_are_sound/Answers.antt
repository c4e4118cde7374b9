use Rattle.tb_duality.proofs.AcrossRefinements.{sound, in_order}
use Rattle.tb_duality.proofs.refinements.intervals_are_sound.Goals as goal

pub returns-clause-sound : goal.returns-clause-sound
returns-clause-sound c = sound

pub returns-clause-in_order : goal.returns-clause-in_order
returns-clause-in_order c = in_order
