use Rattle.tb_conduct.proofs.Sets.{sets_sound}
use Rattle.tb_conduct.proofs.laws.sets_have_sound_intervals.Goals as goal

pub returns : goal.returns
returns c = sets_sound
