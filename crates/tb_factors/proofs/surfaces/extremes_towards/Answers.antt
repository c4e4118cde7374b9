use Rattle.std.proofs.Common.{add-one}
use Rattle.tb_factors.proofs.surfaces.extremes_towards.Goals as goal

pub loop-number-preserved : goal.loop-number-preserved
loop-number-preserved c = rw add-one (c.with_face-found.ensures _ c.loop-number.invariant)
