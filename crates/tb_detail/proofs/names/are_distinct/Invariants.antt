use Rattle.tb_detail.proofs.Distinct.{AreNewBelow}
use Rattle.tb_detail.proofs.names.are_distinct.Given as goal

abbrev pub invariant-loop-place : goal.invariant-loop-place
invariant-loop-place g l = AreNewBelow g.T.Named.name_of l.things l.place
