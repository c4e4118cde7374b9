use Rattle.std.proofs.Common.{take}
use Rattle.tb_solving.specs.Certified.{AreRightCases}
use Rattle.tb_solving.proofs.cases.solve_sets.Given as goal

abbrev pub invariant-loop-mask : goal.invariant-loop-mask
invariant-loop-mask l = AreRightCases l.body l.grid l.target (take l.mask-index l.masks) l.proofs.items
