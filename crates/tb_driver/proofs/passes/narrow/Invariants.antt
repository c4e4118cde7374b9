use Rattle.tb_moves.specs.Sessions.{AreAlike}
use Rattle.tb_driver.proofs.passes.narrow.Given as goal

abbrev pub invariant-loop-sweep : goal.invariant-loop-sweep
invariant-loop-sweep l = AreAlike l.fn.session l.session
