use Rattle.std.proofs.Common.{◌≡◌}
use Rattle.tb_moves.specs.Sessions.{AreAlike}
use Rattle.tb_rounds.specs.Rounds.{site_of}
use Rattle.tb_driver.proofs.rounds.make_all.Given as goal

abbrev pub invariant-loop-series : goal.invariant-loop-series
invariant-loop-series l = record {
  alike : AreAlike l.fn.session l.session;
  made : l.work ≡ site_of l.session;
}
