use Rattle.std.proofs.Common.{◌≡◌}
use Rattle.tb_moves.specs.Sessions.{AreAlike}
use Rattle.tb_rounds.specs.Rounds.{site_of}
use Rattle.tb_driver.proofs.rounds.make_series.Given as goal

abbrev pub invariant-loop-round : goal.invariant-loop-round
invariant-loop-round l = record {
  alike : AreAlike l.fn.session l.session;
  same : l.work ≡ l.fn.work;
  made : l.work ≡ site_of l.session;
}
