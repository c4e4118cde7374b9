use Rattle.std.proofs.Common.{◌∙◌}
use Rattle.tb_driver.proofs.Plain.{made_for, still_alike}
use Rattle.tb_driver.proofs.rounds.make_series.Goals as goal

pub loop-round-preserved : goal.loop-round-preserved
loop-round-preserved c = record {
  alike = still_alike c.args.session.now c.loop-round.session c.make_round.new.session c.loop-round.invariant.alike c.make_round.ensures.alike;
  same = c.make_round.ensures.work ∙ c.loop-round.invariant.same;
  made = made_for c.loop-round.session c.make_round.new.session c.loop-round.work c.make_round.new.work c.loop-round.invariant.made c.make_round.ensures.alike c.make_round.ensures.work;
}
