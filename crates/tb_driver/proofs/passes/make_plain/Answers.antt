use Rattle.std.proofs.Common.{arith, ◌≤◌}
use Rattle.tb_driver.proofs.Plain.{no_more, one_more, still_alike}
use Rattle.tb_driver.proofs.passes.make_plain.Goals as goal

pub returns-then-not-pass-clause-plain : goal.returns-then-not-pass-clause-plain
returns-then-not-pass-clause-plain c =
    let early : c.loop-sweep._sweep ≤ c.args.sweeps = omega arith in
    no_more c.args.session.now c.loop-sweep.session c.pass.new.self c.args.sweeps c.loop-sweep._sweep c.pass.result early c.loop-sweep.invariant.alike
    c.loop-sweep.invariant.plain c.pass.ensures.moved (c.pass.ensures.stays c.if-not-pass.true)

pub loop-sweep-preserved : goal.loop-sweep-preserved
loop-sweep-preserved c = record {
  alike = still_alike c.args.session.now c.loop-sweep.session c.pass.new.self c.loop-sweep.invariant.alike c.pass.ensures.alike;
  plain = one_more c.args.session.now c.loop-sweep.session c.pass.new.self c.loop-sweep._sweep c.pass.result c.loop-sweep.invariant.alike
      c.loop-sweep.invariant.plain c.pass.ensures.moved;
}
