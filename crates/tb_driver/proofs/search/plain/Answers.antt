use Rattle.tb_driver.proofs.Judged.{plain_in}
use Rattle.tb_driver.proofs.search.plain.Goals as goal

pub returns-clause-plain : goal.returns-clause-plain
returns-clause-plain c =
    plain_in c.args.body.now c.args.grid.now c.args.case _ _ c.in_ok-session.session c.make_plain.new.session c.in_ok-session.ensures c.args.sweeps c.judged.result
    c.make_plain.ensures.plain c.judged.ensures.state
