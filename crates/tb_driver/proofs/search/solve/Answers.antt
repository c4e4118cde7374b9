use Rattle.tb_driver.proofs.Narrower.{chosen, chosen_limits}
use Rattle.tb_driver.proofs.search.solve.Goals as goal

pub returns-in-Ok-clause-solution : goal.returns-in-Ok-clause-solution
returns-in-Ok-clause-solution c =
    chosen c.args.body.now c.args.grid.now c.args.case.mask c.args.width c.args.sweeps c.in_ok-found.found c.in-Ok.plain
    c.in_ok-found.ensures c.in-Ok.ensures.candidate c.in-Ok.ensures.plain c.narrower.result c.narrower.ensures

pub returns-in-Ok-clause-limits : goal.returns-in-Ok-clause-limits
returns-in-Ok-clause-limits c =
    chosen_limits c.args.body.now c.args.grid.now c.args.case.mask c.args.width c.args.sweeps c.in_ok-found.found c.in-Ok.plain
    c.in_ok-found.ensures c.in-Ok.ensures.candidate c.in-Ok.ensures.plain c.narrower.result c.narrower.ensures
