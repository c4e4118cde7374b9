use Rattle.tb_grid.specs.Views.{along_axes}
use Rattle.tb_walk.proofs.Spreads.{all_spread}
use Rattle.tb_walk.proofs.spreading.spread.Goals as goal

pub returns-clause-walk : goal.returns-clause-walk
returns-clause-walk c = all_spread (along_axes c.args.cell.counts) c.args.marked.now c.args.cell.cell.0 _ _ _ _ _ _ _ _
    c.in_ok-spread_along.ensures c.in_ok-spread_along-2.ensures c.in_ok-spread_along-3.ensures
