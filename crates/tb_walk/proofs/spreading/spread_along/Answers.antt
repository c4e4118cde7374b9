use Rattle.tb_grid.specs.Views.{along_axes}
use Rattle.tb_walk.proofs.Spreads.{both_visited}
use Rattle.tb_walk.proofs.spreading.spread_along.Goals as goal

pub returns : goal.returns
returns c = both_visited (along_axes c.args.cell.counts) c.args.marked.now c.args.cell.cell.0 c.args.axis c.before-2.result c.after.result
    c.args.reached.now c.args.work.now.items c.visit.new.reached c.visit.new.work.items c.visit-2.new.reached c.visit-2.new.work.items
    c.requires.walk c.requires.here c.before-2.ensures c.after.ensures c.in_ok-visit.ensures c.in_ok-visit-2.ensures
