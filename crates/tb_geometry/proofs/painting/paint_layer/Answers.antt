use Rattle.tb_grid.specs.Views.{along_axes}
use Rattle.tb_geometry.proofs.Painted.{one_row_more}
use Rattle.tb_geometry.proofs.painting.paint_layer.Goals as goal

pub loop-j-preserved : goal.loop-j-preserved
loop-j-preserved c =
    one_row_more (along_axes c.args.counts) c.args.range c.loop-j.j c.args.k c.args.number c.args.table.now c.loop-j.table c.fill.new.table
    c.requires.fits c.loop-j.auto.j c.loop-j-test.true c.requires.layer c.loop-j.invariant
    (rw (← c.cell_number-from.ensures.number) c.fill.ensures)
