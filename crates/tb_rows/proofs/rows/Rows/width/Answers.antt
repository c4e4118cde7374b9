use Rattle.tb_rows.proofs.Grids.{width_fits}
use Rattle.tb_rows.proofs.rows.Rows.width.Goals as goal

pub returns-clause-fits : goal.returns-clause-fits
returns-clause-fits c =
    let f = c.args.self.now in let h = c.requires.rows in
    rw (c.width.ensures.width, c.axis.ensures.axis) (width_fits f.body.now f.grid.now h.limits h.carries c.args.axis c.args.i c.requires.within)
