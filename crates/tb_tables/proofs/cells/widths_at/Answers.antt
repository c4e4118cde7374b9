use Rattle.std.proofs.Common.{sym, subst, ℕ}
use Rattle.tb_places.specs.declared.AxisName.TheVariants.{X, Y, Z}
use Rattle.tb_terms.specs.Limits.{IsWidth}
use Rattle.tb_rows.proofs.Grids.{width_fits}
use Rattle.tb_tables.proofs.cells.widths_at.Goals as goal

pub returns-clause-x_fits : goal.returns-clause-x_fits
returns-clause-x_fits c = subst (λ (w : ℕ). IsWidth w) (sym c.cell_width.ensures.width) (width_fits c.args.body.now c.args.grid.now c.requires.limits c.requires.carries X c.args.place.i c.requires.place.0)

pub returns-clause-y_fits : goal.returns-clause-y_fits
returns-clause-y_fits c = subst (λ (w : ℕ). IsWidth w) (sym c.cell_width-2.ensures.width) (width_fits c.args.body.now c.args.grid.now c.requires.limits c.requires.carries Y c.args.place.j c.requires.place.1)

pub returns-clause-z_fits : goal.returns-clause-z_fits
returns-clause-z_fits c = subst (λ (w : ℕ). IsWidth w) (sym c.cell_width-3.ensures.width) (width_fits c.args.body.now c.args.grid.now c.requires.limits c.requires.carries Z c.args.place.k c.requires.place.2)
