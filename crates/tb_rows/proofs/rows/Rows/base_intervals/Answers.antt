use Rattle.std.proofs.Common.{◌∙◌, ap, subst}
use Rattle.tb_grid.specs.Axis.{interval_count}
use Rattle.tb_grid.specs.Grid.{Axes, IsGrid}
use Rattle.tb_places.specs.declared.AxisName.TheVariants.{X}
use Rattle.tb_geometry.proofs.Tables.{base_lines_of}
use Rattle.tb_rows.proofs.rows.Rows.base_intervals.Goals as goal

pub returns-clause-count : goal.returns-clause-count
returns-clause-count c =
    c.intervals.ensures.intervals ∙ ap interval_count (c.axis.ensures.axis ∙ base_lines_of c.base.result.now c.args.self.now.body.now.boxes c.base.ensures.grid X)

pub returns-clause-grid : goal.returns-clause-grid
returns-clause-grid c = subst (λ (g : Axes). IsGrid g) c.base.ensures.grid c.axis.ensures.grid
