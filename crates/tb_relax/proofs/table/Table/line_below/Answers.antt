use Rattle.std.proofs.Common.{ℕ}
use Rattle.tb_weighted.specs.Forms.{line_near}
use Rattle.tb_relax.specs.Tables.{table_counts, rate_of_cells, rate_of_faces, slope_of_cells, slope_of_faces}
use Rattle.tb_weighted.proofs.Pulls.{as_before, beside_below}
use Rattle.tb_relax.proofs.table.Table.line_below.Goals as goal

pub line_pull-requires-clause-second_side : goal.line_pull-requires-clause-second_side
line_pull-requires-clause-second_side c = beside_below c.args.j c.if-j-eq0.false

pub returns-else-j-eq0-clause-rate : goal.returns-else-j-eq0-clause-rate
returns-else-j-eq0-clause-rate c = as_before (λ (h : ℕ). line_near (table_counts c.args.self.now c.args.axis) (rate_of_cells c.args.self.now c.args.axis c.args.i c.args.j c.args.r.own) (rate_of_faces c.args.self.now c.args.axis c.args.i c.args.j c.args.r.own) c.args.i h c.args.r.interval) c.args.j _ c.if-j-eq0.false c.line_pull.ensures.rate

pub returns-else-j-eq0-clause-slope : goal.returns-else-j-eq0-clause-slope
returns-else-j-eq0-clause-slope c = as_before (λ (h : ℕ). line_near (table_counts c.args.self.now c.args.axis) (slope_of_cells c.args.self.now c.args.values.now c.args.axis c.args.i c.args.j c.args.r.own) (slope_of_faces c.args.self.now c.args.values.now c.args.axis c.args.i c.args.j c.args.r.own) c.args.i h c.args.r.interval) c.args.j _ c.if-j-eq0.false c.line_pull.ensures.slope
