use Rattle.tb_places.specs.declared.AxisName.{AxisName}
use Rattle.std.proofs.Common.{subst, ◌<◌, arith, ℕ}
use Rattle.tb_places.specs.Places.{second}
use Rattle.tb_weighted.specs.Forms.{line_near}
use Rattle.tb_relax.specs.Tables.{table_counts, rate_of_cells, rate_of_faces, slope_of_cells, slope_of_faces}
use Rattle.tb_weighted.proofs.Pulls.{as_behind, beside_above}
use Rattle.tb_relax.proofs.table.Table.line_above.Goals as goal

pub line_pull-requires-clause-second_side : goal.line_pull-requires-clause-second_side
line_pull-requires-clause-second_side c = beside_above c.args.j

pub returns-then-j-along-clause-rate : goal.returns-then-j-along-clause-rate
returns-then-j-along-clause-rate c = as_behind (λ (h : ℕ). line_near (table_counts c.args.self.now c.args.axis) (rate_of_cells c.args.self.now c.args.axis c.args.i c.args.j c.args.r.own) (rate_of_faces c.args.self.now c.args.axis c.args.i c.args.j c.args.r.own) c.args.i h c.args.r.interval) (table_counts c.args.self.now (second c.args.axis)) c.args.j _ (subst (λ (a : AxisName). c.args.j < table_counts c.args.self.now a) c.other_axes-second.ensures.second (omega arith)) c.line_pull.ensures.rate

pub returns-then-j-along-clause-slope : goal.returns-then-j-along-clause-slope
returns-then-j-along-clause-slope c = as_behind (λ (h : ℕ). line_near (table_counts c.args.self.now c.args.axis) (slope_of_cells c.args.self.now c.args.values.now c.args.axis c.args.i c.args.j c.args.r.own) (slope_of_faces c.args.self.now c.args.values.now c.args.axis c.args.i c.args.j c.args.r.own) c.args.i h c.args.r.interval) (table_counts c.args.self.now (second c.args.axis)) c.args.j _ (subst (λ (a : AxisName). c.args.j < table_counts c.args.self.now a) c.other_axes-second.ensures.second (omega arith)) c.line_pull.ensures.slope
