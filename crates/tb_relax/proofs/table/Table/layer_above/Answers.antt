use Rattle.tb_places.specs.declared.AxisName.{AxisName}
use Rattle.std.proofs.Common.{subst, ◌<◌, arith, ℕ}
use Rattle.tb_places.specs.Places.{second, third}
use Rattle.tb_weighted.specs.Forms.{layer_near}
use Rattle.tb_relax.specs.Tables.{table_counts, rate_of_cells, rate_of_faces, slope_of_cells, slope_of_faces}
use Rattle.tb_weighted.proofs.Pulls.{as_behind, beside_above}
use Rattle.tb_relax.proofs.table.Table.layer_above.Goals as goal

pub layer_pull-requires-clause-third_side : goal.layer_pull-requires-clause-third_side
layer_pull-requires-clause-third_side c = beside_above c.args.k

pub returns-then-k-along-clause-rate : goal.returns-then-k-along-clause-rate
returns-then-k-along-clause-rate c = as_behind (λ (h : ℕ). layer_near (table_counts c.args.self.now c.args.axis) (table_counts c.args.self.now (second c.args.axis)) (rate_of_cells c.args.self.now c.args.axis c.args.i c.args.j c.args.k) (rate_of_faces c.args.self.now c.args.axis c.args.i c.args.j c.args.k) c.args.i c.args.j h) (table_counts c.args.self.now (third c.args.axis)) c.args.k _ (subst (λ (a : AxisName). c.args.k < table_counts c.args.self.now a) c.other_axes-third.ensures.third (omega arith)) c.layer_pull.ensures.rate

pub returns-then-k-along-clause-slope : goal.returns-then-k-along-clause-slope
returns-then-k-along-clause-slope c = as_behind (λ (h : ℕ). layer_near (table_counts c.args.self.now c.args.axis) (table_counts c.args.self.now (second c.args.axis)) (slope_of_cells c.args.self.now c.args.values.now c.args.axis c.args.i c.args.j c.args.k) (slope_of_faces c.args.self.now c.args.values.now c.args.axis c.args.i c.args.j c.args.k) c.args.i c.args.j h) (table_counts c.args.self.now (third c.args.axis)) c.args.k _ (subst (λ (a : AxisName). c.args.k < table_counts c.args.self.now a) c.other_axes-third.ensures.third (omega arith)) c.layer_pull.ensures.slope
