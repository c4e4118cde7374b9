use Rattle.std.proofs.Common.{ℕ}
use Rattle.tb_places.specs.Places.{second}
use Rattle.tb_weighted.specs.Forms.{layer_near}
use Rattle.tb_relax.specs.Tables.{table_counts, rate_of_cells, rate_of_faces, slope_of_cells, slope_of_faces}
use Rattle.tb_weighted.proofs.Pulls.{as_before, beside_below}
use Rattle.tb_relax.proofs.table.Table.layer_below.Goals as goal

pub layer_pull-requires-clause-third_side : goal.layer_pull-requires-clause-third_side
layer_pull-requires-clause-third_side c = beside_below c.args.k c.if-k-eq0.false

pub returns-else-k-eq0-clause-rate : goal.returns-else-k-eq0-clause-rate
returns-else-k-eq0-clause-rate c = as_before (λ (h : ℕ). layer_near (table_counts c.args.self.now c.args.axis) (table_counts c.args.self.now (second c.args.axis)) (rate_of_cells c.args.self.now c.args.axis c.args.i c.args.j c.args.k) (rate_of_faces c.args.self.now c.args.axis c.args.i c.args.j c.args.k) c.args.i c.args.j h) c.args.k _ c.if-k-eq0.false c.layer_pull.ensures.rate

pub returns-else-k-eq0-clause-slope : goal.returns-else-k-eq0-clause-slope
returns-else-k-eq0-clause-slope c = as_before (λ (h : ℕ). layer_near (table_counts c.args.self.now c.args.axis) (table_counts c.args.self.now (second c.args.axis)) (slope_of_cells c.args.self.now c.args.values.now c.args.axis c.args.i c.args.j c.args.k) (slope_of_faces c.args.self.now c.args.values.now c.args.axis c.args.i c.args.j c.args.k) c.args.i c.args.j h) c.args.k _ c.if-k-eq0.false c.layer_pull.ensures.slope
