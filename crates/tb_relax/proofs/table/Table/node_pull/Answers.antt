use Rattle.tb_weighted.specs.Forms.{values_of}
use Rattle.tb_relax.specs.Tables.{field_forms, table_counts}
use Rattle.tb_weighted.proofs.Pulls.{whole_rate, whole_slope}
use Rattle.tb_relax.proofs.table.Table.node_pull.Goals as goal

pub returns-clause-rate : goal.returns-clause-rate
returns-clause-rate c = whole_rate (field_forms c.args.self.now) c.args.node.i c.args.node.j c.args.node.k _ _ _ _ _ c.both-across.ensures.rate c.both.ensures.rate c.axis_pull-x.ensures.rate c.axis_pull-y.ensures.rate c.axis_pull-z.ensures.rate

pub returns-clause-slope : goal.returns-clause-slope
returns-clause-slope c = whole_slope (field_forms c.args.self.now) (values_of (table_counts c.args.self.now) c.args.values.now) c.args.node.i c.args.node.j c.args.node.k _ _ _ _ _ c.both-across.ensures.slope c.both.ensures.slope c.axis_pull-x.ensures.slope c.axis_pull-y.ensures.slope c.axis_pull-z.ensures.slope
