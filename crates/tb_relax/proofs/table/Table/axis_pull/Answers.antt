use Rattle.std.proofs.Common.{sym, ◌∙◌}
use Rattle.tb_relax.specs.Tables.{field_forms, table_counts, value_on}
use Rattle.tb_weighted.proofs.Pulls.{sum_of, axis_rates, axis_slopes}
use Rattle.tb_relax.proofs.table.Table.axis_pull.Goals as goal

pub returns-clause-rate : goal.returns-clause-rate
unfolding field_forms
returns-clause-rate c = sum_of _ _ _ _ _ c.both.ensures.rate c.layer_below-below.ensures.rate c.layer_above-above.ensures.rate ∙ sym (axis_rates (field_forms c.args.self.now) c.args.axis c.args.i c.args.j c.args.k c.requires.along c.requires.second c.requires.third)

pub returns-clause-slope : goal.returns-clause-slope
unfolding field_forms
returns-clause-slope c = sum_of _ _ _ _ _ c.both.ensures.slope c.layer_below-below.ensures.slope c.layer_above-above.ensures.slope ∙ sym (axis_slopes (field_forms c.args.self.now) (value_on (table_counts c.args.self.now) c.args.values.now c.args.axis) c.args.axis c.args.i c.args.j c.args.k c.requires.along c.requires.second c.requires.third)
