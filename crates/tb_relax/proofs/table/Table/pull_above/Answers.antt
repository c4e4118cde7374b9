use Rattle.std.proofs.Common.{ap, arith}
use Rattle.std.proofs.lemmas.Int.{ints}
use lib.IntN.{pos}
use Rattle.tb_relax.specs.Tables.{field_forms, table_counts, value_on}
use Rattle.tb_weighted.proofs.Pulls.{pulled_above, rated_above}
use Rattle.tb_relax.proofs.table.Table.pull_above.Goals as goal

pub returns-then-i-along-clause-rate : goal.returns-then-i-along-clause-rate
unfolding field_forms
returns-then-i-along-clause-rate c =
    rated_above ((field_forms c.args.self.now).cell c.args.axis) (value_on (table_counts c.args.self.now) c.args.values.now c.args.axis)
    c.args.q.own c.args.q.interval c.args.q.other c.args.r.own c.args.r.interval c.args.r.other c.requires.second_side c.requires.third_side
    (table_counts c.args.self.now c.args.axis) c.args.i _ _ (omega arith) c.pull_of.ensures.rate (ap pos c.cell_weight.ensures.weight)

pub returns-then-i-along-clause-slope : goal.returns-then-i-along-clause-slope
unfolding field_forms
returns-then-i-along-clause-slope c =
    pulled_above ((field_forms c.args.self.now).cell c.args.axis) (value_on (table_counts c.args.self.now) c.args.values.now c.args.axis)
    c.args.q.own c.args.q.interval c.args.q.other c.args.r.own c.args.r.interval c.args.r.other c.requires.second_side c.requires.third_side
    (table_counts c.args.self.now c.args.axis) c.args.i _ _ _ c.args.here c.stencil.result (omega arith) c.pull_of.ensures.slope (ap pos c.cell_weight.ensures.weight) (omega (arith, ints)) c.requires.here c.stencil.ensures.value
