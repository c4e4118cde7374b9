use Rattle.std.proofs.Common.{ap, arith}
use Rattle.std.proofs.lemmas.Int.{ints}
use lib.IntN.{pos}
use Rattle.tb_relax.specs.Tables.{field_forms, table_counts, value_on}
use Rattle.tb_weighted.proofs.Pulls.{pulled_below, rated_below}
use Rattle.tb_relax.proofs.table.Table.pull_below.Goals as goal

pub returns-else-i-eq0-clause-rate : goal.returns-else-i-eq0-clause-rate
unfolding field_forms
returns-else-i-eq0-clause-rate c =
    rated_below ((field_forms c.args.self.now).cell c.args.axis) (value_on (table_counts c.args.self.now) c.args.values.now c.args.axis)
    c.args.q.own c.args.q.interval c.args.q.other c.args.r.own c.args.r.interval c.args.r.other c.requires.second_side c.requires.third_side
    c.args.i _ _ c.if-i-eq0.false c.pull_of.ensures.rate (ap pos c.cell_weight.ensures.weight)

pub returns-else-i-eq0-clause-slope : goal.returns-else-i-eq0-clause-slope
unfolding field_forms
returns-else-i-eq0-clause-slope c =
    pulled_below ((field_forms c.args.self.now).cell c.args.axis) (value_on (table_counts c.args.self.now) c.args.values.now c.args.axis)
    c.args.q.own c.args.q.interval c.args.q.other c.args.r.own c.args.r.interval c.args.r.other c.requires.second_side c.requires.third_side
    c.args.i _ _ _ c.args.here c.stencil.result c.if-i-eq0.false c.pull_of.ensures.slope (ap pos c.cell_weight.ensures.weight) (omega (arith, ints)) c.requires.here c.stencil.ensures.value
