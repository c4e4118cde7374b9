use Rattle.std.proofs.Common.{ap, arith}
use Rattle.std.proofs.lemmas.Int.{ints}
use lib.IntN.{pos}
use Rattle.tb_relax.specs.Tables.{flux_forms, table_counts, flow_on}
use Rattle.tb_weighted.proofs.Pulls.{flow_pulled_below, flow_rated_below}
use Rattle.tb_relax.proofs.table.Table.flow_below.Goals as goal

pub returns-else-i-eq0-clause-rate : goal.returns-else-i-eq0-clause-rate
unfolding flux_forms
returns-else-i-eq0-clause-rate c = flow_rated_below ((flux_forms c.args.self.now).cell c.args.axis) ((flux_forms c.args.self.now).face c.args.axis) ((flux_forms c.args.self.now).source c.args.axis) (flow_on (table_counts c.args.self.now) c.args.flows.now c.args.axis) c.args.j c.args.k c.args.i _ _ c.if-i-eq0.false c.pull_of.ensures.rate (ap pos c.cell_flux.ensures)

pub returns-else-i-eq0-clause-slope : goal.returns-else-i-eq0-clause-slope
unfolding flux_forms
returns-else-i-eq0-clause-slope c =
    let v = c.twice_and.ensures.value in
    let z = c.twice_and.ensures.size in
    let f = c.flow.ensures.size in
    flow_pulled_below ((flux_forms c.args.self.now).cell c.args.axis) ((flux_forms c.args.self.now).face c.args.axis) ((flux_forms c.args.self.now).source c.args.axis) (flow_on (table_counts c.args.self.now) c.args.flows.now c.args.axis) c.args.j c.args.k c.args.i _ _ _ c.args.here c.flow.result c.if-i-eq0.false c.pull_of.ensures.slope (ap pos c.cell_flux.ensures) (omega (arith, ints)) c.requires.here c.flow.ensures.value
