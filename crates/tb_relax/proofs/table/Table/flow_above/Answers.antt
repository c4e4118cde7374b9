use Rattle.std.proofs.Common.{ap, arith}
use Rattle.std.proofs.lemmas.Int.{ints}
use lib.IntN.{pos}
use Rattle.tb_relax.specs.Tables.{flux_forms, table_counts, flow_on}
use Rattle.tb_weighted.proofs.Pulls.{flow_pulled_above, flow_rated_above}
use Rattle.tb_relax.proofs.table.Table.flow_above.Goals as goal

pub returns-then-i-along-clause-rate : goal.returns-then-i-along-clause-rate
unfolding flux_forms
returns-then-i-along-clause-rate c = flow_rated_above ((flux_forms c.args.self.now).cell c.args.axis) ((flux_forms c.args.self.now).face c.args.axis) ((flux_forms c.args.self.now).source c.args.axis) (flow_on (table_counts c.args.self.now) c.args.flows.now c.args.axis) c.args.j c.args.k (table_counts c.args.self.now c.args.axis) c.args.i _ _ (omega arith) c.pull_of.ensures.rate (ap pos c.cell_flux.ensures)

pub returns-then-i-along-clause-slope : goal.returns-then-i-along-clause-slope
unfolding flux_forms
returns-then-i-along-clause-slope c =
    let v = c.twice_and.ensures.value in
    let z = c.twice_and.ensures.size in
    let f = c.flow.ensures.size in
    flow_pulled_above ((flux_forms c.args.self.now).cell c.args.axis) ((flux_forms c.args.self.now).face c.args.axis) ((flux_forms c.args.self.now).source c.args.axis) (flow_on (table_counts c.args.self.now) c.args.flows.now c.args.axis) c.args.j c.args.k (table_counts c.args.self.now c.args.axis) c.args.i _ _ _ c.args.here c.flow.result (omega arith) c.pull_of.ensures.slope (ap pos c.cell_flux.ensures) (omega (arith, ints)) c.requires.here c.flow.ensures.value
