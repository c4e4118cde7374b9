use Rattle.std.proofs.Common.{subst}
use Rattle.tb_relax.specs.Tables.{table_counts}
use Rattle.tb_moves.specs.Settings.{KeepsSetting, Setting, case_in, mesh_in}
use Rattle.tb_moves.specs.Moves.{CyclesStay}
use Rattle.tb_moves.proofs.OnTables.{flux_there}
use Rattle.tb_moves.proofs.OnTrees.{counts_there, none_moves, some_unsettles, stay_here, table_there}
use Rattle.tb_moves.proofs.setting.Setting.cycles_stay.Goals as goal

pub some_cycle_moves-requires-clause-flux : goal.some_cycle_moves-requires-clause-flux
some_cycle_moves-requires-clause-flux c = flux_there (mesh_in c.args.self.now) (case_in c.args.self.now) c.table-table.result c.table-table.ensures.counts c.table-table.ensures.of_mesh c.args.flows.now c.requires.flux

pub some_cycle_moves-requires-clause-counts : goal.some_cycle_moves-requires-clause-counts
some_cycle_moves-requires-clause-counts c =
    let keeps = subst (λ (s : Setting). KeepsSetting s c.self.inside.tables c.self.inside.tree) c.self.view_is c.self.invariant in
    counts_there c.args.self.now c.self.inside.tree keeps.outlets (table_counts c.table-table.result) c.table-table.ensures.counts

pub returns : goal.returns
returns c =
    let keeps = subst (λ (s : Setting). KeepsSetting s c.self.inside.tables c.self.inside.tree) c.self.view_is c.self.invariant in
    let of = table_there c.args.self.now c.self.inside.tree keeps.outlets c.table-table.result c.table-table.ensures.of_mesh in
    none_moves c.some_cycle_moves.result (CyclesStay (mesh_in c.args.self.now) (case_in c.args.self.now) c.args.flows.now)
    (λ f. stay_here c.args.self.now c.self.inside.tree keeps.outlets c.args.flows.now c.ways.result.marks.now c.ways.result.sides.now c.ways.ensures c.requires.flux (c.some_cycle_moves.ensures.stay f (case_in c.args.self.now) of))
    (λ t stay. some_unsettles c.args.self.now c.self.inside.tree keeps.outlets c.args.flows.now (c.some_cycle_moves.ensures.moves t (case_in c.args.self.now) of) stay)
