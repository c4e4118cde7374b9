use Rattle.std.proofs.Common.{subst}
use Rattle.tb_relax.specs.Tables.{table_counts}
use Rattle.tb_moves.specs.Settings.{KeepsSetting, Setting, case_in, mesh_in}
use Rattle.tb_moves.proofs.OnTables.{flux_here, flux_there}
use Rattle.tb_moves.proofs.OnTrees.{counts_there, table_there, turns_here}
use Rattle.tb_moves.proofs.setting.Setting.turn_cycles.Goals as goal

pub relax_cycles-requires-clause-flux : goal.relax_cycles-requires-clause-flux
relax_cycles-requires-clause-flux c = flux_there (mesh_in c.args.self.now) (case_in c.args.self.now) c.table-table.result c.table-table.ensures.counts c.table-table.ensures.of_mesh c.args.flows.now c.requires.flux

pub relax_cycles-requires-clause-counts : goal.relax_cycles-requires-clause-counts
relax_cycles-requires-clause-counts c =
    let keeps = subst (λ (s : Setting). KeepsSetting s c.self.inside.tables c.self.inside.tree) c.self.view_is c.self.invariant in
    counts_there c.args.self.now c.self.inside.tree keeps.outlets (table_counts c.table-table.result) c.table-table.ensures.counts

pub returns-clause-moved : goal.returns-clause-moved
returns-clause-moved c =
    let keeps = subst (λ (s : Setting). KeepsSetting s c.self.inside.tables c.self.inside.tree) c.self.view_is c.self.invariant in
    turns_here c.args.self.now c.self.inside.tree keeps.outlets c.args.flows.now c.relax_cycles.new.flows c.relax_cycles.result (c.relax_cycles.ensures.moved (case_in c.args.self.now) (table_there c.args.self.now c.self.inside.tree keeps.outlets c.table-table.result c.table-table.ensures.of_mesh))

pub returns-clause-kept : goal.returns-clause-kept
returns-clause-kept c = flux_here (mesh_in c.args.self.now) (case_in c.args.self.now) c.table-table.result c.table-table.ensures.counts c.table-table.ensures.of_mesh c.relax_cycles.new.flows c.relax_cycles.ensures.kept
