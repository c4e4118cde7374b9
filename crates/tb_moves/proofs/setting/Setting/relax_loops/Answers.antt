use Rattle.tb_moves.specs.Settings.{case_in, mesh_in}
use Rattle.tb_moves.proofs.OnTables.{flux_here, flux_there, loops_moved}
use Rattle.tb_moves.proofs.setting.Setting.relax_loops.Goals as goal

pub relax_loops-requires-clause-flux : goal.relax_loops-requires-clause-flux
relax_loops-requires-clause-flux c = flux_there (mesh_in c.args.self.now) (case_in c.args.self.now) c.table.result c.table.ensures.counts c.table.ensures.of_mesh c.args.flows.now c.requires.flux

pub returns-clause-moved : goal.returns-clause-moved
returns-clause-moved c = loops_moved (mesh_in c.args.self.now) (case_in c.args.self.now) c.table.result c.table.ensures.counts c.table.ensures.of_mesh c.args.flows.now c.relax_loops.new.flows c.relax_loops.result c.relax_loops.ensures.moved

pub returns-clause-kept : goal.returns-clause-kept
returns-clause-kept c = flux_here (mesh_in c.args.self.now) (case_in c.args.self.now) c.table.result c.table.ensures.counts c.table.ensures.of_mesh c.relax_loops.new.flows c.relax_loops.ensures.kept
