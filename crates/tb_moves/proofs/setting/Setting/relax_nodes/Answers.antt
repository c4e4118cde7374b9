use Rattle.tb_moves.specs.Settings.{case_in, mesh_in}
use Rattle.tb_moves.proofs.OnTables.{field_here, field_there, nodes_moved}
use Rattle.tb_moves.proofs.setting.Setting.relax_nodes.Goals as goal

pub relax_nodes-requires-clause-field : goal.relax_nodes-requires-clause-field
relax_nodes-requires-clause-field c = field_there (mesh_in c.args.self.now) (case_in c.args.self.now) c.table.result c.table.ensures.counts c.table.ensures.of_mesh c.args.values.now c.requires.field

pub returns-clause-moved : goal.returns-clause-moved
returns-clause-moved c = nodes_moved (mesh_in c.args.self.now) (case_in c.args.self.now) c.table.result c.table.ensures.counts c.table.ensures.of_mesh c.args.values.now c.relax_nodes.new.values c.relax_nodes.result c.relax_nodes.ensures.moved

pub returns-clause-kept : goal.returns-clause-kept
returns-clause-kept c = field_here (mesh_in c.args.self.now) (case_in c.args.self.now) c.table.result c.table.ensures.counts c.table.ensures.of_mesh c.relax_nodes.new.values c.relax_nodes.ensures.kept
