use Rattle.std.proofs.Common.{◌<◌, subst, sym}
use Rattle.tb_places.specs.Places.{Counts, node_count}
use Rattle.tb_moves.specs.Settings.{case_in, mesh_in}
use Rattle.tb_moves.proofs.OnTables.{field_here, field_there, node_moved}
use Rattle.tb_moves.proofs.setting.Setting.relax_node.Goals as goal

pub node_place-requires : goal.node_place-requires
node_place-requires c = subst (λ (n : Counts). c.args.node.0 < node_count n) (sym c.table-table.ensures.counts) c.requires.node

pub relax_node-requires-clause-field : goal.relax_node-requires-clause-field
relax_node-requires-clause-field c = field_there (mesh_in c.args.self.now) (case_in c.args.self.now) c.table-table.result c.table-table.ensures.counts c.table-table.ensures.of_mesh c.args.values.now c.requires.field

pub returns-clause-moved : goal.returns-clause-moved
returns-clause-moved c = node_moved (mesh_in c.args.self.now) (case_in c.args.self.now) c.table-table.result c.table-table.ensures.counts c.table-table.ensures.of_mesh c.args.node.0 c.node_place.result c.args.values.now c.relax_node.new.values c.node_place.ensures.place c.relax_node.ensures.moved

pub returns-clause-kept : goal.returns-clause-kept
returns-clause-kept c = field_here (mesh_in c.args.self.now) (case_in c.args.self.now) c.table-table.result c.table-table.ensures.counts c.table-table.ensures.of_mesh c.relax_node.new.values c.relax_node.ensures.kept
