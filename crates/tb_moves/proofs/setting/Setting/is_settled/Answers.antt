use Rattle.tb_moves.specs.Settings.{case_in, mesh_in}
use Rattle.tb_moves.proofs.OnTables.{field_there, flux_there}
use Rattle.tb_moves.proofs.setting.Setting.is_settled.Goals as goal

pub is_settled-requires-clause-field : goal.is_settled-requires-clause-field
is_settled-requires-clause-field c = field_there (mesh_in c.args.self.now) (case_in c.args.self.now) c.table.result c.table.ensures.counts c.table.ensures.of_mesh c.args.values.now c.requires.field

pub is_settled-requires-clause-flux : goal.is_settled-requires-clause-flux
is_settled-requires-clause-flux c = flux_there (mesh_in c.args.self.now) (case_in c.args.self.now) c.table.result c.table.ensures.counts c.table.ensures.of_mesh c.args.flows.now c.requires.flux

pub returns : goal.returns
returns c = c.is_settled.ensures (mesh_in c.args.self.now) (case_in c.args.self.now) c.table.ensures.of_mesh
