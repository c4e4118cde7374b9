use Rattle.std.proofs.Common.{subst}
use Rattle.tb_relax.specs.Tables.{table_counts}
use Rattle.tb_moves.specs.Settings.{KeepsSetting, Setting, case_in, mesh_in}
use Rattle.tb_moves.proofs.OnTables.{flux_here, flux_there}
use Rattle.tb_moves.proofs.OnTrees.{counts_there, face_there, table_there, turn_here}
use Rattle.tb_moves.proofs.setting.Setting.turn_cycle.Goals as goal

pub relax_face-requires-clause-flux : goal.relax_face-requires-clause-flux
relax_face-requires-clause-flux c = flux_there (mesh_in c.args.self.now) (case_in c.args.self.now) c.table-table.result c.table-table.ensures.counts c.table-table.ensures.of_mesh c.args.flows.now c.requires.flux

pub relax_face-requires-clause-counts : goal.relax_face-requires-clause-counts
relax_face-requires-clause-counts c =
    let keeps = subst (λ (s : Setting). KeepsSetting s c.self.inside.tables c.self.inside.tree) c.self.view_is c.self.invariant in
    counts_there c.args.self.now c.self.inside.tree keeps.outlets (table_counts c.table-table.result) c.table-table.ensures.counts

pub relax_face-requires-clause-face : goal.relax_face-requires-clause-face
relax_face-requires-clause-face c =
    let keeps = subst (λ (s : Setting). KeepsSetting s c.self.inside.tables c.self.inside.tree) c.self.view_is c.self.invariant in
    face_there c.args.self.now c.self.inside.tree keeps.outlets c.args.face.0 c.requires.face

pub returns-clause-moved : goal.returns-clause-moved
returns-clause-moved c =
    let keeps = subst (λ (s : Setting). KeepsSetting s c.self.inside.tables c.self.inside.tree) c.self.view_is c.self.invariant in
    turn_here c.args.self.now c.self.inside.tree keeps.outlets c.args.face.0 c.args.flows.now c.relax_face.new.flows (c.relax_face.ensures.moved (case_in c.args.self.now) (table_there c.args.self.now c.self.inside.tree keeps.outlets c.table-table.result c.table-table.ensures.of_mesh))

pub returns-clause-kept : goal.returns-clause-kept
returns-clause-kept c = flux_here (mesh_in c.args.self.now) (case_in c.args.self.now) c.table-table.result c.table-table.ensures.counts c.table-table.ensures.of_mesh c.relax_face.new.flows c.relax_face.ensures.kept
