use Rattle.std.proofs.Common.{subst}
use Rattle.tb_moves.specs.Settings.{KeepsSetting, Setting, case_in, mesh_in}
use Rattle.tb_moves.proofs.setting.Setting.table.Goals as goal

pub returns-clause-sound : goal.returns-clause-sound
returns-clause-sound c =
    let keeps = subst (λ (s : Setting). KeepsSetting s c.self.inside.tables c.self.inside.tree) c.self.view_is c.self.invariant in
    c.table.ensures.sound (mesh_in c.args.self.now) (case_in c.args.self.now) keeps.tables

pub returns-clause-counts : goal.returns-clause-counts
returns-clause-counts c =
    let keeps = subst (λ (s : Setting). KeepsSetting s c.self.inside.tables c.self.inside.tree) c.self.view_is c.self.invariant in
    c.table.ensures.counts (mesh_in c.args.self.now) (case_in c.args.self.now) keeps.tables

pub returns-clause-of_mesh : goal.returns-clause-of_mesh
returns-clause-of_mesh c =
    let keeps = subst (λ (s : Setting). KeepsSetting s c.self.inside.tables c.self.inside.tree) c.self.view_is c.self.invariant in
    c.table.ensures.of_mesh (mesh_in c.args.self.now) (case_in c.args.self.now) keeps.tables
