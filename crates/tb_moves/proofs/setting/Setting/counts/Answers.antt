use Rattle.std.proofs.Common.{subst}
use Rattle.tb_moves.specs.Settings.{KeepsSetting, Setting}
use Rattle.tb_moves.proofs.setting.Setting.counts.Goals as goal

pub returns : goal.returns
returns c =
    let keeps = subst (λ (s : Setting). KeepsSetting s c.self.inside.tables c.self.inside.tree) c.self.view_is c.self.invariant in
    keeps.tables.counts
