use Rattle.std.proofs.Common.{◌≡◌, ◌∙◌, rules, subst, of_z, to_z}
use mir.Syntax.{w128}
use Rattle.tb_model.specs.Energy.{upper_end}
use Rattle.tb_field.specs.Fields.{field_on}
use Rattle.tb_moves.specs.Settings.{Setting, case_in, mesh_in}
use Rattle.tb_moves.proofs.setting.Setting.upper_end.Goals as goal

pub returns-clause-value : goal.returns-clause-value
returns-clause-value c =
    let whole : to_z w128 (of_z w128 c.upper_end.result) ≡ c.upper_end.result = search rules in
    subst (λ (v : Setting). to_z w128 (of_z w128 c.upper_end.result) ≡ upper_end (mesh_in v) (case_in v) (field_on v.grid c.args.field.now)) c.self.view_is (whole ∙ c.upper_end.ensures.value)
