use Rattle.std.proofs.Common.{◌≡◌, ◌∙◌, ◌^◌, refl, rules, subst, of_z, to_z}
use mir.Syntax.{w128}
use Rattle.std.specs.Prelude.{pos, ◌<ℤ◌}
use Rattle.tb_model.specs.Energy.{flux_terms, lower_end, rounded_up}
use Rattle.tb_flux.specs.Fluxes.{flux_on}
use Rattle.tb_moves.specs.Settings.{Setting, case_in, mesh_in}
use Rattle.tb_moves.proofs.Offered.{not_past}
use Rattle.tb_moves.proofs.setting.Setting.sure_lower_end.Goals as goal

pub unreachable-requires : goal.unreachable-requires
unreachable-requires c = not_past _ _ (subst (λ (v : Setting). pos (2 ^ 120) <ℤ rounded_up (mesh_in v) (flux_terms (mesh_in v) (flux_on v.grid c.args.flux.now))) c.self.view_is (c.in-Err.ensures.past_limit.0 refl)) c.requires.within

pub returns-clause-value : goal.returns-clause-value
returns-clause-value c =
    let whole : to_z w128 (of_z w128 c.in-Ok.end) ≡ c.in-Ok.end = search rules in
    subst (λ (v : Setting). to_z w128 (of_z w128 c.in-Ok.end) ≡ lower_end (mesh_in v) (case_in v) (flux_on v.grid c.args.flux.now)) c.self.view_is (whole ∙ c.in-Ok.ensures.value)
