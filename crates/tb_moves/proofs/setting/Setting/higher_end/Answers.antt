use Rattle.std.proofs.Common.{◌≡◌, ◌∙◌, ◌^◌, refl, rules, subst, of_z, to_z}
use mir.Syntax.{w128}
use Rattle.std.specs.Prelude.{pos, ◌<ℤ◌, IfSome, MatchOption, ℤ}
use Rattle.std.proofs.lemmas.Bool.{false≢true}
use Rattle.tb_model.specs.Energy.{flux_terms, lower_end, rounded_up}
use Rattle.tb_flux.specs.Fluxes.{flux_on}
use Rattle.tb_moves.specs.Sessions.{IsHigherThan}
use Rattle.tb_moves.specs.Settings.{Setting, case_in, mesh_in}
use Rattle.tb_moves.proofs.Offered.{higher_is, not_past, some_same}
use Rattle.tb_moves.proofs.setting.Setting.higher_end.Goals as goal

pub returns-in-Ok-clause-higher : goal.returns-in-Ok-clause-higher
returns-in-Ok-clause-higher c =
    let v : Setting = record { body = c.self.inside.body.now; grid = c.self.inside.grid.now; case = c.self.inside.case } in
    let end : to_z w128 (of_z w128 c.in-Ok.end) ≡ c.in-Ok.end = search rules in
    let other : to_z w128 (of_z w128 c.args.other) ≡ c.args.other = search rules in
    subst (λ (o : ℤ). MatchOption c.higher.result (¬ IsHigherThan c.args.self.now.body c.args.self.now.grid c.args.self.now.case o c.args.flux.now) (λ _. IsHigherThan c.args.self.now.body c.args.self.now.grid c.args.self.now.case o c.args.flux.now)) other
    (subst (λ (v : Setting). MatchOption c.higher.result (¬ IsHigherThan v.body v.grid v.case (to_z w128 (of_z w128 c.args.other)) c.args.flux.now) (λ _. IsHigherThan v.body v.grid v.case (to_z w128 (of_z w128 c.args.other)) c.args.flux.now)) c.self.view_is
    (higher_is v (to_z w128 (of_z w128 c.args.other)) (to_z w128 (of_z w128 c.in-Ok.end)) c.args.flux.now (c.is_balanced.ensures.0 c.if-not-is_balanced.false) (end ∙ c.in-Ok.ensures.value) (λ past. false≢true (c.in-Ok.ensures.past_limit.1 past)) c.higher.result c.higher.ensures.higher))

pub returns-in-Ok-clause-value : goal.returns-in-Ok-clause-value
returns-in-Ok-clause-value c =
    let end : to_z w128 (of_z w128 c.in-Ok.end) ≡ c.in-Ok.end = search rules in
    subst (λ (v : Setting). IfSome c.higher.result (λ e. e ≡ lower_end (mesh_in v) (case_in v) (flux_on v.grid c.args.flux.now))) c.self.view_is
    (some_same c.higher.result (to_z w128 (of_z w128 c.in-Ok.end)) _ (end ∙ c.in-Ok.ensures.value) c.higher.ensures.value)

pub returns-in-Err-clause-higher : goal.returns-in-Err-clause-higher
returns-in-Err-clause-higher c = λ h. not_past _ _ (subst (λ (v : Setting). pos (2 ^ 120) <ℤ rounded_up (mesh_in v) (flux_terms (mesh_in v) (flux_on v.grid c.args.flux.now))) c.self.view_is (c.in-Err.ensures.past_limit.0 refl)) h.within
