use Rattle.std.proofs.Common.{◌∙◌, ap, subst, sym, ℤ, pos, ◌-ℤ◌, ◌≤ℤ◌}
use Rattle.tb_field.specs.Fields.{field_on}
use Rattle.tb_flux.specs.Fluxes.{flux_on}
use Rattle.tb_geometry.specs.Grids.{mesh_on}
use Rattle.tb_model.specs.Energy.{upper_end}
use Rattle.tb_model.specs.Values.{case_of}
use Rattle.tb_duality.proofs.BodyEnds.{gap_not_below_zero}
use Rattle.tb_duality.proofs.Stored.{difference_stored}
use Rattle.tb_duality.proofs.gaps.gap.Goals as goal

pub returns-clause-value : goal.returns-clause-value
returns-clause-value c =
    let a = c.args in let inside = case_of a.case.mask in
    let hi = c.upper_end-hi in let lo = c.in_ok-lo in
    difference_stored hi.result lo.lo hi.ensures.size lo.ensures.size
    ∙ ap (λ (z : ℤ). z -ℤ lo.lo) hi.ensures.value
    ∙ ap (λ (z : ℤ). upper_end (mesh_on a.body.now a.field_grid.now) inside (field_on a.field_grid.now a.field.now) -ℤ z) lo.ensures.value

pub returns-clause-not_negative : goal.returns-clause-not_negative
returns-clause-not_negative c balanced =
    let a = c.args in let r = c.requires in
    subst (λ (z : ℤ). pos 0 ≤ℤ z) (sym (returns-clause-value c))
    (gap_not_below_zero a.body.now c.base-base.ensures.limits a.field_grid.now a.flux_grid.now (case_of a.case.mask) (field_on a.field_grid.now a.field.now)
    (flux_on a.flux_grid.now a.flux.now) r.field_carries r.flux_carries balanced)
