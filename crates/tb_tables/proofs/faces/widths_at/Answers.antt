use Rattle.std.proofs.Common.{sym, subst, ap, ◌∙◌, ℕ}
use Rattle.tb_places.specs.declared.AxisName.{AxisName}
use Rattle.tb_grid.specs.Direction.{width_of}
use Rattle.tb_terms.specs.Limits.{IsWidth}
use Rattle.tb_tables.proofs.FaceRows.{second_fits, third_fits}
use Rattle.tb_tables.proofs.faces.widths_at.Goals as goal

pub returns-clause-b_fits : goal.returns-clause-b_fits
returns-clause-b_fits c = subst (λ (w : ℕ). IsWidth w) (sym (c.cell_width.ensures.width ∙ ap (λ (a : AxisName). width_of c.args.grid.now a c.args.face.place) c.other_axes-b.ensures.second))
    (second_fits c.args.body.now c.args.grid.now c.requires.limits c.requires.carries c.args.face.axis c.args.face.place c.requires.face)

pub returns-clause-c_fits : goal.returns-clause-c_fits
returns-clause-c_fits c = subst (λ (w : ℕ). IsWidth w) (sym (c.cell_width-2.ensures.width ∙ ap (λ (a : AxisName). width_of c.args.grid.now a c.args.face.place) c.other_axes-b.ensures.third))
    (third_fits c.args.body.now c.args.grid.now c.requires.limits c.requires.carries c.args.face.axis c.args.face.place c.requires.face)
