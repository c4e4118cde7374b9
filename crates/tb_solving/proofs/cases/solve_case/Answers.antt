use Rattle.std.proofs.Common.{◌∙◌, ap, subst, sym}
use Rattle.tb_case_records.specs.declared.case.CaseProof.{CaseProof}
use Rattle.tb_grid.specs.Grid.{Axes}
use Rattle.tb_solving.specs.Certified.{IsRightCase, case_with}
use Rattle.tb_solving.proofs.Right.{right}
use Rattle.tb_solving.proofs.cases.solve_case.Goals as goal

pub returns-in-Ok : goal.returns-in-Ok
returns-in-Ok c =
    subst (λ (x : CaseProof). IsRightCase c.args.body.now c.args.grid.now c.args.target c.args.mask x)
    (sym (c.case_with.ensures ∙ ap (λ (g : Axes). case_with c.args.mask g c.args.target.width c.in-Ok.found) c.in_ok-copy.ensures))
    (right c.args.body.now c.args.grid.now c.args.target c.args.mask c.in-Ok.found c.look_at.ensures.limits c.requires.carries c.look_at.ensures.grid
    c.look_at.ensures.on_x c.look_at.ensures.on_y c.look_at.ensures.on_z c.requires.width c.in-Ok.ensures.solution c.in-Ok.ensures.limits)
