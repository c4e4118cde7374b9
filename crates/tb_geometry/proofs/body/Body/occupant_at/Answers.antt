use Rattle.std.proofs.Common.{subst, sym}
use Rattle.tb_detail.specs.declared.Detail.{Detail}
use Rattle.tb_geometry.specs.Base.{IsBaseCell}
use Rattle.tb_geometry.specs.Grids.{CarriesBody, LiesInBaseCell}
use Rattle.tb_geometry.proofs.Finer.{cell_between, lies_along, lies_in_base}
use Rattle.tb_geometry.proofs.body.Body.occupant_at.Goals as goal

pub base_place-requires-clause-between : goal.base_place-requires-clause-between
base_place-requires-clause-between c =
    cell_between c.self.inside.detail.value c.args.grid.now c.self.inside.base c.self.invariant.lines
    (subst (λ (d : Detail). CarriesBody c.args.grid.now d) (sym c.self.view_is) c.requires.carries) c.args.cell c.requires.cell

pub filling-requires : goal.filling-requires
filling-requires c =
    let d = c.self.inside.detail.value in let q = c.base_place.result in
    subst (λ (e : Detail). IsBaseCell e.boxes q) c.self.view_is
    (lies_in_base d.boxes c.args.grid.now c.args.cell q
    (lies_along d.boxes c.args.grid.now c.self.inside.base c.args.cell q c.self.invariant.lines c.base_place.ensures))

pub returns : goal.returns
returns c =
    let d = c.self.inside.detail.value in let q = c.base_place.result in
    c.filling.ensures c.args.grid.now c.args.cell c.requires.carries c.requires.cell
    (subst (λ (e : Detail). LiesInBaseCell e.boxes c.args.grid.now c.args.cell q) c.self.view_is
    (lies_along d.boxes c.args.grid.now c.self.inside.base c.args.cell q c.self.invariant.lines c.base_place.ensures))
