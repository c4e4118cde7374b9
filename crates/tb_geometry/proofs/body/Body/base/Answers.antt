use Rattle.std.proofs.Common.{sym, subst}
use Rattle.tb_detail.specs.declared.Detail.{Detail}
use Rattle.tb_grid.specs.Grid.{Axes}
use Rattle.tb_geometry.specs.Grids.{CarriesBody}
use Rattle.tb_geometry.proofs.Steps.{boxes_in_limits}
use Rattle.tb_geometry.proofs.Whole.{base_carries}
use Rattle.tb_geometry.proofs.body.Body.base.Goals as goal

pub returns-clause-carries : goal.returns-clause-carries
returns-clause-carries c =
    let keeps = c.self.invariant in
    subst (λ (d : Detail). CarriesBody c.self.inside.base d) c.self.view_is
    (subst (λ (g : Axes). CarriesBody g c.self.inside.detail.value) (sym keeps.lines)
    (base_carries c.self.inside.detail.value (boxes_in_limits c.self.inside.detail.value keeps.limits)))
