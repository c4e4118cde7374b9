use Rattle.std.proofs.Common.{sym, subst}
use Rattle.tb_detail.specs.declared.Detail.{Detail}
use Rattle.tb_geometry.specs.Grids.{CarriesBody}
use Rattle.tb_geometry.proofs.Carrying.{carries_from_refines, refines_from_carries}
use Rattle.tb_geometry.proofs.body.Body.carries.Goals as goal

pub returns : goal.returns
returns c =
    let keeps = c.self.invariant in
    let here = c.carries_base.ensures in (
      λ is. subst (λ (d : Detail). CarriesBody c.args.grid.now d) c.self.view_is
          (refines_from_carries c.self.inside.detail.value c.self.inside.base c.args.grid.now _ keeps.lines keeps.holders here.base here.grid (here.carries.0 is)),
      λ refines. here.carries.1
          (carries_from_refines c.self.inside.detail.value c.self.inside.base c.args.grid.now keeps.lines here.base here.grid
          (subst (λ (d : Detail). CarriesBody c.args.grid.now d) (sym c.self.view_is) refines)),
    )
