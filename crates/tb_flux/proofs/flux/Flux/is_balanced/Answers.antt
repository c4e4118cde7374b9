use Rattle.tb_geometry.specs.Grids.{mesh_on}
use Rattle.tb_flux.specs.Fluxes.{flux_on}
use Rattle.tb_flux.proofs.Parts.{balanced_in_parts, leak_unbalances}
use Rattle.tb_flux.proofs.flux.Flux.is_balanced.Goals as goal

pub returns-in-Some : goal.returns-in-Some
returns-in-Some c = (λ e. (cc), λ balanced. absurd (leak_unbalances _ _ _ balanced c.in-Some.ensures))

pub returns-in-None : goal.returns-in-None
returns-in-None c =
    let parts = balanced_in_parts (mesh_on c.args.body.now c.args.grid.now) (flux_on c.args.grid.now c.args.self.now) in
    (λ kept. parts.1 (c.in-None.ensures, c.keeps_heat.ensures.0 kept), λ balanced. c.keeps_heat.ensures.1 (parts.0 balanced).1)
