use Rattle.tb_flux.proofs.Parts.{loss_is_no_heat_kept}
use Rattle.tb_flux.proofs.flux.Flux.keeps_heat.Goals as goal

pub returns-in-Some : goal.returns-in-Some
returns-in-Some c = (λ e. (cc), λ kept. absurd (loss_is_no_heat_kept _ _ _ _ kept c.in-Some.ensures))
