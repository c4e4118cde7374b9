use Rattle.std.proofs.Common.{subst, ◌^◌}
use Rattle.std.specs.Prelude.{pos, ◌≤ℤ◌}
use Rattle.tb_model.specs.Energy.{flux_terms, rounded_up}
use Rattle.tb_flux.specs.Fluxes.{flux_on}
use Rattle.tb_moves.specs.Sessions.{Session, mesh_of}
use Rattle.tb_moves.proofs.Offered.{loss_within}
use Rattle.tb_moves.proofs.session.Session.interval.Goals as goal

pub returns-clause-loss : goal.returns-clause-loss
returns-clause-loss c =
    let s : Session = record { body = c.self.inside.setting.body; grid = c.self.inside.setting.grid; case = c.self.inside.setting.case; field = c.self.inside.field; flux = c.self.inside.flux } in
    subst (λ (t : Session). rounded_up (mesh_of t) (flux_terms (mesh_of t) (flux_on t.grid t.flux)) ≤ℤ pos (2 ^ 120)) c.self.view_is (loss_within s c.self.inside.upper c.self.inside.lower c.self.invariant)
