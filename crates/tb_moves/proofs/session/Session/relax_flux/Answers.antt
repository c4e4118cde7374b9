use Rattle.std.proofs.Common.{subst, sym}
use Rattle.tb_model.specs.Energy.{IsBalanced}
use Rattle.tb_flux.specs.Fluxes.{flux_on}
use Rattle.tb_moves.specs.FluxPasses.{IsRelaxedFlux}
use Rattle.tb_moves.specs.Sessions.{Session, inside_of, mesh_of}
use Rattle.tb_moves.proofs.Passing.{relaxed_balance}
use Rattle.tb_moves.proofs.session.Session.relax_flux.Goals as goal

pub returns-clause-relaxed : goal.returns-clause-relaxed
returns-clause-relaxed c = subst (λ (t : Session). IsRelaxedFlux (mesh_of t) (inside_of t) c.args.candidate.now c.move_cycles.new.flux) c.self.view_is
    (record { mid = c.move_loops.new.flux; told_before = c.move_loops.result; told_after = c.move_cycles.result; loops = c.move_loops.ensures.moved; cycles = c.move_cycles.ensures.moved })

pub returns-clause-balanced : goal.returns-clause-balanced
returns-clause-balanced c =
    let s : Session = record { body = c.self.inside.setting.body; grid = c.self.inside.setting.grid; case = c.self.inside.setting.case; field = c.self.inside.field; flux = c.self.inside.flux } in
    subst (λ (t : Session). IsBalanced (mesh_of t) (flux_on t.grid c.move_cycles.new.flux)) c.self.view_is
    (relaxed_balance s c.self.inside.upper c.self.inside.lower c.self.invariant c.args.candidate.now c.move_loops.new.flux c.move_cycles.new.flux c.move_loops.result c.move_cycles.result c.move_loops.ensures.moved c.move_cycles.ensures.moved
    (subst (λ (t : Session). IsBalanced (mesh_of t) (flux_on t.grid c.args.candidate.now)) (sym c.self.view_is) c.requires.balanced))
