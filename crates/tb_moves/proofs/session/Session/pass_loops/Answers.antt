use Rattle.std.proofs.Common.{subst, List}
use lib.IntN.{ℤ}
use Rattle.tb_weighted.specs.Moves.{Move, loop_moves}
use Rattle.tb_weighted.specs.Sequences.{AreMade}
use Rattle.tb_moves.specs.FluxPasses.{IsFluxMove}
use Rattle.tb_moves.specs.Sessions.{Session, inside_of, mesh_of}
use Rattle.tb_moves.proofs.Kept.{loops_kept}
use Rattle.tb_moves.proofs.session.Session.pass_loops.Goals as goal

pub invariant_of-self : goal.invariant_of-self
invariant_of-self c =
    let s : Session = record { body = c.self.inside.setting.body; grid = c.self.inside.setting.grid; case = c.self.inside.setting.case; field = c.self.inside.field; flux = c.self.inside.flux } in
    loops_kept s c.self.inside.upper c.self.inside.lower c.self.invariant c.move_loops-changed.new.flux c.move_loops-changed.result c.unless-self-inside.result c.move_loops-changed.ensures.moved c.unless-self-inside.ensures.changed c.unless-self-inside.ensures.same

pub returns-clause-moved : goal.returns-clause-moved
returns-clause-moved c = subst (λ (t : Session). AreMade (List ℤ) Move (IsFluxMove (mesh_of t) (inside_of t)) (loop_moves (mesh_of t).cells) t.flux c.move_loops-changed.new.flux c.move_loops-changed.result) c.self.view_is c.move_loops-changed.ensures.moved
