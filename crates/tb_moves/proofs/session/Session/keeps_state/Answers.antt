use Rattle.std.proofs.Common.{subst}
use Rattle.tb_moves.specs.Keeping.{KeepsSession}
use Rattle.tb_moves.specs.Sessions.{Session}
use Rattle.tb_moves.proofs.session.Session.keeps_state.Goals as goal

pub returns : goal.returns
returns c =
    let keeps : KeepsSession c.args.self.now c.self.inside.upper c.self.inside.lower = subst (λ (s : Session). KeepsSession s c.self.inside.upper c.self.inside.lower) c.self.view_is c.self.invariant in
    record { accepted = keeps.accepted; carries = keeps.carries; state = keeps.state }
