use Rattle.std.proofs.Common.{◌≡◌, take, IsFalse}
use Rattle.tb_moves.specs.Moves.{AreMoves}
use Rattle.tb_moves.specs.Sessions.{AreAlike, inside_of, mesh_of, state_of}
use Rattle.tb_moves.proofs.session.Session.apply_all.Given as goal

abbrev pub invariant-loop-i : goal.invariant-loop-i
invariant-loop-i l = record {
  made : AreMoves (mesh_of l.fn.self) (inside_of l.fn.self) (take l.i l.moves) (state_of l.fn.self) (state_of l.self) l.changed;
  alike : AreAlike l.fn.self l.self;
  same : IsFalse l.changed → l.self ≡ l.fn.self;
}
