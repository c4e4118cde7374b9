use Rattle.tb_moves.specs.Moves.{IsPlain}
use Rattle.tb_moves.specs.Sessions.{AreAlike, inside_of, mesh_of, state_of}
use Rattle.tb_driver.proofs.passes.make_plain.Given as goal

abbrev pub invariant-loop-sweep : goal.invariant-loop-sweep
invariant-loop-sweep l = record {
  alike : AreAlike l.fn.session l.session;
  plain : IsPlain (mesh_of l.fn.session) (inside_of l.fn.session) l._sweep (state_of l.session);
}
