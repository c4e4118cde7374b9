use Rattle.std.proofs.Common.{inl}
use Rattle.tb_cycle_moves.proofs.faces.relax_face.Goals as goal

pub returns-in-Some-clause-moved : goal.returns-in-Some-clause-moved
returns-in-Some-clause-moved c = λ inside of. inl (c.relax_cycle.ensures.moved inside of c.args.face.0 c.in-Some.ensures)
