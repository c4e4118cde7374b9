use Rattle.tb_cycle_moves.proofs.faces.face_moves.Goals as goal

pub returns-in-Some-clause-moves : goal.returns-in-Some-clause-moves
returns-in-Some-clause-moves c = λ d inside of. c.cycle_moves.ensures.moves d inside of c.args.face.0 c.in-Some.ensures

pub returns-in-Some-clause-stays : goal.returns-in-Some-clause-stays
returns-in-Some-clause-stays c = λ d inside of has. c.cycle_moves.ensures.stays d inside of c.args.face.0 c.in-Some.ensures

pub returns-in-None-clause-stays : goal.returns-in-None-clause-stays
returns-in-None-clause-stays c = λ d inside of has. absurd (c.in-None.ensures has)
