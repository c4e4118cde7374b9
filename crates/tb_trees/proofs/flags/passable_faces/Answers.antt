use Rattle.std.proofs.Common.{arith}
use Rattle.tb_trees.proofs.Passable.{all_faces, face_next}
use Rattle.tb_trees.proofs.flags.passable_faces.Goals as goal

pub loop-number-preserved : goal.loop-number-preserved
loop-number-preserved c = λ m same marks.
    face_next m c.loop-number.flags.items c.push.new.self.items c.loop-number.number c.is_passable.result (c.loop-number.invariant m same marks)
    (c.is_passable.ensures m same marks) c.in_ok-push.ensures.items

pub returns : goal.returns
returns c = λ m same marks.
    all_faces _ m c.loop-number.flags.items c.loop-number.number same (omega (arith, c.faces-count.ensures)) (c.loop-number.invariant m same marks)
