use Rattle.tb_outside.proofs.Each.{gathers_next}
use Rattle.tb_outside.proofs.buffer.OutputBuffer.put_pieces.Goals as goal

pub loop-piece-preserved : goal.loop-piece-preserved
loop-piece-preserved g c =
    gathers_next _ _ _ _ c.loop-piece-test.true c.loop-piece.invariant c.put.ensures.gathers
