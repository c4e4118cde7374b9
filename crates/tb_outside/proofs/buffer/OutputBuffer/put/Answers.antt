use Rattle.tb_outside.proofs.Gathered.{gathers_both}
use Rattle.tb_outside.proofs.buffer.OutputBuffer.put.Goals as goal

pub returns-clause-gathers : goal.returns-clause-gathers
returns-clause-gathers g c = gathers_both c.put_waiting.ensures.gathers c.put_at_once.ensures
