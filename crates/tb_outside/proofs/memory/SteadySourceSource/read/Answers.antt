use Rattle.tb_outside.proofs.Known.{read_front}
use Rattle.tb_outside.proofs.memory.SteadySourceSource.read.Goals as goal

pub returns-clause-reads : goal.returns-clause-reads
returns-clause-reads c =
    read_front c.self.inside.bytes.items _ c.deref.result.now c.copy_front-n.new.buf c.self.inside.at _ c.self.view_is c.deref.ensures.value
    c.copy_front-n.ensures.front c.copy_front-n.ensures.count
