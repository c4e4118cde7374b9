use Rattle.std.proofs.Common.{ap}
use Rattle.tb_outside.specs.MemoryState.{MemoryBytes}
use Rattle.tb_outside.proofs.Known.{read_front}
use Rattle.tb_outside.proofs.memory.MemorySourceSource.read.Goals as goal

pub returns-clause-reads : goal.returns-clause-reads
returns-clause-reads c =
    read_front c.self.inside.bytes.items _ c.deref-2.result.now c.copy_front-n.new.buf c.self.inside.at _ (ap (λ (s : MemoryBytes). s.left) c.self.view_is) c.deref-2.ensures.value
    c.copy_front-n.ensures.front c.copy_front-n.ensures.count
