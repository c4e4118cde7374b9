use Rattle.tb_outside.specs.Buffers.{Gathers}
use Rattle.tb_checker.specs.Texts.{names_up_to}
use Rattle.tb_checker.proofs.names.put_set_name.Given as goal

-- the names so far were put
abbrev pub invariant-loop-e : goal.invariant-loop-e
invariant-loop-e g l = Gathers g.K.Sink.holds g.K.Sink.faults l.fn.sink l.sink l.fn.buffer (names_up_to l.detail l.set l.e) l.buffer
