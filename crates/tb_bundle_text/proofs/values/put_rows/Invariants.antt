use Rattle.std.proofs.Common.{replicate}
use Rattle.tb_case_records.specs.Table.{Values}
use Rattle.tb_bundle_text.specs.Writing.{Puts}
use Rattle.tb_bundle_text.proofs.values.put_rows.Given as goal

-- the rows so far were put
abbrev pub invariant-loop-at : goal.invariant-loop-at
invariant-loop-at g l = Puts g.K.Sink.holds g.K.Sink.faults l.fn.sink l.sink l.fn.buffer l.buffer (replicate l.at (Values l.kind l.count)) l.values l.left
