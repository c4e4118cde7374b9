use Rattle.std.proofs.Common.{take}
use Rattle.std.specs.List.{flat_map}
use Rattle.tb_outside.specs.Buffers.{Gathers}
use Rattle.tb_records.specs.Plain.{records_text}
use Rattle.tb_bundle_text.specs.Canonical.{case_rows}
use Rattle.tb_bundle_text.proofs.bundle.put_cases.Given as goal

-- the cases so far were put
abbrev pub invariant-loop-case : goal.invariant-loop-case
invariant-loop-case g l =
    Gathers g.K.Sink.holds g.K.Sink.faults l.fn.sink l.sink l.fn.buffer (flat_map (λ c. records_text (case_rows l.environments c)) (take l.case-index l.cases)) l.buffer
