use Rattle.std.proofs.Common.{take}
use Rattle.std.specs.List.{flat_map}
use Rattle.tb_outside.specs.Buffers.{Gathers}
use Rattle.tb_records.specs.Plain.{record_text}
use Rattle.tb_canonical.specs.Canonical.{names_in, term_row}
use Rattle.tb_canonical.proofs.things.put_terms.Given as goal

-- those so far were put
abbrev pub invariant-loop-term : goal.invariant-loop-term
invariant-loop-term g l =
    Gathers g.K.Sink.holds g.K.Sink.faults l.fn.sink l.sink l.fn.buffer (flat_map (λ term. record_text (term_row (names_in l.detail) l.kind l.item term)) (take l.term-index l.terms)) l.buffer
