use Rattle.std.proofs.Common.{drop}
use Rattle.tb_bundle_text.proofs.CaseWords.{PutsNames}
use Rattle.tb_bundle_text.proofs.case.put_case_row.Given as goal

-- the names so far were put
abbrev pub invariant-loop-environment : goal.invariant-loop-environment
invariant-loop-environment g l =
    PutsNames g.K.Sink.holds g.K.Sink.faults l.fn.sink l.sink l.fn.buffer l.buffer l.environments l.mask (drop l.environment-index l.environments) l.left
