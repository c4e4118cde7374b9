use Rattle.std.proofs.Common.{[], ◌∷◌}
use Rattle.tb_case_records.specs.Table.{Ends, Judged}
use Rattle.tb_case_records.proofs.Taking.{stops_short}
use Rattle.tb_case_records.proofs.ends.take_end.Goals as goal

pub returns-in-Err-clause-taken : goal.returns-in-Err-clause-taken
returns-in-Err-clause-taken c = stops_short (Ends ∷ []) (Judged ∷ []) c.args.reader.now c.in-Err.refusal c.in-Err.ensures.taken
