use Rattle.tb_outside.proofs.Each.{gathers_next_item}
use Rattle.tb_records.specs.Plain.{records_text}
use Rattle.tb_bundle_text.specs.Canonical.{case_rows}
use Rattle.tb_bundle_text.proofs.bundle.put_cases.Goals as goal

pub loop-case-preserved : goal.loop-case-preserved
loop-case-preserved g c =
    gathers_next_item (λ x. records_text (case_rows c.args.environments.now x)) c.args.cases.now c.loop-case.case-index c.case-item.result c.case-item.is c.loop-case-test.true
    c.loop-case.invariant c.put_case.ensures
