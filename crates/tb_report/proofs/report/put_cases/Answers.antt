use Rattle.tb_outside.proofs.Each.{gathers_next_item}
use Rattle.tb_report.specs.Texts.{case_line}
use Rattle.tb_report.proofs.report.put_cases.Goals as goal

pub loop-case-preserved : goal.loop-case-preserved
loop-case-preserved g c =
    gathers_next_item (case_line c.args.detail.now) c.args.cases.now c.loop-case.case-index c.case-item.result c.case-item.is c.loop-case-test.true c.loop-case.invariant c.put_case.ensures
