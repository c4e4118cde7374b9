use Rattle.tb_report.proofs.Reported.{has_report}
use Rattle.tb_report.proofs.laws.bundles_have_reports.Goals as goal

pub returns : goal.returns
returns c = has_report
