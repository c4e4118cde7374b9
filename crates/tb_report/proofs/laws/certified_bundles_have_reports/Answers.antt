use Rattle.tb_report.proofs.Reported.{certified_has_report}
use Rattle.tb_report.proofs.laws.certified_bundles_have_reports.Goals as goal

pub returns : goal.returns
returns c = certified_has_report
