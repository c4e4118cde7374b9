use Rattle.tb_checker.proofs.AcceptedLines.{certified_lines}
use Rattle.tb_checker.proofs.laws.fronts_have_certified_lines.Goals as goal

pub returns : goal.returns
returns c = certified_lines
