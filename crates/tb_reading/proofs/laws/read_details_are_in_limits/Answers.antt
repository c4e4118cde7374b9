use Rattle.tb_reading.proofs.Within.{read_in_limits}
use Rattle.tb_reading.proofs.laws.read_details_are_in_limits.Goals as goal

pub returns : goal.returns
returns c = read_in_limits
