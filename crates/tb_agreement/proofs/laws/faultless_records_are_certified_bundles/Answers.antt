use Rattle.tb_agreement.proofs.Accepted.{read_accepted}
use Rattle.tb_agreement.proofs.Faultless.{reads_certified}
use Rattle.tb_agreement.proofs.laws.faultless_records_are_certified_bundles.Goals as goal

pub returns : goal.returns
returns c = λ rows. (reads_certified rows, λ h. read_accepted rows h.0 h.1 h.2)
