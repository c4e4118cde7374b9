use Rattle.tb_report.proofs.Transmittances.{chi_sound, psi_sound}
use Rattle.tb_report.proofs.laws.transmittances_are_sound.Goals as goal

pub returns-clause-psi : goal.returns-clause-psi
returns-clause-psi c = psi_sound

pub returns-clause-chi : goal.returns-clause-chi
returns-clause-chi c = chi_sound
