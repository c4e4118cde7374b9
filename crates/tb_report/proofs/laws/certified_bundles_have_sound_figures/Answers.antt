use Rattle.tb_report.proofs.Figures.{figures_sound}
use Rattle.tb_report.proofs.laws.certified_bundles_have_sound_figures.Goals as goal

pub returns : goal.returns
returns c = figures_sound
