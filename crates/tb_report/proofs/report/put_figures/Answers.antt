use Rattle.tb_outside.proofs.Gathered.{gathers_both}
use Rattle.tb_report.proofs.report.put_figures.Goals as goal

pub returns : goal.returns
returns g c = gathers_both (gathers_both (gathers_both c.put_pairs.ensures c.put_parts.ensures) c.put_psis.ensures) c.put_chis.ensures
