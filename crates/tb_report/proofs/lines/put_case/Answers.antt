use Rattle.tb_outside.proofs.Gathered.{gathers_both}
use Rattle.tb_report.proofs.lines.put_case.Goals as goal

pub returns : goal.returns
returns g c = gathers_both (gathers_both (gathers_both c.put.ensures.gathers c.put_set_name.ensures) c.put_ends.ensures) (rw c.verdict_text.ensures at c.put-2.ensures.gathers)
