use Rattle.tb_outside.proofs.Gathered.{gathers_both}
use Rattle.tb_uvalues.proofs.list.UValuesText.put.Goals as goal

pub returns : goal.returns
returns g c = gathers_both (rw c.detail.ensures.detail at c.put_lines.ensures) c.put.ensures.gathers
