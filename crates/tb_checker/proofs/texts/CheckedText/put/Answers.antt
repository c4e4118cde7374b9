use Rattle.tb_outside.proofs.Gathered.{gathers_both}
use Rattle.tb_checker.proofs.texts.CheckedText.put.Goals as goal

pub returns : goal.returns
returns g c = gathers_both (rw c.bundle.ensures.bundle at c.put_lines.ensures) c.put.ensures.gathers
