use Rattle.std.proofs.Common.{append-nil}
use Rattle.tb_outside.proofs.Gathered.{gathers_both}
use Rattle.tb_report.proofs.lines.put_value.Goals as goal

pub returns : goal.returns
returns g c = gathers_both (gathers_both (simp append-nil at c.put_pieces.ensures) c.put_ends.ensures) c.put.ensures.gathers
