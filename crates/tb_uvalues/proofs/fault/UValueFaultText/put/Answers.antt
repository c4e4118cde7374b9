use Rattle.std.proofs.Common.{append_assoc}
use Rattle.tb_uvalues.proofs.fault.UValueFaultText.put.Goals as goal

pub returns : goal.returns
returns g c = simp append_assoc (rw c.bytes.ensures at c.put_pieces.ensures)
