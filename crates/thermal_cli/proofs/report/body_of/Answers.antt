use Rattle.tb_geometry.proofs.Exclusions.{accepted_has_none}
use Rattle.tb_geometry.proofs.Steps.{boxes_in_limits}
use Rattle.thermal_cli.proofs.report.body_of.Goals as goal

pub unreachable-requires : goal.unreachable-requires
unreachable-requires c =
    accepted_has_none c.args.detail.now c.in-Err-Fault.field-0-0 (boxes_in_limits c.args.detail.now c.requires.limits) c.requires.accepted
    (rw (c.in-Err-Fault.is, c.in-Err-Fault.field-0-is) at c.new.ensures)
