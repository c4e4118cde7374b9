use Rattle.std.proofs.Common.{◌∙◌}
use Rattle.tb_case_records.specs.Cases.{form_of}
use Rattle.tb_case_records.proofs.WithinLimits.{grid_of_lines}
use Rattle.tb_case_records.proofs.case.take_grid.Goals as goal

pub grid_of-requires : goal.grid_of-requires
grid_of-requires c =
    grid_of_lines (form_of c.args.shape) c.args.reader.now.ahead c.in-Ok.lines.x.items c.in-Ok.lines.y.items c.in-Ok.lines.z.items c.in-Ok.ensures.read c.in-Ok.ensures.taken.faultless
