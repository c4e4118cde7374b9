use Rattle.tb_grid.proofs.Searches.{no_line}
use Rattle.tb_grid.proofs.axis.Axis.line_at.Goals as goal

pub returns-in-Err : goal.returns-in-Err
returns-in-Err c =
    let searching = rw c.as_slice.ensures.value at c.in-Err.ensures.position in
    rw (← c.self.view_is) (no_line c.self.inside.lines.items c.args.x c.in-Err.field-0 c.self.invariant.rising searching)
