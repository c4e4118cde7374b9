use Rattle.std.proofs.Common.{List, ℕ, ◌<◌, length, subst, sym}
use Rattle.tb_places.specs.declared.AxisName.TheVariants.{X}
use Rattle.tb_geometry.proofs.Tables.{base_lines_of}
use Rattle.tb_rows.proofs.Grids.{base_line_there}
use Rattle.tb_rows.proofs.rows.Rows.base_line.Goals as goal

pub line_index-requires : goal.line_index-requires
line_index-requires c =
    let f = c.args.self.now in let h = c.requires.rows in let base = c.base.result.now in
    rw (c.axis.ensures.axis, c.lines.ensures.lines, c.axis-2.ensures.axis)
    (base_line_there f.body.now base f.grid.now c.base.ensures.grid c.axis-2.ensures.grid h.grid h.carries X c.args.b
    (subst (λ (lines : List ℕ). c.args.b < length lines) (sym (base_lines_of base f.body.now.boxes c.base.ensures.grid X)) c.requires.within))
