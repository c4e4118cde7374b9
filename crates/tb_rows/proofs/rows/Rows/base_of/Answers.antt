use Rattle.std.proofs.Common.{◌∙◌, subst}
use Rattle.std.proofs.Common.{ℕ, ◌<◌}
use Rattle.tb_geometry.proofs.Finer.{between_base_ends}
use Rattle.tb_geometry.proofs.Tables.{base_lines_of}
use Rattle.tb_rows.proofs.Grids.{counts_are}
use Rattle.tb_rows.proofs.rows.Rows.base_of.Goals as goal

pub base_interval-requires-clause-between : goal.base_interval-requires-clause-between
base_interval-requires-clause-between c =
    let f = c.args.self.now in let h = c.requires.rows in let a = c.args.axis in
    rw (c.axis.ensures.axis ∙ base_lines_of c.base.result.now f.body.now.boxes c.base.ensures.grid a, c.axis-2.ensures.axis)
    (between_base_ends f.body.now f.grid.now h.carries a c.args.i (subst (λ (n : ℕ). c.args.i < n) (counts_are f.grid.now a) c.requires.within))
