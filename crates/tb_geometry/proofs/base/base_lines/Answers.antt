use Rattle.std.proofs.Common.{ℕ, List, subst}
use Rattle.tb_grid.specs.Axis.{AreLinesThrough}
use Rattle.tb_geometry.proofs.Coordinates.{base_unique}
use Rattle.tb_geometry.proofs.base.base_lines.Goals as goal

pub returns : goal.returns
returns c =
    base_unique c.args.axis c.args.boxes.now c.lines_through.result.items
    (subst (λ (all : List ℕ). AreLinesThrough all c.lines_through.result.items) c.in_ok-coordinates.ensures c.lines_through.ensures.through)
