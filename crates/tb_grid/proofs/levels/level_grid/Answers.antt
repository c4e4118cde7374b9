use Rattle.std.proofs.Common.{◌≤◌, length, refl}
use Rattle.tb_places.specs.declared.AxisName.{AxisName}
use Rattle.tb_places.specs.declared.AxisName.TheVariants.{X, Y, Z}
use Rattle.tb_grid.specs.Grid.{Axes, lines_of}
use Rattle.tb_grid.specs.Levels.{IsLevelAxis, IsLevelOf}
use Rattle.tb_grid.specs.declared.levels.Grading.{Grading}
use Rattle.tb_grid.proofs.LevelLines.{level_kept}
use Rattle.tb_grid.proofs.levels.level_grid.Goals as goal

by_axis : (g : Grading) (base level : Axes) → IsLevelAxis g base X level.x → IsLevelAxis g base Y level.y →
    IsLevelAxis g base Z level.z → IsLevelOf g base level
by_axis g base level on_x on_y on_z X = on_x
by_axis g base level on_x on_y on_z Y = on_y
by_axis g base level on_x on_y on_z Z = on_z

few_by_axis : (level : Axes) → length level.x ≤ 1024 → length level.y ≤ 1024 → length level.z ≤ 1024 →
    (a : AxisName) → length (lines_of level a) ≤ 1024
few_by_axis level on_x on_y on_z X = on_x
few_by_axis level on_x on_y on_z Y = on_y
few_by_axis level on_x on_y on_z Z = on_z

pub returns-in-Ok-clause-flat : goal.returns-in-Ok-clause-flat
returns-in-Ok-clause-flat c =
    let base = c.args.base.now in
    λ two.
    let level = rw two at c.in_ok-z.ensures.axis.0 in
    rw c.in-Ok.ensures.axes (level_kept base.z c.in_ok-z.z (c.in_ok-z.ensures.base.axes Z).rising level)

pub returns-in-Err-clause-level : goal.returns-in-Err-clause-level
returns-in-Err-clause-level c =
    let level : Axes = record { x = c.in_ok-x.x; y = c.in_ok-y.y; z = c.in_ok-z.z } in
    let x = c.in_ok-x.ensures.axis in let y = c.in_ok-y.ensures.axis in let z = c.in_ok-z.ensures.axis in
    record {
      level = level;
      is_level = by_axis c.args.grading c.args.base.now level x.0 y.0 z.0;
      few_lines = few_by_axis level x.1 y.1 z.1;
      many = c.in-Err.ensures.too_many.0 refl;
      counted = c.in-Err.ensures.count;
    }
