use Rattle.std.proofs.Common.{ℕ, ◌+◌, List, ◌++◌, replicate, arith}
use Rattle.tb_places.specs.declared.AxisName.TheVariants.{X, Y, Z}
use Rattle.tb_case_records.specs.declared.rows.RowKind.TheVariants.{Faces}
use Rattle.tb_case_records.specs.Table.{Expected, Values}
use Rattle.tb_bundle_text.proofs.RowsBack.{values_append}
use Rattle.tb_bundle_text.proofs.ValueTexts.{enough, puts_both}
use Rattle.tb_bundle_text.proofs.values.put_layer.Goals as goal

abbrev across_z : ℕ → ℕ → List Expected
across_z x y = replicate y (Values (Faces Z) x)

abbrev across_x : ℕ → ℕ → List Expected
across_x x y = replicate y (Values (Faces X) (x + 1))

abbrev across_y : ℕ → ℕ → List Expected
across_y x y = replicate (y + 1) (Values (Faces Y) x)

pub put_rows-left-requires : goal.put_rows-left-requires
put_rows-left-requires g c = omega (arith, c.requires.enough, values_append (across_z c.args.x c.args.y) (across_x c.args.x c.args.y ++ across_y c.args.x c.args.y))

pub put_rows-left-requires-2 : goal.put_rows-left-requires-2
put_rows-left-requires-2 g c =
    let both = enough (across_z c.args.x c.args.y) (across_x c.args.x c.args.y ++ across_y c.args.x c.args.y) c.args.values.now c.put_rows-left.result.now c.put_rows-left.ensures.rest c.requires.enough in
    omega (arith, both, values_append (across_x c.args.x c.args.y) (across_y c.args.x c.args.y))

pub put_rows-requires : goal.put_rows-requires
put_rows-requires g c =
    enough (across_x c.args.x c.args.y) (across_y c.args.x c.args.y) c.put_rows-left.result.now c.put_rows-left-2.result.now c.put_rows-left-2.ensures.rest
    (enough (across_z c.args.x c.args.y) (across_x c.args.x c.args.y ++ across_y c.args.x c.args.y) c.args.values.now c.put_rows-left.result.now c.put_rows-left.ensures.rest c.requires.enough)

pub returns : goal.returns
returns g c =
    puts_both (across_z c.args.x c.args.y) (across_x c.args.x c.args.y ++ across_y c.args.x c.args.y) c.args.values.now c.put_rows-left.result.now c.put_rows.result.now c.put_rows-left.ensures
    (puts_both (across_x c.args.x c.args.y) (across_y c.args.x c.args.y) c.put_rows-left.result.now c.put_rows-left-2.result.now c.put_rows.result.now c.put_rows-left-2.ensures c.put_rows.ensures)
