use Rattle.std.proofs.Common.{arith}
use Rattle.std.specs.List.{repeat}
use Rattle.tb_case_records.specs.Table.{across_z, layer_rows}
use Rattle.tb_bundle_text.proofs.RowsBack.{values_append}
use Rattle.tb_bundle_text.proofs.ValueTexts.{enough, puts_both}
use Rattle.tb_bundle_text.proofs.values.put_flux.Goals as goal

pub put_layers-left-requires-clause-enough : goal.put_layers-left-requires-clause-enough
put_layers-left-requires-clause-enough g c =
    let n = c.args.counts in
    omega (arith, c.requires.enough, values_append (repeat n.z (layer_rows n.x n.y)) (across_z n.x n.y))

pub put_rows-requires : goal.put_rows-requires
put_rows-requires g c =
    let n = c.args.counts in
    enough (repeat n.z (layer_rows n.x n.y)) (across_z n.x n.y) c.args.values.now c.put_layers-left.result.now c.put_layers-left.ensures.rest c.requires.enough

pub returns : goal.returns
returns g c =
    let n = c.args.counts in
    (puts_both (repeat n.z (layer_rows n.x n.y)) (across_z n.x n.y) c.args.values.now c.put_layers-left.result.now c.put_rows.result.now c.put_layers-left.ensures c.put_rows.ensures).text
