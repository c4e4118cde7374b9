use Rattle.std.proofs.Common.{◌≡◌, arith}
use Rattle.tb_case_records.specs.Table.{layer_rows}
use Rattle.tb_bundle_text.proofs.ValueTexts.{layer_fits, puts_next_layer, puts_none}
use Rattle.tb_bundle_text.proofs.values.put_layers.Goals as goal

pub loop-layer-init : goal.loop-layer-init
loop-layer-init g c = puts_none c.args.sink.now c.args.buffer.now c.args.values.now

pub put_layer-left-requires-clause-enough : goal.put_layer-left-requires-clause-enough
put_layer-left-requires-clause-enough g c =
    layer_fits (layer_rows c.args.counts.x c.args.counts.y) c.loop-layer.layer c.args.counts.z c.args.values.now c.loop-layer.left.now c.loop-layer-test.true c.loop-layer.invariant.rest c.requires.enough

pub loop-layer-preserved : goal.loop-layer-preserved
loop-layer-preserved g c =
    puts_next_layer (layer_rows c.args.counts.x c.args.counts.y) c.loop-layer.layer c.args.values.now c.loop-layer.left.now c.put_layer-left.result.now c.loop-layer.invariant c.put_layer-left.ensures

pub returns : goal.returns
returns g c =
    let whole : c.loop-layer.layer ≡ c.args.counts.z = omega (arith, c.loop-layer.auto.layer-end, c.loop-layer-test.false) in
    rw whole at c.loop-layer.invariant
