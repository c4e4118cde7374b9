use Rattle.std.proofs.Common.{◌≡◌, arith}
use Rattle.tb_case_records.specs.Table.{Values}
use Rattle.tb_bundle_text.proofs.ValueTexts.{one_more_fits, puts_next_row, puts_none}
use Rattle.tb_bundle_text.proofs.values.put_rows.Goals as goal

pub loop-at-init : goal.loop-at-init
loop-at-init g c = puts_none c.args.sink.now c.args.buffer.now c.args.values.now

pub split_at-requires : goal.split_at-requires
split_at-requires g c = one_more_fits (Values c.args.kind c.args.count) c.loop-at.at c.args.rows c.args.values.now c.loop-at.left.now c.loop-at-test.true c.loop-at.invariant.rest c.requires

pub loop-at-preserved : goal.loop-at-preserved
loop-at-preserved g c =
    puts_next_row c.args.kind c.args.count c.loop-at.at c.word_of.result.now c.args.values.now c.loop-at.left.now c.split_at.result.0.now c.split_at.result.1.now
    c.loop-at.invariant c.put_numbers.ensures c.word_of.ensures c.split_at.ensures.front c.split_at.ensures.back

pub returns : goal.returns
returns g c =
    let whole : c.loop-at.at ≡ c.args.rows = omega (arith, c.loop-at.auto.at-end, c.loop-at-test.false) in
    rw whole at c.loop-at.invariant
