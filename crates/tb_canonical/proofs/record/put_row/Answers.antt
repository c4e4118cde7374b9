use Rattle.std.proofs.Common.{◌≡◌, ◌+◌, ◌<◌, ap, length, take, arith}
use Rattle.std.proofs.lemmas.List.{take_all}
use Rattle.tb_outside.proofs.Gathered.{gathers_both, gathers_same}
use Rattle.tb_reading.specs.Kinds.{fields}
use Rattle.tb_canonical.specs.Canonical.{names_in}
use Rattle.tb_canonical.proofs.Joined.{row_text, text_next, word_alone}
use Rattle.tb_canonical.proofs.record.put_row.Goals as goal

pub loop-at-init : goal.loop-at-init
loop-at-init g c = gathers_same (word_alone (names_in c.args.detail.now) c.args.kind c.args.item.now) (rw c.word.ensures at c.put.ensures.gathers)

pub bounds-rules-at : goal.bounds-rules-at
bounds-rules-at g c = omega (arith, ap length c.fields-rules.ensures.fields, c.requires, c.loop-at-test.true)

pub loop-at-preserved : goal.loop-at-preserved
loop-at-preserved g c =
    let n = names_in c.args.detail.now in
    let fits : c.loop-at.at + 1 < length (fields c.args.kind) = omega (arith, c.requires, c.loop-at-test.true) in
    gathers_same (text_next n c.args.kind c.args.item.now c.args.values.now c.loop-at.at fits c.loop-at-test.true)
    (gathers_both (gathers_both c.loop-at.invariant c.put-in-loop-at.ensures.gathers) (rw c.fields-rules.ensures.fields at c.put_field.ensures))

pub returns : goal.returns
returns g c =
    let whole : take c.loop-at.at c.args.values.now ≡ c.args.values.now = take_all c.loop-at.at c.args.values.now (omega arith) in
    gathers_same (row_text (names_in c.args.detail.now) c.args.kind c.args.item.now c.args.values.now) (gathers_both (rw whole at c.loop-at.invariant) c.put-2.ensures.gathers)
