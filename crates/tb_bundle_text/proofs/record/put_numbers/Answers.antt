use Rattle.std.proofs.Common.{◌≡◌, sym, take, append-nil, arith}
use Rattle.std.proofs.lemmas.List.{take_all}
use Rattle.tb_outside.proofs.Gathered.{gathers_both, gathers_same}
use Rattle.tb_bundle_text.proofs.Joined.{behind_comma, fields_joined, gathers_behind_item}
use Rattle.tb_bundle_text.proofs.record.put_numbers.Goals as goal

pub loop-number-init : goal.loop-number-init
loop-number-init g c = gathers_same (sym (append-nil c.args.word.now)) c.put.ensures.gathers

pub loop-number-preserved : goal.loop-number-preserved
loop-number-preserved g c =
    gathers_behind_item c.args.word.now (behind_comma g.T.WrittenNumber.text) c.args.numbers.now c.loop-number.number-index c.number-item.result c.number-item.is c.loop-number-test.true
    c.loop-number.invariant (rw (append-nil c.as_bytes.result.now, c.as_bytes.ensures.bytes, c.text-text.ensures) at c.put_pieces.ensures)

pub returns : goal.returns
returns g c =
    let whole : take c.loop-number.number-index c.args.numbers.now ≡ c.args.numbers.now = take_all c.loop-number.number-index c.args.numbers.now (omega arith) in
    gathers_same (fields_joined g.T.WrittenNumber.text c.args.word.now c.args.numbers.now) (gathers_both (rw whole at c.loop-number.invariant) c.put-2.ensures.gathers)
