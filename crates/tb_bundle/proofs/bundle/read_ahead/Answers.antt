use Rattle.tb_bundle.proofs.GoodBundle.{within}
use Rattle.tb_bundle.proofs.Wholes.{body_stop, detail_stop, head_stop, read_limits, whole}
use Rattle.tb_bundle.proofs.bundle.read_ahead.Goals as goal

pub returns-in-Err-clause-bundle : goal.returns-in-Err-clause-bundle
returns-in-Err-clause-bundle c = head_stop c.args.reader.now c.in-Err.refusal c.in-Err.ensures

pub returns-in-Err-read_detail_part-clause-bundle : goal.returns-in-Err-read_detail_part-clause-bundle
returns-in-Err-read_detail_part-clause-bundle c =
    detail_stop c.args.reader.now c.take_head.new.reader c.in_default.ensures.0 c.in_default.ensures.1 c.in-Err-read_detail_part.refusal c.in-Err-read_detail_part.ensures

pub read_proofs-requires : goal.read_proofs-requires
read_proofs-requires c = read_limits c.read_details_are_in_limits.ensures c.take_head.new.reader c.in-Ok.detail c.in-Ok.ensures.reading

pub returns-in-Ok-read_proofs-clause-bundle : goal.returns-in-Ok-read_proofs-clause-bundle
returns-in-Ok-read_proofs-clause-bundle c =
    whole c.args.reader.now c.take_head.new.reader c.in_default.ensures.0 c.in_default.ensures.1 c.read_detail_part.new.reader c.in-Ok.detail c.in-Ok.ensures
    c.in-Ok-read_proofs.proofs.items c.in-Ok-read_proofs.ensures

pub returns-in-Ok-read_proofs-clause-within : goal.returns-in-Ok-read_proofs-clause-within
returns-in-Ok-read_proofs-clause-within c =
    within c.in-Ok.detail c.read_detail_part.new.reader.ahead c.in-Ok-read_proofs.proofs.items
    (read_limits c.read_details_are_in_limits.ensures c.take_head.new.reader c.in-Ok.detail c.in-Ok.ensures.reading) c.in-Ok-read_proofs.ensures

pub returns-in-Err-read_proofs-clause-bundle : goal.returns-in-Err-read_proofs-clause-bundle
returns-in-Err-read_proofs-clause-bundle c =
    body_stop c.args.reader.now c.take_head.new.reader c.in_default.ensures.0 c.in_default.ensures.1 c.read_detail_part.new.reader c.in-Ok.detail c.in-Ok.ensures
    c.in-Err-read_proofs.refusal c.in-Err-read_proofs.ensures
