use Rattle.tb_bundle.proofs.Wholes.{read_limits}
use Rattle.tb_bundle.specs.Bundles.{head_fault}
use Rattle.tb_bundle.specs.Details.{detail_ahead, detail_fault}
use Rattle.tb_checker.proofs.Certified.{are_certified}
use Rattle.tb_checker.proofs.Whole.{by_body, by_head, by_no_detail, no_fault_found, reading_is}
use Rattle.tb_checker.proofs.checking.check_ahead.Goals as goal

pub returns-in-Err : goal.returns-in-Err
returns-in-Err c = by_head c.args.reader.now c.refusal_of.result (c.refusal_of.ensures (head_fault c.args.reader.now.ahead) c.in-Err.ensures)

pub returns-in-Err-read_detail_part : goal.returns-in-Err-read_detail_part
returns-in-Err-read_detail_part c =
    by_no_detail c.args.reader.now c.take_head.new.reader c.in_default.ensures.0 c.in_default.ensures.1 c.refusal_of-in-Err-read_detail_part.result
    (c.refusal_of-in-Err-read_detail_part.ensures (detail_fault (detail_ahead c.take_head.new.reader)) c.in-Err-read_detail_part.ensures)

pub read_judged_detail-requires : goal.read_judged_detail-requires
read_judged_detail-requires c = read_limits c.read_details_are_in_limits.ensures c.take_head.new.reader c.in-Ok.detail c.in-Ok.ensures.reading

pub new-requires : goal.new-requires
new-requires c =
    are_certified c.in-Ok.detail c.read_detail_part.new.reader.ahead c.in-Ok-read_judged_detail.proofs.items
    (read_limits c.read_details_are_in_limits.ensures c.take_head.new.reader c.in-Ok.detail c.in-Ok.ensures.reading) c.in-Ok-read_judged_detail.ensures

pub returns-in-Ok-read_judged_detail : goal.returns-in-Ok-read_judged_detail
returns-in-Ok-read_judged_detail c = rw c.new.ensures (
  no_fault_found c.args.reader.now c.take_head.new.reader c.in_default.ensures.0 c.in_default.ensures.1 c.read_detail_part.new.reader c.in-Ok.detail c.in-Ok.ensures
      c.in-Ok-read_judged_detail.proofs.items c.in-Ok-read_judged_detail.ensures,
  reading_is c.args.reader.now c.take_head.new.reader c.in_default.ensures.0 c.in_default.ensures.1 c.read_detail_part.new.reader c.in-Ok.detail c.in-Ok.ensures
      c.in-Ok-read_judged_detail.proofs.items c.in-Ok-read_judged_detail.ensures,
)

pub returns-in-Err-read_judged_detail : goal.returns-in-Err-read_judged_detail
returns-in-Err-read_judged_detail c =
    by_body c.args.reader.now c.take_head.new.reader c.in_default.ensures.0 c.in_default.ensures.1 c.read_detail_part.new.reader c.in-Ok.detail c.in-Ok.ensures
    c.in-Err-read_judged_detail.refusal c.in-Err-read_judged_detail.ensures
