use Rattle.tb_bundle.specs.Details.{detail_part}
use Rattle.tb_bundle.proofs.DetailPart.{finished, refused}
use Rattle.tb_bundle.proofs.detail.read_detail_part.Goals as goal

pub returns-in-Ok : goal.returns-in-Ok
returns-in-Ok c =
    finished c.args.reader.now c.feed_detail.new.reader c.feed_detail.new.builder c.in_default.ensures c.number_of_no_record.ensures.some c.in-Ok.detail
    (c.in-Ok.ensures.detail (detail_part c.args.reader.now.ahead) c.in_default.ensures.stands)

pub returns-in-Err-finish : goal.returns-in-Err-finish
returns-in-Err-finish c =
    rw c.refusal_of.ensures
    (refused c.args.reader.now c.feed_detail.new.reader c.feed_detail.new.builder c.in_default.ensures c.number_of_no_record.ensures.some c.in-Err-finish.refusal
    (c.in-Err-finish.ensures.detail (detail_part c.args.reader.now.ahead) c.in_default.ensures.stands))
