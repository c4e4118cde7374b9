use Rattle.std.proofs.Common.{◌≡◌, []}
use Rattle.tb_bundle.specs.Details.{IsFedOne, detail_part}
use Rattle.tb_bundle.proofs.DetailPart.{fed_detail, first_told, no_detail_told, rest_told}
use Rattle.tb_bundle.proofs.detail.feed_detail.Goals as goal

pub returns-in-Ok-false : goal.returns-in-Ok-false
returns-in-Ok-false c =
    let none : (detail_part c.args.reader.now.ahead ≡ []) × ((c.feed_one.new.reader ≡ c.args.reader.now) × (c.feed_one.new.builder ≡ c.args.builder.now)) = rw c.in-Ok-false.field-0-test at c.in-Ok-false.ensures in
    no_detail_told c.args.reader.now c.feed_one.new.reader c.no_detail.result none.0 none.1.0 c.no_detail.ensures

pub returns-in-Err : goal.returns-in-Err
returns-in-Err c = first_told c.args.reader.now c.refusals_stay.ensures.refused c.args.builder.now c.in-Err.refusal c.requires c.in-Err.ensures

pub returns-in-Ok : goal.returns-in-Ok
returns-in-Ok c =
    let one : IsFedOne c.args.reader.now c.feed_one.new.reader c.args.builder.now c.feed_one.new.builder = rw c.in-Ok-true.field-0-test at c.in-Ok-true.ensures in
    fed_detail c.args.reader.now c.feed_one.new.reader c.args.builder.now c.feed_one.new.builder c.requires one c.feed_all.new.reader c.feed_all.new.builder c.in-Ok.ensures

pub returns-in-Err-feed_all : goal.returns-in-Err-feed_all
returns-in-Err-feed_all c =
    let one : IsFedOne c.args.reader.now c.feed_one.new.reader c.args.builder.now c.feed_one.new.builder = rw c.in-Ok-true.field-0-test at c.in-Ok-true.ensures in
    rest_told c.args.reader.now c.feed_one.new.reader c.args.builder.now c.feed_one.new.builder c.requires one c.refusals_stay.ensures.refused c.in-Err-feed_all.refusal c.in-Err-feed_all.ensures
