use Rattle.std.proofs.Common.{◌∙◌, ◌<◌, refl, length, arith}
use Rattle.std.proofs.lemmas.List.{length-set}
use Rattle.tb_report.proofs.Filled.{filled}
use Rattle.tb_report.proofs.values.intervals_of.Goals as goal

pub loop-at-preserved : goal.loop-at-preserved
loop-at-preserved c =
    let space = c.loop-at.invariant.room in
    let few = c.requires in
    let test = c.loop-at-test.true in
    let room : c.loop-at.at < length c.loop-at.intervals = omega (arith, space, few, test) in
    record {
      room = length-set c.loop-at.intervals c.loop-at.at _ ∙ space;
      copied = filled (λ c. c.interval) c.args.cases.now c.loop-at.intervals c.loop-at.at c.index-cases-at.result _ room test c.index-cases-at.is refl c.loop-at.invariant.copied;
    }
