use Rattle.std.proofs.Common.{◌∙◌, ◌++◌, ◌∷◌, [], List, append_assoc, ap, subst, sym}
use Rattle.tb_reading.specs.Builders.{Stands}
use Rattle.tb_reading.specs.Reading.{Numbered}
use Rattle.tb_bundle.specs.Details.{IsFedOne, detail_part}
use Rattle.tb_bundle.proofs.DetailPart.{body_is, part_is}
use Rattle.tb_bundle.proofs.detail.feed_all.Goals as goal

pub loop-refusal-preserved : goal.loop-refusal-preserved
loop-refusal-preserved c =
    let one : IsFedOne c.loop-refusal.reader c.feed_one.new.reader c.loop-refusal.builder c.feed_one.new.builder = rw c.in-Ok-true.field-0-test at c.in-Ok-true.ensures in
    let fed : List Numbered = c.loop-refusal.invariant.fed in
    record {
      fed = fed ++ one.record_fed ∷ [];
      all = append_assoc fed (one.record_fed ∷ []) (detail_part c.feed_one.new.reader.ahead)
          ∙ ap (λ (l : List Numbered). fed ++ l) (sym (part_is c.loop-refusal.reader c.feed_one.new.reader c.loop-refusal.builder c.feed_one.new.builder one))
          ∙ c.loop-refusal.invariant.all;
      rest = sym (body_is c.loop-refusal.reader c.feed_one.new.reader c.loop-refusal.builder c.feed_one.new.builder one) ∙ c.loop-refusal.invariant.rest;
      total = one.total ∙ c.loop-refusal.invariant.total;
      stands = λ done s. subst (Stands c.feed_one.new.builder) (append_assoc done fed (one.record_fed ∷ [])) (one.stands (done ++ fed) (c.loop-refusal.invariant.stands done s));
    }
