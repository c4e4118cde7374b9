use Rattle.std.proofs.Common.{◌≡◌, ◌++◌, List, length}
use Rattle.tb_reading.specs.Builders.{Stands}
use Rattle.tb_reading.specs.Reading.{Numbered}
use Rattle.tb_bundle.specs.Details.{body_part, detail_part}
use Rattle.tb_bundle.proofs.detail.feed_all.Given as goal

abbrev pub invariant-loop-refusal : goal.invariant-loop-refusal
invariant-loop-refusal l = record {
  fed : List Numbered;
  all : fed ++ detail_part l.reader.ahead ≡ detail_part l.initial.reader.ahead;
  rest : body_part l.reader.ahead ≡ body_part l.initial.reader.ahead;
  total : l.reader.total ≡ l.initial.reader.total;
  stands : (done : List Numbered) → Stands l.initial.builder done → Stands l.builder (done ++ fed);
}

abbrev pub decreases-loop-refusal : goal.decreases-loop-refusal
decreases-loop-refusal l = length l.reader.ahead
