use Rattle.std.proofs.Common.{◌≡◌, ◌+◌, ◌≤◌, ◌++◌, List, length}
use Rattle.tb_records.specs.Records.{records_of}
use Rattle.tb_reading.specs.Builders.{Stands}
use Rattle.tb_reading.specs.Reading.{Numbered, numbered}
use Rattle.tb_reading.proofs.builder.read_detail.Given as goal

abbrev pub invariant-loop-builder : goal.invariant-loop-builder
invariant-loop-builder l = record {
  done : List Numbered;
  stands : Stands l.builder done;
  all : done ++ numbered l.number l.left ≡ numbered 1 (records_of l.fn.bytes);
  few : l.number + length l.left ≤ 268435457;
}

abbrev pub decreases-loop-builder : goal.decreases-loop-builder
decreases-loop-builder l = length l.left
