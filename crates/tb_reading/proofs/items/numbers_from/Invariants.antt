use Rattle.std.proofs.Common.{◌≡◌, map, take}
use Rattle.tb_reading.specs.Records.{number_in}
use Rattle.tb_reading.proofs.items.numbers_from.Given as goal

abbrev pub invariant-loop-value : goal.invariant-loop-value
invariant-loop-value l = l.numbers ≡ map number_in (take l.value-index l.values)
