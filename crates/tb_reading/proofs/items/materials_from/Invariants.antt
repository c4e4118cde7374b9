use Rattle.std.proofs.Common.{◌≡◌, map, take}
use Rattle.tb_reading.specs.Records.{place_in}
use Rattle.tb_reading.proofs.items.materials_from.Given as goal

abbrev pub invariant-loop-value : goal.invariant-loop-value
invariant-loop-value l = l.places ≡ map place_in (take l.value-index l.values)
