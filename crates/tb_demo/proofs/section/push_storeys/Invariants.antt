use Rattle.std.proofs.Common.{◌≡◌}
use Rattle.tb_demo.specs.Section.{storeys}
use Rattle.tb_demo.proofs.section.push_storeys.Given as goal

abbrev pub invariant-loop-number : goal.invariant-loop-number
invariant-loop-number l = l.boxes.items ≡ storeys l.number
