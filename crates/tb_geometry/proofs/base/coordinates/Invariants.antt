use Rattle.std.proofs.Common.{◌≡◌, take}
use Rattle.tb_geometry.specs.Base.{coordinates}
use Rattle.tb_geometry.proofs.base.coordinates.Given as goal

abbrev pub invariant-loop-b : goal.invariant-loop-b
invariant-loop-b l = l.all.items ≡ coordinates l.axis (take l.b-index l.boxes)
