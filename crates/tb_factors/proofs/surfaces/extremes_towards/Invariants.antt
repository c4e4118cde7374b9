use Rattle.std.proofs.Common.{◌≡◌}
use Rattle.tb_places.specs.Inverse.{face_place}
use Rattle.tb_grid.specs.Grid.{counts_of}
use Rattle.tb_factors.specs.Factors.{extremes, values_towards}
use Rattle.tb_factors.specs.Joined.{joined}
use Rattle.tb_factors.proofs.surfaces.extremes_towards.Given as goal

abbrev pub invariant-loop-number : goal.invariant-loop-number
invariant-loop-number l = l.found ≡ extremes (joined l.number (λ n. values_towards l.body l.grid l.field l.environment (face_place (counts_of l.grid) n)))
