use Rattle.tb_places.specs.declared.AxisName.TheVariants.{Z}
use Rattle.tb_places.specs.Places.{face_number, place_at}
use Rattle.tb_grid.specs.Grid.{counts_of}
use Rattle.tb_flux.specs.Walks.{IsTightBelow}
use Rattle.tb_flux.proofs.flux.Flux.first_outer.Given as goal

abbrev pub invariant-loop-k : goal.invariant-loop-k
invariant-loop-k l = IsTightBelow l.body l.grid l.fn.self (face_number (counts_of l.grid) Z (place_at 0 0 l.k))
