use Rattle.tb_places.specs.declared.AxisName.TheVariants.{X}
use Rattle.tb_places.specs.Places.{face_number, place_at}
use Rattle.tb_grid.specs.Grid.{counts_of}
use Rattle.tb_flux.specs.Walks.{IsTightBelow}
use Rattle.tb_flux.proofs.flux.Flux.outer_across_x.Given as goal

abbrev pub invariant-loop-j : goal.invariant-loop-j
invariant-loop-j l = IsTightBelow l.body l.grid l.fn.self (face_number (counts_of l.grid) X (place_at 0 l.j l.k))
