use Rattle.tb_places.specs.Places.{cell_number, place_at}
use Rattle.tb_grid.specs.Grid.{counts_of}
use Rattle.tb_flux.specs.Walks.{IsKeptBelow}
use Rattle.tb_flux.proofs.flux.Flux.unbalanced_in_layer.Given as goal

abbrev pub invariant-loop-j : goal.invariant-loop-j
invariant-loop-j l = IsKeptBelow l.body l.grid l.fn.self (cell_number (counts_of l.grid) (place_at 0 l.j l.k))
