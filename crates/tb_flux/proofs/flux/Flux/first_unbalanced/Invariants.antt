use Rattle.tb_places.specs.Places.{cell_number, place_at}
use Rattle.tb_grid.specs.Grid.{counts_of}
use Rattle.tb_flux.specs.Walks.{IsKeptBelow}
use Rattle.tb_flux.proofs.flux.Flux.first_unbalanced.Given as goal

abbrev pub invariant-loop-k : goal.invariant-loop-k
invariant-loop-k l = IsKeptBelow l.body l.grid l.fn.self (cell_number (counts_of l.grid) (place_at 0 0 l.k))
