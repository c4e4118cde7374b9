-- Each cell of a grid that carries an accepted body lies in a box, and so it is filled.
use Rattle.std.proofs.Common.{sym, ◌∙◌}
use Rattle.std.proofs.lemmas.Option.{none-some}
use Rattle.tb_places.specs.Places.{place_at}
use Rattle.tb_detail.specs.declared.Detail.{Detail}
use Rattle.tb_grid.specs.Grid.{Axes}
use Rattle.tb_geometry.specs.Faults.{IsAccepted}
use Rattle.tb_geometry.specs.Grids.{CarriesBody, mesh_on}
use Rattle.tb_geometry.proofs.Whole.{cell_in_box}
use Rattle.tb_relax.specs.Balance.{IsFilled}

pub body_fills : (d : Detail) (g : Axes) → IsAccepted d → CarriesBody g d → IsFilled (mesh_on d g)
body_fills d g accepted carries i j k hi hj hk none =
    let held = cell_in_box d g (place_at i j k) accepted.apart accepted.covered carries (hi, hj, hk) in
    none-some held.box.content (sym none ∙ held.fills)
