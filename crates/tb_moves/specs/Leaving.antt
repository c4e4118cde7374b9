-- What moves leave of a state.
use Rattle.std.specs.Prelude.{◌≤ℤ◌}
use Rattle.tb_model.specs.Energy.{Case}
use Rattle.tb_model.specs.Mesh.{Mesh}
use Rattle.tb_model.specs.Values.{field_of, flux_of}
use Rattle.tb_weighted.specs.Moves.{State}
use Rattle.tb_weighted.specs.Weighted.{weighted_field, weighted_flux}
use Rattle.tb_costs.specs.Admissible.{IsAdmissible}

-- the state is admissible, so its flux is balanced, and neither weighted energy is above what it was
pub record RaisesNothing (m : Mesh) (inside : Case) (old new : State) : Type 0 where
  pub admissible : IsAdmissible m inside new
  pub field : weighted_field m inside (field_of m.cells new.field) ≤ℤ weighted_field m inside (field_of m.cells old.field)
  pub flux : weighted_flux m inside (flux_of m.cells new.flux) ≤ℤ weighted_flux m inside (flux_of m.cells old.flux)
