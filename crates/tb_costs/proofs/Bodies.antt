-- The mesh of a grid that carries a body within limits: what is positive in it, and how many cells it has.
use Rattle.std.proofs.Common.{◌<◌, ◌≤◌, List, arith}
use lib.IntN.{ℤ, pos}
use lib.Signed.{◌≤ℤ◌}
use Rattle.tb_places.specs.declared.AxisName.{AxisName}
use Rattle.tb_places.specs.Places.{cell_count}
use Rattle.tb_detail.specs.declared.Detail.{Detail}
use Rattle.tb_detail.specs.Limits.{InLimits}
use Rattle.tb_grid.specs.Grid.{Axes, IsGrid}
use Rattle.tb_model.specs.Energy.{Case, flux_terms, lower_end, rounded_up}
use Rattle.tb_model.specs.Positive.{IsPhysical}
use Rattle.tb_model.specs.Refinement.{scene_of}
use Rattle.tb_model.specs.Values.{flux_of}
use Rattle.tb_weighted.specs.Limits.{IsFlux}
use Rattle.tb_weighted.specs.Weighted.{weighted_flux}
use Rattle.tb_geometry.specs.Grids.{CarriesBody, mesh_on, refinement_of}
use Rattle.tb_duality.proofs.BodiesInLimits.{boxes_positive}
use Rattle.tb_duality.proofs.PhysicalMeshes.{mesh_physical}
use Rattle.tb_costs.proofs.Costs.{cost_bounded, energy_bounded}
use Rattle.tb_costs.proofs.Flows.{flow_along}
use Rattle.tb_costs.specs.Admissible.{most_energy, most_loss}

module _ (d : Detail) (g : Axes) (limits : InLimits d) (carries : CarriesBody g d) (grid : IsGrid g) where
  physical : IsPhysical (mesh_on d g)
  physical = mesh_physical (scene_of d) (refinement_of g) carries (boxes_positive d limits)

  some : (a : AxisName) → 0 < (mesh_on d g).cells a
  some a = let least = (grid.axes a).least in omega (arith, least)

  few : cell_count (mesh_on d g).cells ≤ 262144
  few = grid.few

  pub costs : (inside : Case) (flows : List ℤ) → IsFlux (mesh_on d g).cells flows → weighted_flux (mesh_on d g) inside (flux_of (mesh_on d g).cells flows) ≤ℤ most_energy
      → rounded_up (mesh_on d g) (flux_terms (mesh_on d g) (flux_of (mesh_on d g).cells flows)) ≤ℤ most_loss
  costs inside flows flux = cost_bounded (mesh_on d g) inside (flux_of (mesh_on d g).cells flows) physical (flow_along (mesh_on d g).cells flows flux.within) some few

  pub energies : (inside : Case) (flows : List ℤ) → IsFlux (mesh_on d g).cells flows → pos 0 ≤ℤ lower_end (mesh_on d g) inside (flux_of (mesh_on d g).cells flows)
      → weighted_flux (mesh_on d g) inside (flux_of (mesh_on d g).cells flows) ≤ℤ most_energy
  energies inside flows flux = energy_bounded (mesh_on d g) inside (flux_of (mesh_on d g).cells flows) physical (flow_along (mesh_on d g).cells flows flux.within) some few
