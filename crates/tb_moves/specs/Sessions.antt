-- A session as contracts see it: a body on a grid in a case, with a present field and a present flux.
use Rattle.std.specs.Prelude.{◌≡◌, ◌^◌, List, ℤ, pos, ◌≤ℤ◌, ◌<ℤ◌}
use Rattle.tb_detail.specs.declared.Detail.{Detail}
use Rattle.tb_detail.specs.Limits.{InLimits}
use Rattle.tb_grid.specs.Grid.{Axes, counts_of}
use Rattle.tb_model.specs.Energy as model
use Rattle.tb_model.specs.Energy.{IsBalanced, flux_terms, lower_end, rounded_up, upper_end}
use Rattle.tb_model.specs.Mesh.{Mesh}
use Rattle.tb_model.specs.Values.{case_of}
use Rattle.tb_geometry.specs.declared.case.Case.{Case}
use Rattle.tb_geometry.specs.Faults.{IsAccepted}
use Rattle.tb_geometry.specs.Grids.{CarriesBody, mesh_on}
use Rattle.tb_field.specs.Fields.{AreTemperatures, FitsNodes, field_on}
use Rattle.tb_flux.specs.Fluxes.{AreFlows, FitsFaces, flux_on}
use Rattle.tb_weighted.specs.Moves.{State}
use Rattle.tb_weighted.specs.Weighted.{weighted_flux}

pub record Session : Type 0 where
  pub body : Detail
  pub grid : Axes
  pub case : Case
  pub field : List ℤ
  pub flux : List ℤ

abbrev pub mesh_of : Session → Mesh
mesh_of s = mesh_on s.body s.grid

abbrev pub inside_of : Session → model.Case
inside_of s = case_of s.case.mask

abbrev pub state_of : Session → State
state_of s = record { field = s.field; flux = s.flux }

-- body, grid and case are the same
pub record AreAlike (s t : Session) : Type 0 where
  pub body : t.body ≡ s.body
  pub grid : t.grid ≡ s.grid
  pub case : t.case ≡ s.case

-- the ends that a field and a flux have in a session's place
abbrev pub upper_of : Session → List ℤ → ℤ
upper_of s field = upper_end (mesh_of s) (inside_of s) (field_on s.grid field)

abbrev pub lower_of : Session → List ℤ → ℤ
lower_of s flux = lower_end (mesh_of s) (inside_of s) (flux_on s.grid flux)

-- what every session keeps: field and flux fit and are within limits, the flux is balanced, and its weighted energy is
-- at most 2¹⁰³, so that the lower end is no sum past the limit
pub record IsKept (s : Session) : Type 0 where
  pub limits : InLimits s.body
  pub accepted : IsAccepted s.body
  pub carries : CarriesBody s.grid s.body
  pub field_fits : FitsNodes (counts_of s.grid) s.field
  pub field_limits : AreTemperatures s.field
  pub flux_fits : FitsFaces (counts_of s.grid) s.flux
  pub flux_limits : AreFlows s.flux
  pub balanced : IsBalanced (mesh_of s) (flux_on s.grid s.flux)
  pub bounded : weighted_flux (mesh_of s) (inside_of s) (flux_on s.grid s.flux) ≤ℤ pos (2 ^ 103)

-- a field is better than the present one: its upper end is lower
abbrev pub IsLower : Session → List ℤ → Type 0
IsLower s field = upper_of s field <ℤ upper_of s s.field

-- a flux is balanced, its loss is within the limit of sums, and its lower end is at least 0 and higher than another
pub record IsHigherThan (body : Detail) (grid : Axes) (case : Case) (other : ℤ) (flux : List ℤ) : Type 0 where
  pub balanced : IsBalanced (mesh_on body grid) (flux_on grid flux)
  pub within : rounded_up (mesh_on body grid) (flux_terms (mesh_on body grid) (flux_on grid flux)) ≤ℤ pos (2 ^ 120)
  pub least : pos 0 ≤ℤ lower_end (mesh_on body grid) (case_of case.mask) (flux_on grid flux)
  pub higher : other <ℤ lower_end (mesh_on body grid) (case_of case.mask) (flux_on grid flux)

-- a flux is better than the present one
abbrev pub IsHigher : Session → List ℤ → Type 0
IsHigher s flux = IsHigherThan s.body s.grid s.case (lower_of s s.flux) flux

-- the session with another field, and with another flux
abbrev pub with_field : Session → List ℤ → Session
with_field s field = record { body = s.body; grid = s.grid; case = s.case; field = field; flux = s.flux }

abbrev pub with_flux : Session → List ℤ → Session
with_flux s flux = record { body = s.body; grid = s.grid; case = s.case; field = s.field; flux = flux }
